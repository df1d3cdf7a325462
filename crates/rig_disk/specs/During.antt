-- What holds at every instant of a call. Source: this project.
use Rattle.std.specs.Prelude.{◌≡◌, ◌≤◌, ℕ, List}
use Rattle.rig_disk.specs.Disk.{Image}

-- The clock goes on, and what its earlier numbers stand for stays; at every number from old to new each image, with what was said by then, has P.
pub record During {R : Type 0} (clock : R → ℕ) (images : R → ℕ → Image → List ℕ → Type 0) (old new : R) (P : Image → List ℕ → Type 0) : Type 0 where
  pub later : clock old ≤ clock new
  pub kept : (t : ℕ) (image : Image) (text : List ℕ) → t ≤ clock old → images new t image text → images old t image text
  pub stays : (t : ℕ) (image : Image) (text : List ℕ) → t ≤ clock old → images old t image text → images new t image text
  pub each : (t : ℕ) (image : Image) (text : List ℕ) → clock old ≤ t → t ≤ clock new → images new t image text → P image text

-- every image of now has these bytes in an area
abbrev pub Only : {R : Type 0} → (R → ℕ) → (R → ℕ → Image → List ℕ → Type 0) → R → ℕ → ℕ → List ℕ → Type 0
Only clock images rig slot area bytes = (image : Image) (text : List ℕ) → images rig (clock rig) image text → image slot area ≡ bytes
