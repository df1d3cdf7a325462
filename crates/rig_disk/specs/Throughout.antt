-- What all images of an instant have together, at every instant of a call. Source: this project.
use Rattle.std.specs.Prelude.{◌≤◌, ℕ, List}

-- The clock goes on, and what its earlier numbers stand for stays; at every number from old to new the images of that instant, each with what was said by then, have Q together.
pub record Throughout {R I : Type 0} (clock : R → ℕ) (images : R → ℕ → I → List ℕ → Type 0) (old new : R) (Q : (I → List ℕ → Type 0) → Type 0) : Type 0 where
  pub later : clock old ≤ clock new
  pub kept : (t : ℕ) (image : I) (text : List ℕ) → t ≤ clock old → images new t image text → images old t image text
  pub stays : (t : ℕ) (image : I) (text : List ℕ) → t ≤ clock old → images old t image text → images new t image text
  pub together : (t : ℕ) → clock old ≤ t → t ≤ clock new → Q (images new t)

-- each of these images has P: what `During` says of every image of an instant
abbrev pub Each : {I : Type 0} → (I → List ℕ → Type 0) → (I → List ℕ → Type 0) → Type 0
Each {I = I} P images = (image : I) (text : List ℕ) → images image text → P image text

-- what images have together holds of any images that are all among them
abbrev pub IsOfImages : {I : Type 0} → ((I → List ℕ → Type 0) → Type 0) → Type 1
IsOfImages {I = I} Q = (here there : I → List ℕ → Type 0) → ((image : I) (text : List ℕ) → there image text → here image text) → Q here → Q there
