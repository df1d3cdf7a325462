-- Laws of the instants of calls on a pool. Source: this project.
use Rattle.std.specs.Prelude.{ℕ, List}
use Rattle.ec_model.specs.Codes.{CodeRows}
use Rattle.rig_disk.specs.Disk.{Image}
use Rattle.rig_disk.specs.During.{During}
use Rattle.pool_moves.specs.Contents.{Layout}
use Rattle.pool_moves.specs.Instants.{MovedFrom}
use Rattle.pool_moves.specs.Moves.{Move}

-- at each instant of a call the image is made by moves from an image of its start
abbrev pub MovesAlone : {R : Type 0} → (R → ℕ) → (R → ℕ → Image → List ℕ → Type 0) → CodeRows → Layout → R → R → Type 0
MovesAlone clock_of images_of code l old new = During clock_of images_of old new (MovedFrom (Move code l) l (images_of old (clock_of old)))

-- so it is of two calls, one after the other
abbrev pub MovesGoOn : {R : Type 0} → (R → ℕ) → (R → ℕ → Image → List ℕ → Type 0) → Type 0
MovesGoOn {R} clock_of images_of = (code : CodeRows) (l : Layout) (old mid new : R)
    → MovesAlone clock_of images_of code l old mid → MovesAlone clock_of images_of code l mid new → MovesAlone clock_of images_of code l old new

-- so it is of a call that changes no image
abbrev pub StillCallsMove : {R : Type 0} → (R → ℕ) → (R → ℕ → Image → List ℕ → Type 0) → Type 0
StillCallsMove {R} clock_of images_of = (code : CodeRows) (l : Layout) (old new : R)
    → During clock_of images_of old new (λ image said. images_of old (clock_of old) image said) → MovesAlone clock_of images_of code l old new
