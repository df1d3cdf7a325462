-- The box whose code is that of a map's profile. Source: this project.
-- `named` gives the name of a box, and `code_of` the rows of its code.
use Rattle.std.specs.Prelude.{◌≡◌, ℕ, List, slice_index_or}
use Rattle.ec_model.specs.Codes.{CodeRows}
use Rattle.ec_code.specs.declared.profile.Profile.{Profile}
use Rattle.plugin_reg.specs.Picks.{IsPicked}

-- box i is picked for the profile, whose code has n positions
pub record IsOpened {Box : Type 0} (named : Box → List ℕ) (code_of : Box → CodeRows) (p : Profile) (n : ℕ) (old new : List Box) (i : ℕ) : Type 0 where
  pub picked : IsPicked named code_of p old new i
  pub positions : (d : Box) → (code_of (slice_index_or new i d)).n ≡ n
