-- The box that is picked for a profile. Source: this project.
-- `named` gives the name of a box, and `code_of` its code.
use Rattle.std.specs.Prelude.{◌≡◌, ◌≢◌, ◌<◌, ℕ, List, length, slice_index_or}
use Rattle.ec_code.specs.Profiles.{name_of}
use Rattle.ec_code.specs.Refusals.{IsCodeOf, KeepsPromise}
use Rattle.ec_code.specs.declared.profile.Profile.{Profile}
use Rattle.ec_model.specs.Codes.{CodeRows}

-- box i is the first of the profile's plugin. It became the code of the profile, and the other boxes are as they were
pub record IsPicked {Box : Type 0} (named : Box → List ℕ) (code_of : Box → CodeRows) (p : Profile) (old new : List Box) (i : ℕ) : Type 0 where
  pub below : i < length new
  pub plugin : (d : Box) → named (slice_index_or old i d) ≡ name_of p.plugin
  pub first : (j : ℕ) (d : Box) → j < i → named (slice_index_or old j d) ≢ name_of p.plugin
  pub made : (d : Box) → IsCodeOf p (code_of (slice_index_or new i d))
  pub promise : (d : Box) → KeepsPromise p.plugin (code_of (slice_index_or new i d))
  pub others : (j : ℕ) (d : Box) → j ≢ i → slice_index_or new j d ≡ slice_index_or old j d
