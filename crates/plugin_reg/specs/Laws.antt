-- Laws about the definitions of this crate. Source: this project.
use Rattle.std.specs.Prelude.{◌≡◌, ◌<◌, ◌^◌, ℕ, List, Ok}
use Rattle.ec_code.specs.declared.profile.Profile.{Profile}
use Rattle.ec_code.specs.JsonProfiles.{profile_of_bytes}
use Rattle.ec_code.specs.Readings.{profile_of, jerasure_profile}
use Rattle.plugin_reg.specs.Canonical.{jerasure_settings, lines_of, IsWritable}

-- the canonical lines of a profile are read as that profile
abbrev pub LinesAreReadBack : Type 0
LinesAreReadBack =
    (k m least unit : ℕ) → k < 2 ^ 32 → m < 2 ^ 32 → least < 2 ^ 32 → unit < 2 ^ 32
    → profile_of (lines_of (jerasure_settings k m least unit)) ≡ Ok (jerasure_profile k m least unit)

-- each profile that is read has its marks alone in its mapping and its layers, if they count
abbrev pub ReadProfilesAreWritable : Type 0
ReadProfilesAreWritable = (bytes : List ℕ) (p : Profile) → profile_of_bytes bytes ≡ Ok p → IsWritable p
