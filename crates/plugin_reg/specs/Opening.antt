-- Profiles that texts give, and what is said of a text that is refused. Source: this project.
use Rattle.std.specs.Prelude.{◌≡◌, ◌⊎◌, ℕ, List, [], ◌∷◌, ◌++◌, codes, Option, Some, None, Ok, Err}
use Rattle.std.specs.Fmt.{decimal}
use Rattle.ec_code.specs.declared.profile.Profile.{Profile}
use Rattle.ec_code.specs.declared.fault.ProfileFault.{ProfileFault}
use Rattle.ec_code.specs.Faults.{number_of, fault_name_of, carried_key}
use Rattle.ec_code.specs.JsonProfiles.{profile_of_bytes}
use Rattle.ec_code.specs.Refusals.{IsAccepted, IsRefusedBy}

-- a text gives an accepted profile
pub record GivesProfile (text : List ℕ) (p : Profile) : Type 0 where
  pub read : profile_of_bytes text ≡ Ok p
  pub accepted : IsAccepted p

-- a text is refused by its first fault: it gives no profile, or one with which something is wrong
abbrev pub IsRefused : List ℕ → ProfileFault → Type 0
IsRefused text f = (profile_of_bytes text ≡ Err f) ⊎ ((p : Profile) × (profile_of_bytes text ≡ Ok p) × IsRefusedBy p f)

-- the key that a fault carries, as a further field
abbrev pub key_field : Option (List ℕ) → List ℕ
key_field (Some key) = 32 ∷ key
key_field None = []

-- `profile NUMBER NAME`, and the key if the fault carries one
abbrev pub fault_line : ProfileFault → List ℕ
fault_line f = codes "profile " ++ (decimal (number_of f) ++ 32 ∷ (fault_name_of f ++ (key_field (carried_key f) ++ 10 ∷ [])))
