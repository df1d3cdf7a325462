-- The profiles of texts, and their refusals: what layers above cite.
use Rattle.std.proofs.Common.{◌≡◌, ℕ, List, inl, inr, subst}
use Rattle.ec_code.specs.declared.profile.Profile.{Profile}
use Rattle.ec_code.specs.declared.fault.ProfileFault.{ProfileFault}
use Rattle.ec_code.specs.JsonProfiles.{profile_of_bytes}
use Rattle.ec_code.specs.Refusals.{IsRefusedBy}
use Rattle.ec_code.proofs.GivenLemmas.{not_both, not_ok_and_err, same_profile}
use Rattle.plugin_reg.specs.Opening.{GivesProfile, IsRefused}

-- a text that gives a profile is not refused
pub given_not_refused : (text : List ℕ) (p : Profile) (f : ProfileFault) → GivesProfile text p → IsRefused text f → ⊥
given_not_refused text p f gives (inl e) = not_ok_and_err p f (profile_of_bytes text) gives.read e
given_not_refused text p f gives (inr is) =
    not_both p f gives.accepted (subst (λ (q : Profile). IsRefusedBy q f) (same_profile is.0 p (profile_of_bytes text) is.1 gives.read) is.2)
