-- A text is refused by one fault, or gives one profile.
use Rattle.std.proofs.Common.{◌≡◌, List, [], ◌∷◌, ℕ, Result, Ok, Err, sym, subst, ◌∙◌, inl, inr}
use Rattle.ec_code.specs.JsonProfiles.{profile_of_bytes}
use Rattle.ec_code.specs.Refusals.{HasFault, IsFirst, IsRefusedBy, fault_order}
use Rattle.ec_code.specs.declared.fault.ProfileFault.{ProfileFault}
use Rattle.ec_code.specs.declared.profile.Profile.{Profile}
use Rattle.plugin_reg.specs.Opening.{GivesProfile, IsRefused}
use Rattle.ec_tool.specs.Laws.{ProfilesAreOne}

first_is_one : (has : ProfileFault → Type 0) (order : List ProfileFault) (f g : ProfileFault) → IsFirst has order f → IsFirst has order g → f ≡ g
first_is_one has [] f g one other = absurd one
first_is_one has (x ∷ order) f g (inl here) (inl there) = here.1 ∙ sym there.1
first_is_one has (x ∷ order) f g (inl here) (inr later) = absurd (later.0 here.0)
first_is_one has (x ∷ order) f g (inr later) (inl there) = absurd (later.0 there.0)
first_is_one has (x ∷ order) f g (inr later) (inr too) = first_is_one has order f g later.1 too.1

first_is_there : (has : ProfileFault → Type 0) (order : List ProfileFault) (f : ProfileFault) → IsFirst has order f → has f
first_is_there has [] f first = absurd first
first_is_there has (x ∷ order) f (inl here) = subst has (sym here.1) here.0
first_is_there has (x ∷ order) f (inr later) = first_is_there has order f later.1

same_error : (r : Result Profile ProfileFault) (f g : ProfileFault) → r ≡ Err f → r ≡ Err g → f ≡ g
same_error r f g one other = cc

same_profile : (r : Result Profile ProfileFault) (p q : Profile) → r ≡ Ok p → r ≡ Ok q → p ≡ q
same_profile r p q one other = cc

not_both : (r : Result Profile ProfileFault) (p : Profile) (f : ProfileFault) → r ≡ Ok p → r ≡ Err f → ⊥
not_both r p f one other = cc

pub refused_once : (text : List ℕ) (f g : ProfileFault) → IsRefused text f → IsRefused text g → f ≡ g
refused_once text f g (inl one) (inl other) = same_error (profile_of_bytes text) f g one other
refused_once text f g (inl one) (inr other) = absurd (not_both (profile_of_bytes text) other.0 f other.1 one)
refused_once text f g (inr one) (inl other) = absurd (not_both (profile_of_bytes text) one.0 g one.1 other)
refused_once text f g (inr one) (inr other) =
    let same = same_profile (profile_of_bytes text) other.0 one.0 other.1 one.1 in
    first_is_one (HasFault one.0) fault_order f g one.2 (subst (λ (p : Profile). IsRefusedBy p g) same other.2)

pub given_once : (text : List ℕ) (p q : Profile) → GivesProfile text p → GivesProfile text q → p ≡ q
given_once text p q one other = same_profile (profile_of_bytes text) p q one.read other.read

pub not_both_ways : (text : List ℕ) (f : ProfileFault) (p : Profile) → IsRefused text f → GivesProfile text p → ⊥
not_both_ways text f p (inl refused) given = not_both (profile_of_bytes text) p f given.read refused
not_both_ways text f p (inr refused) given =
    let same = same_profile (profile_of_bytes text) refused.0 p refused.1 given.read in
    given.accepted f (first_is_there (HasFault p) fault_order f (subst (λ (q : Profile). IsRefusedBy q f) same refused.2))

pub profiles_one : ProfilesAreOne
profiles_one = record { refused = refused_once; given = given_once; either = not_both_ways }
