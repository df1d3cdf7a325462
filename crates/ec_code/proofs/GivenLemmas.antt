-- What is known of a profile that was read.
use Rattle.std.proofs.Common.{◌≡◌, ◌⊎◌, ℕ, List, [], ◌∷◌, ◌<◌, ◌≤◌, None, Bool, true, false, Result, Ok, Err, refl, ap, sym, subst, arith, inl, inr}
use Rattle.std.specs.Prelude.{if◌then◌else◌}
use Rattle.std.specs.Str.{is_utf8, IsUtf8}
use Rattle.std.proofs.lemmas.Str.{is_utf8-from_IsUtf8, IsUtf8-from_is_utf8}
use Rattle.ec_code.specs.declared.profile.Plugin.{Plugin}
use Rattle.ec_code.specs.declared.profile.Plugin.TheVariants as plugin
use Rattle.ec_code.specs.declared.profile.Profile.{Profile}
use Rattle.ec_code.specs.declared.fault.ProfileFault.{ProfileFault}
use Rattle.ec_code.specs.declared.fault.ProfileFault.TheVariants as fault
use Rattle.serde_json.specs.Read.{read}
use Rattle.ec_code.specs.JsonProfiles.{begins_object, profile_of_value, profile_of_json, profile_of_settings_text, profile_of_bytes}
use Rattle.ec_code.specs.Readings.{profile_of}
use Rattle.ec_code.specs.LrcFaults.{has_number, HasFaultBy}
use Rattle.ec_code.specs.Refusals.{fault_order, HasFault, HasFaultOf, IsFirst, IsUnit, IsRefusedBy, IsAccepted}

first_is_there : (has : ProfileFault → Type 0) (order : List ProfileFault) (f : ProfileFault) → IsFirst has order f → has f
first_is_there has [] f is = elim is [ ]
first_is_there has (g ∷ order) f (inl is) = subst has (sym is.1) is.0
first_is_there has (g ∷ order) f (inr later) = first_is_there has order f later.1

-- a fault that a profile is refused by is there
pub refused_is_wrong : (p : Profile) (f : ProfileFault) → IsRefusedBy p f → HasFault p f
refused_is_wrong p f is = first_is_there (HasFault p) fault_order f is

pub not_both : (p : Profile) (f : ProfileFault) → IsAccepted p → IsRefusedBy p f → ⊥
not_both p f ok is = ok f (refused_is_wrong p f is)

sides : (a b : ℕ) → (a < b) ⊎ (b ≤ a)
sides a b = grind arith

unit_or_not : (u : ℕ) → ((IsUnit u → ⊥) → ⊥) → (1 ≤ u) × (u ≤ 65536)
unit_or_not u double = (
  elim (sides u 1) [ inl less ↦ absurd (double (λ is. omega (arith, less, is.0))) | inr more ↦ more ],
  elim (sides 65536 u) [ inl less ↦ absurd (double (λ is. omega (arith, less, is.1))) | inr more ↦ more ],
)

unit_of_lrc : (numbers : Bool) (p : Profile) → ((f : ProfileFault) → HasFaultBy numbers p f → ⊥) → (1 ≤ p.stripe_unit) × (p.stripe_unit ≤ 65536)
unit_of_lrc true p ok = unit_or_not p.stripe_unit (ok fault.Unit)
unit_of_lrc false p ok = unit_or_not p.stripe_unit (ok fault.Unit)

unit_of_plugin : (q : Plugin) (p : Profile) → ((f : ProfileFault) → HasFaultOf q p f → ⊥) → (1 ≤ p.stripe_unit) × (p.stripe_unit ≤ 65536)
unit_of_plugin plugin.Jerasure p ok = unit_or_not p.stripe_unit (ok fault.Unit)
unit_of_plugin plugin.Lrc p ok = unit_of_lrc (has_number p) p ok
unit_of_plugin plugin.Shec p ok = unit_or_not p.stripe_unit (ok fault.Unit)

-- the unit of an accepted profile
pub accepted_unit : (p : Profile) → IsAccepted p → (1 ≤ p.stripe_unit) × (p.stripe_unit ≤ 65536)
accepted_unit p ok = unit_of_plugin p.plugin p ok

-- a result is not both
pub not_ok_and_err : (p : Profile) (f : ProfileFault) (r : Result Profile ProfileFault) → r ≡ Ok p → r ≡ Err f → ⊥
not_ok_and_err p f r ok err = cc

pub same_profile : (p q : Profile) (r : Result Profile ProfileFault) → r ≡ Ok p → r ≡ Ok q → p ≡ q
same_profile p q r one other = cc

-- the profile of bytes that are JSON, and of others
pub of_object : (bytes : List ℕ) → begins_object bytes ≡ true → profile_of_bytes bytes ≡ profile_of_json bytes
of_object bytes is = ap (λ b. if b then profile_of_json bytes else profile_of_settings_text bytes) is

pub of_settings : (bytes : List ℕ) → begins_object bytes ≡ false → profile_of_bytes bytes ≡ profile_of_settings_text bytes
of_settings bytes is = ap (λ b. if b then profile_of_json bytes else profile_of_settings_text bytes) is

pub of_text : (bytes : List ℕ) → IsUtf8 bytes → profile_of_settings_text bytes ≡ profile_of bytes
of_text bytes is = ap (λ b. if b then profile_of bytes else Err fault.Setting) (is_utf8-from_IsUtf8 bytes is)

not_utf8 : (bytes : List ℕ) (is : Bool) → is_utf8 bytes ≡ is → (IsUtf8 bytes → ⊥) → is_utf8 bytes ≡ false
not_utf8 bytes true e never = absurd (never (IsUtf8-from_is_utf8 bytes e))
not_utf8 bytes false e never = e

pub of_no_text : (bytes : List ℕ) → (IsUtf8 bytes → ⊥) → profile_of_settings_text bytes ≡ Err fault.Setting
of_no_text bytes never = ap (λ b. if b then profile_of bytes else Err fault.Setting) (not_utf8 bytes (is_utf8 bytes) refl never)

pub of_json_text : (bytes : List ℕ) → IsUtf8 bytes → profile_of_json bytes ≡ profile_of_value (read bytes)
of_json_text bytes is = ap (λ b. if b then profile_of_value (read bytes) else Err fault.Json) (is_utf8-from_IsUtf8 bytes is)

-- bytes that are no JSON
pub of_no_json : (bytes : List ℕ) → (IsUtf8 bytes → read bytes ≡ None) → profile_of_json bytes ≡ Err fault.Json
of_no_json bytes none = by (is_utf8 bytes) refl
  where
    by : (b : Bool) → is_utf8 bytes ≡ b → (if b then profile_of_value (read bytes) else Err fault.Json) ≡ Err fault.Json
    by true e = ap profile_of_value (none (IsUtf8-from_is_utf8 bytes e))
    by false e = refl
