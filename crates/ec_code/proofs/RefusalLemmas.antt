-- The first fault of a profile of the plugin jerasure, one after another.
use Rattle.std.proofs.Common.{◌≡◌, ◌⊎◌, ℕ, List, [], ◌∷◌, ◌+◌, ◌<◌, Some, None, ◌≤◌, Bool, true, false, refl, ap, sym, ◌∙◌, subst, arith, inl, inr}
use Rattle.std.specs.Prelude.{⊤, length, codes}
use Rattle.std.specs.declared.option.Option.{Option}
use Rattle.ec_model.specs.Codes.{CodeRows, AnyKDecideAll}
use Rattle.ec_model.specs.ReedSolVan.{IsReedSolVan}
use Rattle.ec_code.specs.declared.profile.Plugin.{Plugin}
use Rattle.ec_code.specs.declared.profile.Plugin.TheVariants as plugin
use Rattle.ec_code.specs.declared.profile.Profile.{Profile}
use Rattle.ec_code.specs.declared.fault.ProfileFault.{ProfileFault}
use Rattle.ec_code.specs.declared.fault.ProfileFault.TheVariants as fault
use Rattle.ec_code.specs.Profiles.{name_of}
use Rattle.ec_code.proofs.LayoutLemmas.{lrc_coding}
use Rattle.ec_code.proofs.ShecLemmas.{shec_coding}
use Rattle.ec_code.specs.Refusals.{fault_order, HasFaultOf, HasJerasureFault, IsFirst, IsUnit, Given, IsRefusedBy, IsPluginsCode, IsCodeOf, IsAccepted, KeepsPromise}

abbrev IsGiven : Option ℕ → Type 0
IsGiven (Some _) = ⊤
IsGiven None = ⊥

given : (s : Option ℕ) (value : ℕ) → s ≡ Some value → s ≡ None → ⊥
given s value e n = subst IsGiven (sym e ∙ n) tt

-- the faults past the missing keys
abbrev late_faults : List ProfileFault
late_faults = fault.Technique ∷ fault.Width ∷ fault.SmallK ∷ fault.SmallM ∷ fault.TooMany ∷ fault.Divides ∷ fault.LayerLength ∷ fault.LayerInput
    ∷ fault.LayerOutput ∷ fault.Unit ∷ fault.MinSize ∷ fault.Order ∷ []

-- what is known of a profile whose k and m are given
pub record HasNumbers (p : Profile) (k m : ℕ) : Type 0 where
  pub of_jerasure : p.plugin ≡ plugin.Jerasure
  pub first : p.k ≡ Some k
  pub second : p.m ≡ Some m

refused : (p : Profile) (f : ProfileFault) (k m : ℕ) → HasNumbers p k m → IsFirst (HasJerasureFault p) late_faults f → IsRefusedBy p f
refused p f k m h late =
    let P : Plugin → Type 0 = λ q. IsFirst (HasFaultOf q p) fault_order f in
    subst P (sym h.of_jerasure) (inr (λ x. x, inr (λ x. x, inr (given p.k k h.first, inr (λ x. x, inr (λ x. x, inr (given p.m m h.second, inr (λ x. x, inr (λ x. x, late)))))))))

-- nothing is wrong with the first settings
pub record PassesSettings (p : Profile) : Type 0 where
  pub technique : HasJerasureFault p fault.Technique → ⊥
  pub width : HasJerasureFault p fault.Width → ⊥

pub width_first : (p : Profile) (k m : ℕ) → HasNumbers p k m → (HasJerasureFault p fault.Technique → ⊥) → HasJerasureFault p fault.Width → IsRefusedBy p fault.Width
width_first p k m h t is = refused p fault.Width k m h (inr (t, inl (is, refl)))

value_of : Option ℕ → ℕ
value_of (Some value) = value
value_of None = 0

same_value : (s : Option ℕ) (one other : ℕ) → s ≡ Some one → s ≡ Some other → one ≡ other
unfolding value_of
same_value s one other e f = ap value_of (sym e ∙ f)

not_small_k : (p : Profile) (k m : ℕ) → HasNumbers p k m → 2 ≤ k → HasJerasureFault p fault.SmallK → ⊥
not_small_k p k m h le is = let e = same_value p.k k is.0 h.first is.1 in omega (arith, is.2)

not_small_m : (p : Profile) (k m : ℕ) → HasNumbers p k m → 1 ≤ m → HasJerasureFault p fault.SmallM → ⊥
not_small_m p k m h le is = let e = same_value p.m m is.0 h.second is.1 in omega (arith, is.2)

not_too_many : (p : Profile) (k m : ℕ) → HasNumbers p k m → k + m ≤ 16 → HasJerasureFault p fault.TooMany → ⊥
not_too_many p k m h le is =
    let e = same_value p.k k is.0 h.first is.1 in
    let f = same_value p.m m is.2.0 h.second is.2.1 in
    omega (arith, is.2.2)

pub small_k_first : (p : Profile) (k m : ℕ) → HasNumbers p k m → PassesSettings p → k < 2 → IsRefusedBy p fault.SmallK
small_k_first p k m h s lt = refused p fault.SmallK k m h (inr (s.technique, inr (s.width, inl ((k, h.first, lt), refl))))

pub small_m_first : (p : Profile) (k m : ℕ) → HasNumbers p k m → PassesSettings p → 2 ≤ k → m < 1 → IsRefusedBy p fault.SmallM
small_m_first p k m h s lk lt = refused p fault.SmallM k m h (inr (s.technique, inr (s.width, inr (not_small_k p k m h lk, inl ((m, h.second, lt), refl)))))

-- what is left to say of a profile whose k and m are at least 2 and 1
after_small : (p : Profile) (f : ProfileFault) (k m : ℕ) → HasNumbers p k m → PassesSettings p → 2 ≤ k → 1 ≤ m
    → IsFirst (HasJerasureFault p) (fault.TooMany ∷ fault.Divides ∷ fault.LayerLength ∷ fault.LayerInput ∷ fault.LayerOutput ∷ fault.Unit ∷ fault.MinSize ∷ fault.Order ∷ []) f
    → IsRefusedBy p f
after_small p f k m h s lk lm is = refused p f k m h (inr (s.technique, inr (s.width, inr (not_small_k p k m h lk, inr (not_small_m p k m h lm, is)))))

pub too_many_first : (p : Profile) (k m : ℕ) → HasNumbers p k m → PassesSettings p → 2 ≤ k → 1 ≤ m → 16 < k + m → IsRefusedBy p fault.TooMany
too_many_first p k m h s lk lm lt = after_small p fault.TooMany k m h s lk lm (inl ((k, h.first, (m, h.second, lt)), refl))

-- no fault of layers is one of jerasure
past_layers : (p : Profile) (f : ProfileFault) → IsFirst (HasJerasureFault p) (fault.Unit ∷ fault.MinSize ∷ fault.Order ∷ []) f
    → IsFirst (HasJerasureFault p) (fault.Divides ∷ fault.LayerLength ∷ fault.LayerInput ∷ fault.LayerOutput ∷ fault.Unit ∷ fault.MinSize ∷ fault.Order ∷ []) f
past_layers p f is = inr (λ x. x, inr (λ x. x, inr (λ x. x, inr (λ x. x, is))))

pub unit_first : (p : Profile) (k m : ℕ) → HasNumbers p k m → PassesSettings p → 2 ≤ k → 1 ≤ m → k + m ≤ 16 → (IsUnit p.stripe_unit → ⊥) → IsRefusedBy p fault.Unit
unit_first p k m h s lk lm le u = after_small p fault.Unit k m h s lk lm (inr (not_too_many p k m h le, past_layers p fault.Unit (inl (u, refl))))

pub min_size_first : (p : Profile) (k m : ℕ) → HasNumbers p k m → PassesSettings p → 2 ≤ k → 1 ≤ m → k + m ≤ 16 → IsUnit p.stripe_unit
    → Given p.min_size (λ least. (least < k) ⊎ (k + m < least)) → IsRefusedBy p fault.MinSize
min_size_first p k m h s lk lm le u is =
    after_small p fault.MinSize k m h s lk lm (inr (not_too_many p k m h le, past_layers p fault.MinSize (inr (λ no. no u, inl ((k, h.first, (m, h.second, is)), refl)))))

abbrev IsNot : Bool → Type 0
IsNot true = ⊥
IsNot false = ⊤

pub untrue : false ≡ true → ⊥
untrue e = subst IsNot e tt

-- the code of a profile
pub code_by : (p : Profile) → p.plugin ≡ plugin.Jerasure → (code : CodeRows) (k m : ℕ) → p.k ≡ Some k → p.m ≡ Some m → IsReedSolVan k m code → IsCodeOf p code
code_by p e code k m ek em is = let P : Plugin → Type 0 = λ q. IsPluginsCode q p code in subst P (sym e) (k, ek, (m, em, is))

pub promise_by : (q : Plugin) → q ≡ plugin.Jerasure → (code : CodeRows) → AnyKDecideAll code → KeepsPromise q code
promise_by q e code is = let P : Plugin → Type 0 = λ q. KeepsPromise q code in subst P (sym e) is

pub jerasure_by_name : (q : Plugin) → name_of q ≡ codes "jerasure" → q ≡ plugin.Jerasure
jerasure_by_name plugin.Jerasure e = refl
jerasure_by_name plugin.Lrc e = absurd (omega (arith, ap length e))
jerasure_by_name plugin.Shec e = absurd (omega (arith, ap length e))

none_or_some : (m : ℕ) → (m < 1) ⊎ (1 ≤ m)
none_or_some m = grind arith

coding_of : (q : Plugin) (p : Profile) (code : CodeRows) → ((f : ProfileFault) → HasFaultOf q p f → ⊥) → IsPluginsCode q p code → code.k < code.n
coding_of plugin.Jerasure p code ok is = elim (none_or_some is.2.0) [
  | inl none ↦ absurd (ok fault.SmallM (is.2.0, is.2.1, none))
  | inr some ↦ omega (arith, some, is.2.2.data_chunks, is.2.2.positions)
]
coding_of plugin.Lrc p code ok is = lrc_coding p code ok is
coding_of plugin.Shec p code ok is = shec_coding p code ok is

-- the code of an accepted profile has a coding chunk
pub some_coding : (p : Profile) (code : CodeRows) → IsAccepted p → IsCodeOf p code → code.k < code.n
some_coding p code ok is = coding_of p.plugin p code ok is
