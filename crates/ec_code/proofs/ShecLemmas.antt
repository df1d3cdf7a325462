-- The first fault of a profile of the plugin shec, one after another, and the codes of the others.
use Rattle.std.proofs.Common.{◌≡◌, ◌⊎◌, ℕ, List, [], ◌∷◌, ◌+◌, ◌<◌, Some, None, ◌≤◌, Bool, true, false, refl, ap, sym, ◌∙◌, subst, arith, inl, inr}
use Rattle.std.specs.Prelude.{⊤, length, codes, IsSome}
use Rattle.std.specs.declared.option.Option.{Option}
use Rattle.ec_model.specs.Codes.{CodeRows}
use Rattle.ec_model.specs.Shec.{IsShec}
use Rattle.ec_code.specs.declared.profile.Plugin.{Plugin}
use Rattle.ec_code.specs.declared.profile.Plugin.TheVariants as plugin
use Rattle.ec_code.specs.declared.profile.Technique.{Technique}
use Rattle.ec_code.specs.declared.profile.Profile.{Profile}
use Rattle.ec_code.specs.declared.fault.ProfileFault.{ProfileFault}
use Rattle.ec_code.specs.declared.fault.ProfileFault.TheVariants as fault
use Rattle.ec_code.specs.declared.fault.Key.TheVariants as key
use Rattle.ec_code.specs.Profiles.{name_of}
use Rattle.ec_code.specs.ShecFaults.{AreMany, IsOutside, AreUnordered, HasShecFault, IsShecsCode}
use Rattle.ec_code.specs.Refusals.{fault_order, HasFaultOf, IsFirst, IsUnit, Given, IsRefusedBy, IsPluginsCode, IsCodeOf, KeepsPromise}

abbrev IsGiven : {A : Type 0} → Option A → Type 0
IsGiven {A} (Some _) = ⊤
IsGiven {A} None = ⊥

abbrev IsNot : Bool → Type 0
IsNot true = ⊥
IsNot false = ⊤

no_value : false ≡ true → ⊥
no_value e = subst IsNot e tt

given : {A : Type 0} (s : Option A) (value : A) → s ≡ Some value → s ≡ None → ⊥
given {A} s value e n = let P : Option A → Type 0 = λ o. IsGiven o in subst P (sym e ∙ n) tt

pub not_none : (t : Option Technique) → IsSome t → t ≡ None → ⊥
not_none None is e = no_value is
not_none (Some t) is e = given (Some t) t refl e

value_of : Option ℕ → ℕ
value_of (Some value) = value
value_of None = 0

same_value : (s : Option ℕ) (one other : ℕ) → s ≡ Some one → s ≡ Some other → one ≡ other
unfolding value_of
same_value s one other e f = ap value_of (sym e ∙ f)

at_most : (n bound : ℕ) → (n ≤ bound) ⊎ (bound < n)
at_most n bound = grind arith

-- the numbers of a profile of the plugin shec
pub record HasCounts (p : Profile) (k m c : ℕ) : Type 0 where
  pub of_shec : p.plugin ≡ plugin.Shec
  pub first : p.k ≡ Some k
  pub second : p.m ≡ Some m
  pub third : p.c ≡ Some c
  pub technique : p.technique ≡ None → ⊥

-- a fault of shec is the first
refused : (p : Profile) (f : ProfileFault) → p.plugin ≡ plugin.Shec → IsFirst (HasShecFault p) fault_order f → IsRefusedBy p f
refused p f e is = let P : Plugin → Type 0 = λ q. IsFirst (HasFaultOf q p) fault_order f in subst P (sym e) is

pub missing_c_first : (p : Profile) → p.plugin ≡ plugin.Shec → p.c ≡ None → IsRefusedBy p (fault.Missing key.C)
missing_c_first p e is = refused p (fault.Missing key.C) e (inr (λ x. x, inl (is, refl)))

pub missing_k_first : (p : Profile) (c : ℕ) → p.plugin ≡ plugin.Shec → p.c ≡ Some c → p.k ≡ None → IsRefusedBy p (fault.Missing key.K)
missing_k_first p c e ec is = refused p (fault.Missing key.K) e (inr (λ x. x, inr (given p.c c ec, inl (is, refl))))

pub missing_m_first : (p : Profile) (k c : ℕ) → p.plugin ≡ plugin.Shec → p.c ≡ Some c → p.k ≡ Some k → p.m ≡ None → IsRefusedBy p (fault.Missing key.M)
missing_m_first p k c e ec ek is =
    refused p (fault.Missing key.M) e (inr (λ x. x, inr (given p.c c ec, inr (given p.k k ek, inr (λ x. x, inr (λ x. x, inl (is, refl)))))))

pub missing_technique_first : (p : Profile) (k m c : ℕ) → p.plugin ≡ plugin.Shec → p.c ≡ Some c → p.k ≡ Some k → p.m ≡ Some m → p.technique ≡ None
    → IsRefusedBy p (fault.Missing key.Technique)
missing_technique_first p k m c e ec ek em is =
    refused p (fault.Missing key.Technique) e
    (inr (λ x. x, inr (given p.c c ec, inr (given p.k k ek, inr (λ x. x, inr (λ x. x, inr (given p.m m em, inr (λ x. x, inl (is, refl)))))))))

-- the faults past the missing keys
abbrev late_faults : List ProfileFault
late_faults = fault.Technique ∷ fault.Width ∷ fault.SmallK ∷ fault.SmallM ∷ fault.TooMany ∷ fault.Divides ∷ fault.LayerLength ∷ fault.LayerInput
    ∷ fault.LayerOutput ∷ fault.Unit ∷ fault.MinSize ∷ fault.Order ∷ []

late : (p : Profile) (f : ProfileFault) (k m c : ℕ) → HasCounts p k m c → IsFirst (HasShecFault p) late_faults f → IsRefusedBy p f
late p f k m c h is =
    refused p f h.of_shec
    (inr (λ x. x, inr (given p.c c h.third, inr (given p.k k h.first, inr (λ x. x, inr (λ x. x, inr (given p.m m h.second, inr (λ x. x, inr (h.technique, is)))))))))

pub shec_technique_first : (p : Profile) (k m c : ℕ) → HasCounts p k m c → HasShecFault p fault.Technique → IsRefusedBy p fault.Technique
shec_technique_first p k m c h is = late p fault.Technique k m c h (inl (is, refl))

pub shec_width_first : (p : Profile) (k m c : ℕ) → HasCounts p k m c → (HasShecFault p fault.Technique → ⊥) → HasShecFault p fault.Width → IsRefusedBy p fault.Width
shec_width_first p k m c h t is = late p fault.Width k m c h (inr (t, inl (is, refl)))

-- nothing is wrong with the technique and the width
pub record PassesWords (p : Profile) : Type 0 where
  pub technique : HasShecFault p fault.Technique → ⊥
  pub width : HasShecFault p fault.Width → ⊥

pub shec_small_k_first : (p : Profile) (k m c : ℕ) → HasCounts p k m c → PassesWords p → k < 1 → IsRefusedBy p fault.SmallK
shec_small_k_first p k m c h s lt = late p fault.SmallK k m c h (inr (s.technique, inr (s.width, inl ((k, h.first, lt), refl))))

not_small_k : (p : Profile) (k m c : ℕ) → HasCounts p k m c → 1 ≤ k → HasShecFault p fault.SmallK → ⊥
not_small_k p k m c h le is = let e = same_value p.k k is.0 h.first is.1 in omega (arith, is.2)

small_of_m : (p : Profile) (k m c : ℕ) → HasCounts p k m c → (m < 1) ⊎ (c < 1) → HasShecFault p fault.SmallM
small_of_m p k m c h (inl lt) = inl (m, h.second, lt)
small_of_m p k m c h (inr lt) = inr (c, h.third, lt)

pub shec_small_m_first : (p : Profile) (k m c : ℕ) → HasCounts p k m c → PassesWords p → 1 ≤ k → (m < 1) ⊎ (c < 1) → IsRefusedBy p fault.SmallM
shec_small_m_first p k m c h s lk is =
    late p fault.SmallM k m c h (inr (s.technique, inr (s.width, inr (not_small_k p k m c h lk, inl (small_of_m p k m c h is, refl)))))

-- each number is at least 1
pub record AreSome (k m c : ℕ) : Type 0 where
  pub data_chunks : 1 ≤ k
  pub coding_chunks : 1 ≤ m
  pub covers : 1 ≤ c

not_small_m : (p : Profile) (k m c : ℕ) → HasCounts p k m c → AreSome k m c → HasShecFault p fault.SmallM → ⊥
not_small_m p k m c h s (inl is) = let e = same_value p.m m is.0 h.second is.1 in omega (arith, is.2, s.coding_chunks)
not_small_m p k m c h s (inr is) = let e = same_value p.c c is.0 h.third is.1 in omega (arith, is.2, s.covers)

after_small : (p : Profile) (f : ProfileFault) (k m c : ℕ) → HasCounts p k m c → PassesWords p → AreSome k m c
    → IsFirst (HasShecFault p) (fault.TooMany ∷ fault.Divides ∷ fault.LayerLength ∷ fault.LayerInput ∷ fault.LayerOutput ∷ fault.Unit ∷ fault.MinSize ∷ fault.Order ∷ []) f
    → IsRefusedBy p f
after_small p f k m c h s some is =
    late p f k m c h (inr (s.technique, inr (s.width, inr (not_small_k p k m c h some.data_chunks, inr (not_small_m p k m c h some, is)))))

pub shec_too_many_first : (p : Profile) (k m c : ℕ) → HasCounts p k m c → PassesWords p → AreSome k m c → AreMany k m → IsRefusedBy p fault.TooMany
shec_too_many_first p k m c h s some is = after_small p fault.TooMany k m c h s some (inl ((k, h.first, (m, h.second, is)), refl))

not_too_many : (p : Profile) (k m c : ℕ) → HasCounts p k m c → k + m ≤ 16 → k ≤ 12 → HasShecFault p fault.TooMany → ⊥
not_too_many p k m c h few short is =
    let e = same_value p.k k is.0 h.first is.1 in
    let f = same_value p.m m is.2.0 h.second is.2.1 in
    let many : AreMany is.0 is.2.0 = is.2.2 in
    grind (arith, e, f, many, few, short)

pub few_of : (k m : ℕ) → (AreMany k m → ⊥) → k + m ≤ 16
few_of k m fine = elim (at_most (k + m) 16) [
  | inl few ↦ few
  | inr many ↦ absurd (fine (inl many))
]

pub short_of : (k m : ℕ) → (AreMany k m → ⊥) → k ≤ 12
short_of k m fine = elim (at_most k 12) [
  | inl short ↦ short
  | inr many ↦ absurd (fine (inr many))
]

-- nothing is wrong with the numbers of data and of coding chunks
pub record PassesCounts (p : Profile) (k m c : ℕ) : Type 0 where
  pub counts : HasCounts p k m c
  pub words : PassesWords p
  pub some : AreSome k m c
  pub few : k + m ≤ 16
  pub short : k ≤ 12

after_many : (p : Profile) (f : ProfileFault) (k m c : ℕ) → PassesCounts p k m c → IsFirst (HasShecFault p) (fault.Unit ∷ fault.MinSize ∷ fault.Order ∷ []) f → IsRefusedBy p f
after_many p f k m c h is =
    after_small p f k m c h.counts h.words h.some (inr (not_too_many p k m c h.counts h.few h.short, inr (λ x. x, inr (λ x. x, inr (λ x. x, inr (λ x. x, is))))))

pub shec_unit_first : (p : Profile) (k m c : ℕ) → PassesCounts p k m c → (IsUnit p.stripe_unit → ⊥) → IsRefusedBy p fault.Unit
shec_unit_first p k m c h u = after_many p fault.Unit k m c h (inl (u, refl))

pub shec_min_size_first : (p : Profile) (k m c : ℕ) → PassesCounts p k m c → IsUnit p.stripe_unit → Given p.min_size (λ least. IsOutside k m least)
    → IsRefusedBy p fault.MinSize
shec_min_size_first p k m c h u is =
    after_many p fault.MinSize k m c h (inr (λ no. no u, inl ((k, h.counts.first, (m, h.counts.second, is)), refl)))

not_min_size : (p : Profile) (k m c : ℕ) → HasCounts p k m c → (Given p.min_size (λ least. IsOutside k m least) → ⊥) → HasShecFault p fault.MinSize → ⊥
not_min_size p k m c h fine is =
    let e = same_value p.k k is.0 h.first is.1 in
    let f = same_value p.m m is.2.0 h.second is.2.1 in
    let outside : IsOutside is.0 is.2.0 is.2.2.0 = is.2.2.2 in
    let moved : IsOutside k m is.2.2.0 = grind (arith, e, f, outside) in
    fine (is.2.2.0, is.2.2.1, moved)

pub shec_order_first : (p : Profile) (k m c : ℕ) → PassesCounts p k m c → IsUnit p.stripe_unit → (Given p.min_size (λ least. IsOutside k m least) → ⊥) → AreUnordered k m c
    → IsRefusedBy p fault.Order
shec_order_first p k m c h u fine is =
    after_many p fault.Order k m c h
    (inr (λ no. no u, inr (not_min_size p k m c h.counts fine, inl ((k, h.counts.first, (m, h.counts.second, (c, h.counts.third, is))), refl))))

not_unordered : (p : Profile) (k m c : ℕ) → HasCounts p k m c → c ≤ m → m ≤ k → HasShecFault p fault.Order → ⊥
not_unordered p k m c h le lk is =
    let e = same_value p.k k is.0 h.first is.1 in
    let f = same_value p.m m is.2.0 h.second is.2.1 in
    let g = same_value p.c c is.2.2.0 h.third is.2.2.1 in
    let unordered : AreUnordered is.0 is.2.0 is.2.2.0 = is.2.2.2 in
    grind (arith, e, f, g, unordered, le, lk)

-- the name of the plugin, and the code of a profile
pub shec_by_name : (q : Plugin) → name_of q ≡ codes "shec" → q ≡ plugin.Shec
shec_by_name plugin.Jerasure e = absurd (omega (arith, ap length e))
shec_by_name plugin.Lrc e = absurd (omega (arith, ap length e))
shec_by_name plugin.Shec e = refl

pub shec_code_by : (p : Profile) → p.plugin ≡ plugin.Shec → (code : CodeRows) (k m c : ℕ) → p.k ≡ Some k → p.m ≡ Some m → p.c ≡ Some c → IsShec k m c code → IsCodeOf p code
shec_code_by p e code k m c ek em ec is = let P : Plugin → Type 0 = λ q. IsPluginsCode q p code in subst P (sym e) (k, ek, (m, em, (c, ec, is)))

pub shec_promise_by : (q : Plugin) → q ≡ plugin.Shec → (code : CodeRows) → KeepsPromise q code
shec_promise_by q e code = let P : Plugin → Type 0 = λ q. KeepsPromise q code in subst P (sym e) tt

none_or_some : (m : ℕ) → (m < 1) ⊎ (1 ≤ m)
none_or_some m = grind arith

-- the code of a profile of the plugin shec without a fault has a coding chunk
pub shec_coding : (p : Profile) (code : CodeRows) → ((f : ProfileFault) → HasShecFault p f → ⊥) → IsShecsCode p code → code.k < code.n
shec_coding p code ok (k, ek, (m, em, (c, ec, is))) = elim (none_or_some m) [
  | inl none ↦ absurd (ok fault.SmallM (inl (m, em, none)))
  | inr some ↦ omega (arith, some, is.data_chunks, is.positions)
]
