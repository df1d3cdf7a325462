-- The profile that the canonical lines of an accepted one are read as is accepted too, and means the same code.
use Rattle.std.proofs.Common.{◌≡◌, ◌⊎◌, ℕ, ◌+◌, ◌-◌, ◌<◌, ◌≤◌, Some, None, refl, sym, subst, arith, inl, inr}
use Rattle.std.specs.Prelude.{⊤}
use Rattle.std.specs.declared.option.Option.{Option}
use Rattle.ec_model.specs.Codes.{CodeRows}
use Rattle.ec_model.specs.ReedSolVan.{IsReedSolVan}
use Rattle.ec_code.specs.declared.profile.Plugin.TheVariants as plugin
use Rattle.ec_code.specs.declared.profile.Technique.TheVariants as technique
use Rattle.ec_code.specs.declared.profile.Profile.{Profile}
use Rattle.ec_code.specs.declared.fault.ProfileFault.{ProfileFault}
use Rattle.ec_code.specs.declared.fault.ProfileFault.TheVariants as fault
use Rattle.ec_code.specs.declared.fault.Key.TheVariants as key
use Rattle.ec_code.specs.Readings.{jerasure_profile}
use Rattle.ec_code.specs.Refusals.{HasJerasureFault, IsPluginsCode, IsUnit, IsAccepted, IsCodeOf}
use Rattle.ec_code.specs.Shapes.{default_least}

-- the bounds of the numbers of an accepted profile
pub record Bounds (k m least unit : ℕ) : Type 0 where
  pub some_data : 2 ≤ k
  pub some_coding : 1 ≤ m
  pub few : k + m ≤ 16
  pub is_unit : (IsUnit unit → ⊥) → ⊥
  pub from : k ≤ least
  pub to : least ≤ k + m

pub some_same : {A : Type 0} (a b : A) → ◌≡◌ {A = Option A} (Some a) (Some b) → a ≡ b
some_same {A} a b e = cc

abbrev IsThere : {A : Type 0} → Option A → Type 0
IsThere {A} (Some a) = ⊤
IsThere {A} None = ⊥

pub not_none : {A : Type 0} (a : A) → ◌≡◌ {A = Option A} (Some a) None → ⊥
not_none {A} a e = subst (λ (o : Option A). IsThere o) e tt

nothing_wrong : (k m least unit : ℕ) → Bounds k m least unit → (f : ProfileFault) → HasJerasureFault (jerasure_profile k m least unit) f → ⊥
nothing_wrong k m least unit b fault.UnknownPlugin h = h
nothing_wrong k m least unit b (fault.UnknownKey x) h = h
nothing_wrong k m least unit b (fault.BadValue x) h = h
nothing_wrong k m least unit b (fault.Missing key.K) h = not_none k h
nothing_wrong k m least unit b (fault.Missing key.M) h = not_none m h
nothing_wrong k m least unit b (fault.Missing key.C) h = h
nothing_wrong k m least unit b (fault.Missing key.L) h = h
nothing_wrong k m least unit b (fault.Missing key.Technique) h = h
nothing_wrong k m least unit b (fault.Missing key.Mapping) h = h
nothing_wrong k m least unit b (fault.Missing key.Layers) h = h
nothing_wrong k m least unit b fault.Technique h = h.2 (sym (some_same technique.ReedSolVan h.0 h.1))
nothing_wrong k m least unit b fault.Width h = h.2 (sym (some_same 8 h.0 h.1))
nothing_wrong k m least unit b fault.SmallK h = omega (arith, some_same k h.0 h.1, h.2, b.some_data)
nothing_wrong k m least unit b fault.SmallM h = omega (arith, some_same m h.0 h.1, h.2, b.some_coding)
nothing_wrong k m least unit b fault.TooMany h = omega (arith, some_same k h.0 h.1, some_same m h.2.0 h.2.1, h.2.2, b.few)
nothing_wrong k m least unit b fault.Divides h = h
nothing_wrong k m least unit b fault.LayerLength h = h
nothing_wrong k m least unit b fault.LayerInput h = h
nothing_wrong k m least unit b fault.LayerOutput h = h
nothing_wrong k m least unit b fault.Unit h = b.is_unit h
nothing_wrong k m least unit b fault.MinSize h =
    let one = some_same k h.0 h.1 in
    let two = some_same m h.2.0 h.2.1 in
    let three = some_same least h.2.2.0 h.2.2.1 in
    elim h.2.2.2 [
      | inl low ↦ omega (arith, one, three, low, b.from)
      | inr high ↦ omega (arith, one, two, three, high, b.to)
    ]
nothing_wrong k m least unit b fault.Order h = h
nothing_wrong k m least unit b fault.Json h = h
nothing_wrong k m least unit b fault.Setting h = h

-- the least number of positions is the one that is given, or else the default
abbrev pub IsLeastOf : Option ℕ → ℕ → ℕ → ℕ → Type 0
IsLeastOf (Some given) k n least = least ≡ given
IsLeastOf None k n least = least ≡ default_least k n

pub sides : (a b : ℕ) → (a < b) ⊎ (b ≤ a)
sides a b = grind arith

within : (p : Profile) (k m least : ℕ) (s : Option ℕ) → s ≡ p.min_size → p.k ≡ Some k → p.m ≡ Some m → 1 ≤ m
    → (HasJerasureFault p fault.MinSize → ⊥) → IsLeastOf s k (k + m) least → (k ≤ least) × (least ≤ k + m)
within p k m least (Some given) same one two some ok is = (
  elim (sides given k) [ inl low ↦ absurd (ok (k, one, (m, two, (given, sym same, inl low)))) | inr fine ↦ omega (arith, is, fine) ],
  elim (sides (k + m) given) [ inl high ↦ absurd (ok (k, one, (m, two, (given, sym same, inr high)))) | inr fine ↦ omega (arith, is, fine) ],
)
within p k m least None same one two some ok is = (omega (arith, is), omega (arith, is, some))

bounds_of : (p : Profile) (k m least : ℕ) → ((f : ProfileFault) → HasJerasureFault p f → ⊥) → p.k ≡ Some k → p.m ≡ Some m
    → IsLeastOf p.min_size k (k + m) least → Bounds k m least p.stripe_unit
bounds_of p k m least ok one two is =
    let some : 1 ≤ m = elim (sides m 1) [ inl low ↦ absurd (ok fault.SmallM (m, two, low)) | inr fine ↦ fine ] in
    let both = within p k m least p.min_size refl one two some (ok fault.MinSize) is in
    record {
      some_data = elim (sides k 2) [ inl low ↦ absurd (ok fault.SmallK (k, one, low)) | inr fine ↦ fine ];
      some_coding = some;
      few = elim (sides 16 (k + m)) [ inl high ↦ absurd (ok fault.TooMany (k, one, (m, two, high))) | inr fine ↦ fine ];
      is_unit = ok fault.Unit;
      from = both.0;
      to = both.1;
    }

-- what is known of the profile that is read again
pub record IsAgain (code : CodeRows) (least unit : ℕ) : Type 0 where
  pub bounds : Bounds code.k (code.n - code.k) least unit
  pub code_of : IsReedSolVan code.k (code.n - code.k) code

again_by : (p : Profile) (code : CodeRows) (k m least : ℕ) → ((f : ProfileFault) → HasJerasureFault p f → ⊥) → p.k ≡ Some k → p.m ≡ Some m
    → IsReedSolVan k m code → IsLeastOf p.min_size code.k code.n least → IsAgain code least p.stripe_unit
again_by p code k m least ok one two rows is =
    let data_chunks : k ≡ code.k = sym rows.data_chunks in
    let coding : m ≡ code.n - code.k = omega (arith, rows.data_chunks, rows.positions) in
    let positions : code.n ≡ k + m = rows.positions in
    let least_is = subst (λ (n : ℕ). IsLeastOf p.min_size k n least) positions (subst (λ (x : ℕ). IsLeastOf p.min_size x code.n least) (sym data_chunks) is) in
    let bounds = bounds_of p k m least ok one two least_is in
    record {
      bounds = subst (λ (y : ℕ). Bounds code.k y least p.stripe_unit) coding (subst (λ (x : ℕ). Bounds x m least p.stripe_unit) data_chunks bounds);
      code_of = subst (λ (y : ℕ). IsReedSolVan code.k y code) coding (subst (λ (x : ℕ). IsReedSolVan x m code) data_chunks rows);
    }

pub read_again : (p : Profile) (code : CodeRows) (least : ℕ) → ((f : ProfileFault) → HasJerasureFault p f → ⊥) → IsPluginsCode plugin.Jerasure p code
    → IsLeastOf p.min_size code.k code.n least → IsAgain code least p.stripe_unit
read_again p code least ok is l = again_by p code is.0 is.2.0 least ok is.1 is.2.1 is.2.2 l

pub accepted_again : (code : CodeRows) (least unit : ℕ) → IsAgain code least unit
    → IsAccepted (jerasure_profile code.k (code.n - code.k) least unit) × IsCodeOf (jerasure_profile code.k (code.n - code.k) least unit) code
accepted_again code least unit is = (
  nothing_wrong code.k (code.n - code.k) least unit is.bounds,
  (code.k, refl, (code.n - code.k, refl, is.code_of)),
)
