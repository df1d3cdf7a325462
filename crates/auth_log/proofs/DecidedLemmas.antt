-- The intervals whose eligible members do not decide all.
use Rattle.std.proofs.Common.{◌≡◌, ◌↔◌, ◌<◌, ◌≤◌, ◌+◌, ◌-◌, ◌^◌, ◌⊎◌, inl, inr, ℕ, Bool, List, Option, Some, None, IsTrue, bit_and, min, slice_get, refl, sym, ap, ◌∙◌, subst, arith}
use Rattle.std.specs.Option.{is_some, unwrap_or}
use Rattle.std.proofs.lemmas.Bool.{cases_eq, false≢true}
use Rattle.std.proofs.lemmas.Nat.Bits.{bit_at_ones}
use Rattle.ec_model.specs.Codes.{CodeRows, HasPosition, Decides}
use Rattle.ec_model.specs.Versions.{Version}
use Rattle.ec_words.specs.Intervals.{Interval}
use Rattle.auth_log.specs.Choice.{DecidesAll}
use Rattle.auth_log.specs.Inner.{IsDecided, HasUndecided, IsLeastUndecided, earlier}

pub all_decided : (code : CodeRows) (from all : ℕ) (result : Bool) → all ≡ 2 ^ code.n - 1 → IsTrue result ↔ Decides code from all
    → IsTrue result ↔ DecidesAll code from
all_decided code from all result is h = (
  λ yes p lt. h.0 yes p lt (subst (λ m. HasPosition m p) (sym is) (bit_at_ones code.n p lt)),
  λ d. h.1 (λ p lt _. d p lt),
)

pub one_joined : (o : Option (ℕ × Version)) (one other : ℕ) (a b : Version) → o ≡ Some (one, a) → o ≡ Some (other, b) → one ≡ other
one_joined o one other a b p q = ap (λ x. (unwrap_or {T = ℕ × Version} x (one, a)).0) (sym p ∙ q)

pub decided_exactly : (code : CodeRows) (eligible epoch joined : ℕ) (base : Version) (interval : Interval) (result : Bool)
    → interval.alive ≡ Some (joined, base) → epoch ≤ interval.epoch → IsTrue result ↔ DecidesAll code (bit_and joined eligible)
    → IsTrue result ↔ IsDecided code eligible epoch interval
decided_exactly code eligible epoch joined base interval result alive late h = (
  λ yes. record { each = λ other b e _. subst (λ t. DecidesAll code (bit_and t eligible)) (one_joined interval.alive joined other base b alive e) (h.0 yes) },
  λ d. h.1 (d.each joined base alive late),
)

pub decided_by : (code : CodeRows) (eligible epoch joined : ℕ) (base : Version) (interval : Interval) → interval.alive ≡ Some (joined, base)
    → DecidesAll code (bit_and joined eligible) → IsDecided code eligible epoch interval
decided_by code eligible epoch joined base interval alive d =
    record { each = λ other b e _. subst (λ t. DecidesAll code (bit_and t eligible)) (one_joined interval.alive joined other base b alive e) d }

pub decided_early : (code : CodeRows) (eligible epoch : ℕ) (interval : Interval) → interval.epoch < epoch → IsDecided code eligible epoch interval
decided_early code eligible epoch interval early = record { each = λ other b e late. absurd (omega (arith, early, late)) }

pub decided_unjoined : (code : CodeRows) (eligible epoch : ℕ) (interval : Interval) → interval.alive ≡ None → IsDecided code eligible epoch interval
decided_unjoined code eligible epoch interval e = record { each = λ other b some _. absurd (false≢true (ap is_some (sym e ∙ some))) }

-- ---- one interval after another

below_or_last : (q p : ℕ) → q < p + 1 → (q < p) ⊎ (q ≡ p)
below_or_last q p lt = elim (cases_eq q p) [ inl e ↦ inr e | inr ne ↦ inl (grind arith) ]

same_interval : (intervals : List Interval) (i j : ℕ) (one other : Interval) → i ≡ j → slice_get intervals i ≡ Some one → slice_get intervals j ≡ Some other
    → one ≡ other
same_interval intervals i j one other e p q = ap (λ x. unwrap_or x one) (sym p ∙ ap (slice_get intervals) e ∙ q)

wider : (code : CodeRows) (eligible epoch : ℕ) (intervals : List Interval) (bound at : ℕ) → HasUndecided code eligible epoch intervals bound at
    → HasUndecided code eligible epoch intervals (bound + 1) at
wider code eligible epoch intervals bound at h =
    record { place = h.place; interval = h.interval; below = omega (arith, h.below); there = h.there; dated = h.dated; undecided = h.undecided }

pub one_decided : (code : CodeRows) (eligible epoch : ℕ) (intervals : List Interval) (bound : ℕ) (interval : Interval) (least : Option ℕ)
    → slice_get intervals bound ≡ Some interval → IsDecided code eligible epoch interval
    → IsLeastUndecided code eligible epoch intervals bound least → IsLeastUndecided code eligible epoch intervals (bound + 1) least
one_decided code eligible epoch intervals bound interval None there d h = λ i other lt e. elim (below_or_last i bound lt) [
  | inl below ↦ h i other below e
  | inr last ↦ subst (IsDecided code eligible epoch) (same_interval intervals bound i interval other (sym last) there e) d
]
one_decided code eligible epoch intervals bound interval (Some at) there d h = (
  wider code eligible epoch intervals bound at h.0,
  λ other u. elim (below_or_last u.place bound u.below) [
    | inl below ↦ h.1 other (record { place = u.place; interval = u.interval; below = below; there = u.there; dated = u.dated; undecided = u.undecided })
    | inr last ↦ absurd (u.undecided (subst (IsDecided code eligible epoch) (same_interval intervals bound u.place interval u.interval (sym last) there u.there) d))
  ],
)

here : (code : CodeRows) (eligible epoch : ℕ) (intervals : List Interval) (bound : ℕ) (interval : Interval) → slice_get intervals bound ≡ Some interval
    → (IsDecided code eligible epoch interval → ⊥) → HasUndecided code eligible epoch intervals (bound + 1) interval.epoch
here code eligible epoch intervals bound interval there not =
    record { place = bound; interval = interval; below = omega arith; there = there; dated = refl; undecided = not }

pub one_undecided : (code : CodeRows) (eligible epoch : ℕ) (intervals : List Interval) (bound : ℕ) (interval : Interval) (least : Option ℕ)
    → slice_get intervals bound ≡ Some interval → (IsDecided code eligible epoch interval → ⊥)
    → IsLeastUndecided code eligible epoch intervals bound least
    → IsLeastUndecided code eligible epoch intervals (bound + 1) (Some (earlier least interval.epoch))
one_undecided code eligible epoch intervals bound interval None there not h = (
  here code eligible epoch intervals bound interval there not,
  λ other u. elim (below_or_last u.place bound u.below) [
    | inl below ↦ absurd (u.undecided (h u.place u.interval below u.there))
    | inr last ↦
        let same = ap (λ i. i.epoch) (same_interval intervals bound u.place interval u.interval (sym last) there u.there) in
        omega (arith, same, u.dated)
  ],
)
one_undecided code eligible epoch intervals bound interval (Some at) there not h = (reached, below_all) where
  reached : HasUndecided code eligible epoch intervals (bound + 1) (min at interval.epoch)
  reached = elim (cases_eq (min at interval.epoch) at) [
    | inl e ↦ subst (HasUndecided code eligible epoch intervals (bound + 1)) (sym e) (wider code eligible epoch intervals bound at h.0)
    | inr ne ↦
        let e : min at interval.epoch ≡ interval.epoch = grind (arith, ne) in
        subst (HasUndecided code eligible epoch intervals (bound + 1)) (sym e) (here code eligible epoch intervals bound interval there not)
  ]

  below_all : (other : ℕ) → HasUndecided code eligible epoch intervals (bound + 1) other → min at interval.epoch ≤ other
  below_all other u = elim (below_or_last u.place bound u.below) [
    | inl below ↦
        let le = h.1 other (record { place = u.place; interval = u.interval; below = below; there = u.there; dated = u.dated; undecided = u.undecided }) in
        omega (arith, le)
    | inr last ↦
        let same = ap (λ i. i.epoch) (same_interval intervals bound u.place interval u.interval (sym last) there u.there) in
        omega (arith, same, u.dated)
  ]
