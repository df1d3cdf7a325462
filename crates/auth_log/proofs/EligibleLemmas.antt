-- Which slots are eligible.
use Rattle.std.proofs.Common.{◌≡◌, ◌↔◌, ◌<◌, ◌+◌, ◌*◌, ◌%◌, ◌^◌, bit_or, ◌==◌, ◌&&◌, inl, inr, ℕ, Bool, true, false, List, Option, Some, None, is_some, IsTrue, refl, sym, ap, ◌∙◌, subst, arith}
use Rattle.std.specs.List.{list_any}
use Rattle.std.proofs.lemmas.List.Folds.{Any-from_list_any}
use Rattle.std.proofs.lemmas.Map.Keys.{any_passes_from_place}
use Rattle.std.specs.Int.{bit_at, w16}
use Rattle.std.proofs.lemmas.Bool.{cases_eq, false≢true}
use Rattle.std.proofs.lemmas.Nat.Bits.{bit_at_set_same, bit_at_set_other}
use Rattle.std.proofs.lemmas.Option.{slice_get_read}
use Rattle.std.proofs.lemmas.Grind.{common_steps}
use Rattle.ec_model.specs.Codes.{HasPosition}
use Rattle.ec_model.specs.Versions.{Version}
use Rattle.ec_words.specs.Intervals.{Interval}
use Rattle.auth_log.specs.Choice.{Info, PeeringInput, WentAlive, IsEligible, HasAll}
use Rattle.auth_log.specs.Inner.{IsWholeAndStarted, IsSaid}
use Rattle.auth_log.proofs.OrderLemmas.{AreSame, said_once}

-- an interval of this epoch went alive
abbrev pub is_alive_in : ℕ → Interval → Bool
is_alive_in epoch interval = interval.epoch == epoch && is_some interval.alive

-- some interval passes the test if one of this epoch went alive
pub alive_passes : (kept : List Interval) (epoch joined : ℕ) (base : Version) → WentAlive kept epoch joined base → list_any (is_alive_in epoch) kept ≡ true
alive_passes kept epoch joined base h = any_passes_from_place (is_alive_in epoch) kept h.place h.interval h.there passes where
  passes : is_alive_in epoch h.interval ≡ true
  passes = let some : is_some h.interval.alive ≡ true = ap is_some h.alive in grind (arith, common_steps, h.dated, some)

-- an option that is there is the one of something
pub some_of : {X : Type 0} (o : Option X) → is_some o ≡ true → (x : X) × (o ≡ Some x)
some_of None h = absurd (cc)
some_of (Some x) h = (x, refl)

-- one of this epoch went alive if some interval passes the test
pub passes_alive : (kept : List Interval) (epoch : ℕ) → list_any (is_alive_in epoch) kept ≡ true → (joined : ℕ) × ((base : Version) × WentAlive kept epoch joined base)
passes_alive kept epoch h =
    let found = Any-from_list_any (is_alive_in epoch) kept h in
    let interval = found.1 in
    let passes : is_alive_in epoch interval ≡ true = found.4 in
    let some : is_some interval.alive ≡ true = grind (arith, common_steps) in
    let at : interval.epoch ≡ epoch = grind (arith, common_steps) in
    let began = some_of interval.alive some in (
      began.0.0,
      (
        began.0.1,
        record {
          place = found.0;
          interval = interval;
          there = slice_get_read kept _ found.0 interval refl found.2 (sym found.3);
          dated = at;
          alive = began.1;
        },
      ),
    )

-- a shard that is partial is not fit
pub fit_exactly : (kept : List Interval) (info : Info) (result : Bool) → info.partial ≡ false → result ≡ list_any (is_alive_in info.les) kept
    → IsTrue result ↔ IsWholeAndStarted kept info
fit_exactly kept info result whole found = (
  λ yes. let alive = passes_alive kept info.les (sym found ∙ yes) in record { whole = whole; joined = alive.0; base = alive.1.0; started = alive.1.1 },
  λ h. found ∙ alive_passes kept info.les h.joined h.base h.started,
)

pub partial_is_unfit : (kept : List Interval) (info : Info) → info.partial ≡ true → IsWholeAndStarted kept info → ⊥
partial_is_unfit kept info partial h = false≢true (sym h.whole ∙ partial)

-- ---- one slot after another

pub slot_added : (among : ℕ → Type 0) (mask p : ℕ) → p < 16 → among p → ((q : ℕ) → HasPosition mask q ↔ ((q < p) × among q))
    → (q : ℕ) → HasPosition (bit_or mask (1 * 2 ^ p % 2 ^ 16)) q ↔ ((q < p + 1) × among q)
slot_added among mask p lt here so_far q = elim (cases_eq q p) [
  | inl e ↦
      let has : HasPosition (bit_or mask (1 * 2 ^ p % 2 ^ 16)) q = ap (bit_at (bit_or mask (1 * 2 ^ p % 2 ^ 16))) e ∙ bit_at_set_same w16 mask p lt in
      (λ _. (omega (arith, e), subst among (sym e) here), λ _. has)
  | inr ne ↦
      let same = bit_at_set_other w16 mask p lt q ne in (
        λ has. let old = (so_far q).0 (sym same ∙ has) in (omega (arith, old.0), old.1),
        λ found. same ∙ (so_far q).1 (below q found.0 ne, found.1),
      )
] where
  below : (k : ℕ) → k < p + 1 → (k ≡ p → ⊥) → k < p
  below k lk other = grind arith

pub slot_left : (among : ℕ → Type 0) (mask p : ℕ) → (among p → ⊥) → ((q : ℕ) → HasPosition mask q ↔ ((q < p) × among q))
    → (q : ℕ) → HasPosition mask q ↔ ((q < p + 1) × among q)
slot_left among mask p none so_far q = (
  λ has. let old = (so_far q).0 has in (omega (arith, old.0), old.1),
  λ found. elim (cases_eq q p) [
    | inl e ↦ absurd (none (subst among e found.1))
    | inr ne ↦ (so_far q).1 (below q found.0 ne, found.1)
  ],
) where
  below : (k : ℕ) → k < p + 1 → (k ≡ p → ⊥) → k < p
  below k lk other = grind arith

-- ---- the eligible slots are those of their mask

pub eligible_said : (peers : PeeringInput) (mask : ℕ) → HasAll (IsEligible peers) mask → AreSame (IsSaid peers.said mask) (IsEligible peers)
eligible_said peers mask all = record {
  there = λ p info h.
      let found = (all p).0 h.member in
      subst (IsEligible peers p) (said_once peers.said p found.0 info found.1.says h.says) found.1;
  back = λ p info e. record { member = (all p).1 (info, e); says = e.says };
}
