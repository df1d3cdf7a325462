-- The state of a pool, from its survey.
use Rattle.std.proofs.Common.{◌≡◌, ◌<◌, ◌≤◌, ◌+◌, ◌^◌, ◌⊎◌, inl, inr, ℕ, zero, suc, List, length, Option, Some, None, bit_and, slice_get, refl, sym, ap, ◌∙◌, subst, arith}
use Rattle.std.proofs.lemmas.Bool.{cases_lt}
use Rattle.std.proofs.lemmas.Option.{slice_get_cases, slice_get_within}
use Rattle.ec_model.specs.Codes.{CodeRows, HasPosition, count_below}
use Rattle.ec_model.specs.Versions.{Version}
use Rattle.ec_words.specs.Intervals.{Interval}
use Rattle.auth_log.specs.Choice.{Info, PeeringInput, Survey, IsEligible, IsSurvey, IsSufficient, DecidesAll}
use Rattle.auth_log.specs.Inner.{IsDecided, IsLeastUndecided, IsStateOfJoined, earlier}
use Rattle.auth_log.specs.States.{State, Down, Short, Active, IsJoinedSet, Joins, IsState}
use Rattle.auth_log.proofs.ChoiceLemmas.{is_sufficient, is_blocked}
use Rattle.auth_log.proofs.DecidedLemmas.{one_decided, one_undecided, decided_by, decided_early, decided_unjoined}
use Rattle.auth_log.proofs.MaskLemmas.{has_both}
use Rattle.auth_log.proofs.SurveyLemmas.{some_survey}

-- the eligible slots of a mask
pub joined_set : (peers : PeeringInput) (survey : Survey) (holds : ℕ) → IsSurvey peers survey → IsJoinedSet peers holds (bit_and holds survey.eligible)
joined_set peers survey holds s p = (
  λ has. let both = (has_both holds survey.eligible p).0 has in (both.0, (s.eligible p).0 both.1),
  λ found. (has_both holds survey.eligible p).1 (found.0, (s.eligible p).1 found.1),
)

-- the state if the eligible slots are sufficient
pub state_joined : (code : CodeRows) (peers : PeeringInput) (survey : Survey) (min holds : ℕ) (state : State) → IsSurvey peers survey → IsSufficient code peers
    → IsStateOfJoined code survey (bit_and holds survey.eligible) min state → IsState code peers min holds state
state_joined code peers survey min holds (Down epoch eligible) s good h = inr (record {
  sufficient = good;
  survey = survey;
  surveyed = s;
  started = h.1.0;
  slots = h.1.1;
  joined = bit_and holds survey.eligible;
  joined_set = joined_set peers survey holds s;
  undecided = h.0;
})
state_joined code peers survey min holds (Short members least) s good h = (
  subst (Joins code peers holds) (sym h.0) (record { sufficient = good; joined_set = joined_set peers survey holds s; decides = h.1.0 }),
  (subst (λ (j : ℕ). count_below j code.n < min) (sym h.0) h.1.1.0, h.1.1.1),
)
state_joined code peers survey min holds (Active members) s good h = (
  subst (Joins code peers holds) (sym h.0) (record { sufficient = good; joined_set = joined_set peers survey holds s; decides = h.1.0 }),
  subst (λ (j : ℕ). min ≤ count_below j code.n) (sym h.0) h.1.1,
)

-- ---- if each set decides all or does not, there is a state

module _ (code : CodeRows) (decided : (from : ℕ) → DecidesAll code from ⊎ (DecidesAll code from → ⊥)) where
  by_alive : (eligible epoch : ℕ) (interval : Interval) (o : Option (ℕ × Version)) → interval.alive ≡ o
      → IsDecided code eligible epoch interval ⊎ (IsDecided code eligible epoch interval → ⊥)
  by_alive eligible epoch interval None e = inl (decided_unjoined code eligible epoch interval e)
  by_alive eligible epoch interval (Some (joined, base)) e = elim (cases_lt interval.epoch epoch) [
    | inl early ↦ inl (decided_early code eligible epoch interval early)
    | inr late ↦ elim (decided (bit_and joined eligible)) [
      | inl d ↦ inl (decided_by code eligible epoch joined base interval e d)
      | inr not ↦ inr (λ d. not (d.each joined base e late))
    ]
  ]

  least_below : (eligible epoch : ℕ) (intervals : List Interval) (bound : ℕ) → bound ≤ length intervals
      → (least : Option ℕ) × IsLeastUndecided code eligible epoch intervals bound least
  least_below eligible epoch intervals zero few = (None, λ i interval lt there. absurd (omega (arith, lt)))
  least_below eligible epoch intervals (suc n) few = elim (slice_get_cases intervals n).1 [
    | inl inside ↦ step (least_below eligible epoch intervals n (omega (arith, few))) inside.0 inside.2 (by_alive eligible epoch inside.0 inside.0.alive refl)
    | inr past ↦ absurd (omega (arith, few, past.0))
  ] where
    next : n + 1 ≡ suc n
    next = omega arith

    step : (least : Option ℕ) × IsLeastUndecided code eligible epoch intervals n least → (interval : Interval) → slice_get intervals n ≡ Some interval
        → IsDecided code eligible epoch interval ⊎ (IsDecided code eligible epoch interval → ⊥)
        → (least : Option ℕ) × IsLeastUndecided code eligible epoch intervals (suc n) least
    step so_far interval there (inl d) = (
      so_far.0,
      subst (λ (t : ℕ). IsLeastUndecided code eligible epoch intervals t so_far.0) next
          (one_decided code eligible epoch intervals n interval so_far.0 there d so_far.1),
    )
    step so_far interval there (inr not) = (
      Some (earlier so_far.0 interval.epoch),
      subst (λ (t : ℕ). IsLeastUndecided code eligible epoch intervals t (Some (earlier so_far.0 interval.epoch))) next
          (one_undecided code eligible epoch intervals n interval so_far.0 there not so_far.1),
    )

  by_joined : (peers : PeeringInput) (survey : Survey) (min holds : ℕ) → IsSurvey peers survey → IsSufficient code peers
      → DecidesAll code (bit_and holds survey.eligible) ⊎ (DecidesAll code (bit_and holds survey.eligible) → ⊥)
      → (state : State) × IsState code peers min holds state
  by_joined peers survey min holds s good (inr not) =
      (Down survey.epoch survey.eligible, state_joined code peers survey min holds (Down survey.epoch survey.eligible) s good (not, (refl, refl)))
  by_joined peers survey min holds s good (inl d) = elim (cases_lt (count_below (bit_and holds survey.eligible) code.n) min) [
    | inl few ↦ (Short _ min, state_joined code peers survey min holds (Short (bit_and holds survey.eligible) min) s good (refl, (d, (few, refl))))
    | inr many ↦ (Active _, state_joined code peers survey min holds (Active (bit_and holds survey.eligible)) s good (refl, (d, many)))
  ]

  by_least : (peers : PeeringInput) (survey : Survey) (min holds : ℕ) → IsSurvey peers survey → (least : Option ℕ)
      → IsLeastUndecided code survey.eligible survey.epoch peers.kept (length peers.kept) least → (state : State) × IsState code peers min holds state
  by_least peers survey min holds s (Some at) h = (Down at survey.eligible, inl (is_blocked code peers survey at s h))
  by_least peers survey min holds s None h =
      by_joined peers survey min holds s (is_sufficient code peers survey s h) (decided (bit_and holds survey.eligible))

  pub some_state : (peers : PeeringInput) (min holds : ℕ) → peers.up < 2 ^ 16 → (state : State) × IsState code peers min holds state
  some_state peers min holds few =
      let there = some_survey peers few in
      let least = least_below there.0.eligible there.0.epoch peers.kept (length peers.kept) (omega arith) in
      by_least peers there.0 min holds there.1 least.0 least.1
