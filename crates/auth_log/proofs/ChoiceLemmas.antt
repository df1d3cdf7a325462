-- The choice, from the survey and the least epoch that is not decided.
use Rattle.std.proofs.Common.{◌≡◌, inl, inr, ℕ, Option, Some, None, length, bit_and, slice_get, refl, sym, ap, ◌∙◌, subst, arith}
use Rattle.std.specs.Option.{is_some}
use Rattle.std.proofs.lemmas.Bool.{cases_lt, false≢true}
use Rattle.std.proofs.lemmas.Option.{slice_get_within}
use Rattle.ec_model.specs.Codes.{CodeRows}
use Rattle.ec_model.specs.Versions.{Version}
use Rattle.ec_words.specs.Intervals.{Interval}
use Rattle.auth_log.specs.Choice.{PeeringInput, Survey, IsSurvey, IsSufficient, IsUndecided, IsBlocked, IsChosen, DecidesAll}
use Rattle.auth_log.specs.Inner.{IsDecided, HasUndecided, IsLeastUndecided}
use Rattle.auth_log.proofs.DecidedLemmas.{one_joined}

pub is_sufficient : (code : CodeRows) (peers : PeeringInput) (survey : Survey) → IsSurvey peers survey
    → IsLeastUndecided code survey.eligible survey.epoch peers.kept (length peers.kept) None → IsSufficient code peers
is_sufficient code peers survey s each = record {
  survey = survey;
  surveyed = s;
  decided = λ epoch joined base w late.
      (each w.place w.interval (slice_get_within peers.kept w.place w.interval w.there) w.there).each joined base w.alive (omega (arith, w.dated, late));
}

-- an interval that is not decided went alive, in time, and its members do not decide all
not_decided : (code : CodeRows) (peers : PeeringInput) (survey : Survey) (place : ℕ) (interval : Interval) → slice_get peers.kept place ≡ Some interval
    → (IsDecided code survey.eligible survey.epoch interval → ⊥) → (o : Option (ℕ × Version)) → interval.alive ≡ o
    → IsUndecided code peers survey interval.epoch
not_decided code peers survey place interval there not None e =
    absurd (not (record { each = λ j b some _. absurd (false≢true (ap is_some (sym e ∙ some))) }))
not_decided code peers survey place interval there not (Some (joined, base)) e = elim (cases_lt interval.epoch survey.epoch) [
  | inl early ↦ absurd (not (record { each = λ j b some late. absurd (omega (arith, early, late)) }))
  | inr late ↦
      record {
        joined = joined;
        base = base;
        alive = record { place = place; interval = interval; there = there; dated = refl; alive = e };
        late = late;
        undecided = λ d. not (record { each = λ j b some _. subst (λ t. DecidesAll code (bit_and t survey.eligible)) (one_joined interval.alive joined j base b e some) d });
      }
]

undecided_there : (code : CodeRows) (peers : PeeringInput) (survey : Survey) (at bound : ℕ)
    → HasUndecided code survey.eligible survey.epoch peers.kept bound at → IsUndecided code peers survey at
undecided_there code peers survey at bound h =
    subst (IsUndecided code peers survey) h.dated (not_decided code peers survey h.place h.interval h.there h.undecided h.interval.alive refl)

undecided_here : (code : CodeRows) (peers : PeeringInput) (survey : Survey) (at : ℕ) → IsUndecided code peers survey at
    → HasUndecided code survey.eligible survey.epoch peers.kept (length peers.kept) at
undecided_here code peers survey at u = record {
  place = u.alive.place;
  interval = u.alive.interval;
  below = slice_get_within peers.kept u.alive.place u.alive.interval u.alive.there;
  there = u.alive.there;
  dated = u.alive.dated;
  undecided = λ d. u.undecided (d.each u.joined u.base u.alive.alive (omega (arith, u.alive.dated, u.late)));
}

pub is_blocked : (code : CodeRows) (peers : PeeringInput) (survey : Survey) (at : ℕ) → IsSurvey peers survey
    → IsLeastUndecided code survey.eligible survey.epoch peers.kept (length peers.kept) (Some at) → IsBlocked code peers at survey.eligible
is_blocked code peers survey at s h = record {
  survey = survey;
  surveyed = s;
  slots = refl;
  undecided = undecided_there code peers survey at (length peers.kept) h.0;
  least = λ other u. h.1 other (undecided_here code peers survey other u);
}

pub is_chosen : (code : CodeRows) (peers : PeeringInput) (survey : Survey) → IsSurvey peers survey → IsSufficient code peers
    → IsChosen code peers survey.epoch survey.version
is_chosen code peers survey s good = record { sufficient = good; survey = survey; surveyed = s; started = refl; headed = refl }
