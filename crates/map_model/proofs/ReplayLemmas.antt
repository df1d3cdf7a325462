-- The state before a step and the one after it.
use Rattle.std.proofs.Common.{◌≡◌, ℕ, true, false, cond, List, [], ◌∷◌, refl, Option, Some, None, ◌∙◌}
use Rattle.std.proofs.lemmas.Bool.{cond-true}
use Rattle.map_model.specs.States.{MapState, fits, state_after, replay}
use Rattle.map_model.specs.Steps.{MapStep}
use Rattle.map_model.proofs.LastLemmas.{none_some, some_same}

module _ (n : ℕ) (state later : MapState) where
  pub replay_step : (s : MapStep) (steps : List MapStep) → fits n state s ≡ true → replay n steps (state_after state s) ≡ Some later
      → replay n (s ∷ steps) state ≡ Some later
  unfolding replay
  replay_step s steps fit done = cond-true _ _ _ fit ∙ done

  pub step_replayed : (s : MapStep) (steps : List MapStep) → replay n (s ∷ steps) state ≡ Some later
      → (fits n state s ≡ true) × (replay n steps (state_after state s) ≡ Some later)
  unfolding replay
  step_replayed s steps done =
      elim (fits n state s) as (λ b. fits n state s ≡ b → cond b (replay n steps (state_after state s)) None ≡ Some later
      → (fits n state s ≡ true) × (replay n steps (state_after state s) ≡ Some later)) [
        | true ↦ λ is e. (is, e)
        | false ↦ λ is e. absurd (none_some later e)
      ] refl done

-- after no step there is the state of before
pub nothing_more : (n : ℕ) (state : MapState) → replay n [] state ≡ Some state
unfolding replay
nothing_more n state = refl

pub replayed_none : (n : ℕ) (state later : MapState) → replay n [] state ≡ Some later → state ≡ later
unfolding replay
replayed_none n state later e = some_same state later e

pub one_step : (n : ℕ) (state : MapState) (s : MapStep) → fits n state s ≡ true → replay n (s ∷ []) state ≡ Some (state_after state s)
unfolding replay
one_step n state s fit = cond-true _ _ _ fit
