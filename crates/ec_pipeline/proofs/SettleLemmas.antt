-- Steps that settle a log, as steps that are staged.
use Rattle.std.proofs.Common.{◌≡◌, ◌≤◌, [], ◌∷◌, length, length-append, append-nil, refl, sym, subst, arith, Option, Some, None}
use Rattle.shard_model.specs.StepBytes.{step_bytes, steps_bytes}
use Rattle.shard_model.specs.Steps.{ControlStep, Control}
use Rattle.shard_model.proofs.LengthLemmas.{control_long}
use Rattle.shard_steps.specs.declared.step.Step as plain
use Rattle.shard_store.specs.Stored.{told_in, Becomes}
use Rattle.shard_store.specs.declared.store.Store.{Store}
use Rattle.ec_pipeline.specs.Settling.{with_steps, steps_if}
use Rattle.ec_pipeline.specs.Shelving.{BecomesAt}

pub one_control : (c : ControlStep) → length (steps_bytes (Control c ∷ [])) ≤ 13
one_control c = omega (arith, length-append (step_bytes (Control c)) [], control_long c)

none_more_staged : (store : Store) → Becomes store store (with_steps (told_in store) [])
none_more_staged store = record { journal = refl; n = refl; story = λ i. record (told_in store) { staged = sym (append-nil (told_in store).staged) i } }

none_at : (o : Option Store) → BecomesAt (λ t. with_steps t []) o o
none_at None = refl
none_at (Some store) = none_more_staged store

-- no step more is staged
pub none_if : (step : Option plain.Step) (o : Option Store) → step ≡ None → BecomesAt (λ t. with_steps t (steps_if step)) o o
none_if step o none = subst (λ s. BecomesAt (λ t. with_steps t (steps_if s)) o o) (sym none) (none_at o)
