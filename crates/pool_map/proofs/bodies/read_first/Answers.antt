use Rattle.std.proofs.Common.{◌++◌, ap, sym, ◌∙◌, Some}
use Rattle.pool_map.specs.Meanings.{step_of}
use Rattle.map_model.specs.Steps.{Profile}
use Rattle.pool_map.specs.Steps.{step_bytes}
use Rattle.pool_map.specs.StepReading.{read_step}
use Rattle.pool_map.proofs.BodyLemmas.{all_bytes, first_counted, first_bytes}
use Rattle.pool_map.proofs.bodies.read_first.Goals as goal

pub returns-in-Profile-clause-counted : goal.returns-in-Profile-clause-counted
returns-in-Profile-clause-counted c =
    first_counted c.args.body.now c.step.new.self (all_bytes c.args.body.now c.type_inv.body) c.in-Profile.lines
    (ap read_step (sym c.new-reader.ensures) ∙ c.in_ok-lines.ensures.value ∙ ap (λ s. Some (step_of s, c.step.new.self)) c.in-Profile.is)

pub returns-in-Profile-clause-bytes : goal.returns-in-Profile-clause-bytes
returns-in-Profile-clause-bytes c =
    first_bytes c.args.body.now c.step.new.self (all_bytes c.args.body.now c.type_inv.body) c.in-Profile.lines
    (ap read_step (sym c.new-reader.ensures) ∙ c.in_ok-lines.ensures.value ∙ ap (λ s. Some (step_of s, c.step.new.self)) c.in-Profile.is)
    ∙ ap (λ r. step_bytes (Profile c.in-Profile.lines) ++ r) (sym c.rest.ensures)
