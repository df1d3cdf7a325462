use Rattle.std.proofs.Common.{List, ℕ, ap, ◌∙◌}
use Rattle.std.specs.Option.{option_map}
use Rattle.ec_positions.specs.Commands.{Refused}
use Rattle.ec_positions.specs.Refusals.{refusal_of}
use Rattle.ec_positions.specs.Updates.{Full}
use Rattle.pool_run.proofs.CommandLemmas.{none_shown, not_refused}
use Rattle.pool_run.proofs.ServeLemmas.{full_is_done, full_is_refused}
use Rattle.pool_run.proofs.objects.Objects.full.Goals as goal

pub returns-in-Some-clause-done : goal.returns-in-Some-clause-done
returns-in-Some-clause-done g c = λ objects kept.
    let code = (goal.Code-dyn g c.args.code.now).meaning c.args.code.now.1 in
    full_is_refused code c.args.unit objects c.args.self.now c.args.name c.args.bytes.now c.in-Some.refused
    (c.in-Some.ensures code c.args.unit objects kept
    ∙ ap (λ (b : List ℕ). option_map (λ why. Refused why) (refusal_of objects (Full c.args.name b))) c.as_slice.ensures.value)
    kept

pub set_bytes-requires-clause-within_limit : goal.set_bytes-requires-clause-within_limit
set_bytes-requires-clause-within_limit g c =
    let code = (goal.Code-dyn g c.args.code.now).meaning c.args.code.now.1 in
    let all = c.requires.stored in
    let none = none_shown _ (c.in-None.ensures code c.args.unit all.0 all.1
    ∙ ap (λ (b : List ℕ). option_map (λ why. Refused why) (refusal_of all.0 (Full c.args.name b))) c.as_slice.ensures.value) in
    (not_refused all.0 c.args.name c.args.bytes.now none).0

pub returns-clause-done : goal.returns-clause-done
returns-clause-done g c = λ objects kept.
    let code = (goal.Code-dyn g c.args.code.now).meaning c.args.code.now.1 in
    let none = none_shown _ (c.in-None.ensures code c.args.unit objects kept
    ∙ ap (λ (b : List ℕ). option_map (λ why. Refused why) (refusal_of objects (Full c.args.name b))) c.as_slice.ensures.value) in
    full_is_done code c.args.unit objects c.set_bytes.new.self c.args.name c.args.bytes.now c.done.result c.done.ensures none
    (c.in_ok-set_bytes.ensures.ok objects kept (not_refused objects c.args.name c.args.bytes.now none).1)
