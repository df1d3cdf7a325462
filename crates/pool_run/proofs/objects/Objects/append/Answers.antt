use Rattle.std.proofs.Common.{Some, ◌++◌, ◌∙◌}
use Rattle.std.proofs.lemmas.Result.{IfOk-weaker}
use Rattle.ec_positions.specs.Commands.{Updates}
use Rattle.ec_positions.specs.Updates.{Append, Full}
use Rattle.pool_run.specs.Served.{Serves}
use Rattle.pool_run.proofs.CommandLemmas.{append_as_full}
use Rattle.pool_run.proofs.ServeLemmas.{served_as_full}
use Rattle.pool_run.proofs.objects.Objects.append.Goals as goal

pub returns-clause-done : goal.returns-clause-done
returns-clause-done g c =
    let code = (goal.Code-dyn g c.args.code.now).meaning c.args.code.now.1 in
    let all = c.extend.new.self in
    IfOk-weaker c.full.result
    (Serves code c.args.unit (Some (Updates (Full c.args.name all))) c.args.self.now c.full.new.self)
    (Serves code c.args.unit (Some (Updates (Append c.args.name c.args.bytes.now))) c.args.self.now c.full.new.self)
    (λ reply serves objects kept.
    served_as_full code c.args.unit objects (Append c.args.name c.args.bytes.now) c.args.name all c.full.new.self reply
    (append_as_full objects c.args.name c.args.bytes.now all
    (c.in_ok-extend.ensures.ok ∙ (λ i. c.in_ok-all.ensures objects kept i ++ c.as_slice.ensures.value i)))
    (serves objects kept))
    c.full.ensures.done
