use Rattle.std.proofs.Common.{rules, Option, sym, ap, subst}
use Rattle.std.proofs.lemmas.Result.{IfOk-weaker}
use Rattle.ec_positions.specs.Commands.{Command}
use Rattle.pool_run.specs.Lines.{command_in, line_shown}
use Rattle.pool_run.specs.Served.{Serves}
use Rattle.pool_run.proofs.objects.Objects.apply.Goals as goal

pub returns-in-Append-clause-done : goal.returns-in-Append-clause-done
returns-in-Append-clause-done g c = search rules

pub returns-in-Delete-clause-done : goal.returns-in-Delete-clause-done
returns-in-Delete-clause-done g c =
    let code = (goal.Code-dyn g c.args.code.now).meaning c.args.code.now.1 in
    subst (λ (command : Option Command). Serves code c.args.unit command c.args.self.now c.delete.new.self c.delete.result)
    (sym (ap (λ line. command_in (line_shown line)) c.in-Delete.is)) (c.delete.ensures code c.args.unit)

pub returns-in-Stat-clause-done : goal.returns-in-Stat-clause-done
returns-in-Stat-clause-done g c =
    let code = (goal.Code-dyn g c.args.code.now).meaning c.args.code.now.1 in
    IfOk-weaker c.stat.result _ _
    (λ reply serves.
    subst (λ (command : Option Command). Serves code c.args.unit command c.args.self.now c.args.self.now reply)
    (sym (ap (λ line. command_in (line_shown line)) c.in-Stat.is)) (serves code c.args.unit))
    c.stat.ensures

pub returns-in-ListObjects-clause-done : goal.returns-in-ListObjects-clause-done
returns-in-ListObjects-clause-done g c =
    let code = (goal.Code-dyn g c.args.code.now).meaning c.args.code.now.1 in
    IfOk-weaker c.list.result _ _
    (λ reply serves.
    subst (λ (command : Option Command). Serves code c.args.unit command c.args.self.now c.args.self.now reply)
    (sym (ap (λ line. command_in (line_shown line)) c.in-ListObjects.is)) (serves code c.args.unit))
    c.list.ensures
