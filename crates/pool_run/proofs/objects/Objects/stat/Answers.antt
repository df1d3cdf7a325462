use Rattle.std.proofs.Common.{refl}
use Rattle.std.proofs.lemmas.Result.{IfOk-weaker}
use Rattle.pool_run.proofs.ServeLemmas.{stat_is_absent, stat_is_done}
use Rattle.pool_run.proofs.objects.Objects.stat.Goals as goal

pub returns-in-Some : goal.returns-in-Some
returns-in-Some c =
    IfOk-weaker c.of_number.result _ _
    (λ reply is code unit objects kept.
    stat_is_done code unit objects c.args.self.now c.args.name.now c.in-Some.size reply is (c.in-Some.ensures code unit objects kept) kept)
    c.of_number.ensures

pub returns-in-None : goal.returns-in-None
returns-in-None c = λ code unit objects kept.
    stat_is_absent code unit objects c.args.self.now c.args.name.now _ refl (c.in-None.ensures code unit objects kept) kept
