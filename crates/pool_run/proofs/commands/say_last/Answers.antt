use Rattle.std.proofs.Common.{length}
use Rattle.std.proofs.Math.Seq.{take-length}
use Rattle.pool_run.proofs.commands.say_last.Goals as goal

pub returns-in-Ok-clause-front : goal.returns-in-Ok-clause-front
returns-in-Ok-clause-front g c = (length c.args.line.now, rw take-length c.in-Ok.ensures.said)
