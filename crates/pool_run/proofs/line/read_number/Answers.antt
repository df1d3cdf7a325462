use Rattle.std.proofs.Common.{refl}
use Rattle.pool_run.proofs.LineLemmas.{number_found}
use Rattle.pool_run.proofs.line.read_number.Goals as goal

pub returns-in-Ok-clause-value : goal.returns-in-Ok-clause-value
returns-in-Ok-clause-value c = number_found c.args.text.now c.in-Ok.n ((c.in-Ok.ensures.value c.in-Ok.n).0 refl)
