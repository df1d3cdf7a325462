use Rattle.read_plan.proofs.SettlingLemmas.{not_reduced}
use Rattle.read_plan.proofs.lines.reduced.Goals as goal

pub returns-else-times-ne0-clause-value : goal.returns-else-times-ne0-clause-value
returns-else-times-ne0-clause-value c = not_reduced c.args.times c.args.line.now c.args.row.now c.if-times-ne0.false
