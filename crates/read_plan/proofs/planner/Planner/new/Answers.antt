use Rattle.read_plan.specs.Planners.{FitsCode}
use Rattle.read_plan.proofs.planner.Planner.new.Goals as goal

pub returns-clause-fits : goal.returns-clause-fits
unfolding FitsCode
returns-clause-fits c = λ code. tt
