use Rattle.read_plan.specs.Plans.{size_of}
use Rattle.read_plan.proofs.search.+first_set.Given as goal

abbrev pub decreases-first_set : goal.decreases-first_set
decreases-first_set l = size_of l.avail.0
