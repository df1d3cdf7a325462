use Rattle.std.proofs.Common.{arith}
use Rattle.read_plan.proofs.SearchLemmas.{least_of_first, none_at_all}
use Rattle.read_plan.proofs.search.least.Goals as goal

pub returns-in-Some-clause-some : goal.returns-in-Some-clause-some
returns-in-Some-clause-some c = least_of_first c.args.rows.now c.args.avail.0 c.args.wanted.0 c.loop-len.len c.in-Some.found.0 c.loop-len.invariant c.in-Some.ensures.some

pub returns-clause-none : goal.returns-clause-none
returns-clause-none c = none_at_all c.args.rows.now c.args.avail.0 c.args.wanted.0 (λ fewer lt. c.loop-len.invariant fewer (omega (arith, c.loop-len-test.false)))
