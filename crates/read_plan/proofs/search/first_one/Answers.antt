use Rattle.std.proofs.Common.{arith, rules}
use Rattle.read_plan.proofs.SearchLemmas.{first_single, none_single}
use Rattle.read_plan.proofs.search.first_one.Goals as goal

pub returns-then-are_settled_by-clause-some : goal.returns-then-are_settled_by-clause-some
returns-then-are_settled_by-clause-some c =
    first_single c.args.rows.now c.args.avail.0 c.args.wanted.0 c.loop-q.q c.with.result.0 (omega arith) c.loop-q-test.true (search rules) c.with.ensures
    ((c.are_settled_by.ensures c.with.result.0 c.with.ensures).0 c.if-are_settled_by.true) c.loop-q.invariant

pub returns-clause-none : goal.returns-clause-none
returns-clause-none c = none_single c.args.rows.now c.args.avail.0 c.args.wanted.0 (omega arith) (λ p lt. c.loop-q.invariant p (omega (arith, c.loop-q-test.false)))
