use Rattle.read_plan.proofs.SearchLemmas.{NoneBelow}
use Rattle.read_plan.proofs.search.first_one.Given as goal

abbrev pub invariant-loop-q : goal.invariant-loop-q
invariant-loop-q l = NoneBelow l.rows l.avail.0 l.wanted.0 l.q
