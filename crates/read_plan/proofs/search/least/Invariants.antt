use Rattle.std.proofs.Common.{◌<◌, ℕ}
use Rattle.read_plan.specs.Settling.{NoneSettles}
use Rattle.read_plan.proofs.search.least.Given as goal

abbrev pub invariant-loop-len : goal.invariant-loop-len
invariant-loop-len l = (fewer : ℕ) → fewer < l.len → NoneSettles l.rows l.avail.0 l.wanted.0 fewer
