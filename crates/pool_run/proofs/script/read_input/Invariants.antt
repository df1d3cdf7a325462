use Rattle.std.proofs.Common.{◌≡◌, ◌+◌, ◌-◌, vec_len}
use Rattle.std.specs.Io.KnownBytes.{Consumes}
use Rattle.pool_run.specs.Texts.{max_input}
use Rattle.pool_run.proofs.script.read_input.Given as goal

abbrev pub invariant-loop-piece : goal.invariant-loop-piece
invariant-loop-piece g l = Consumes (g.S.Source.left l.initial.source) (g.S.Source.left l.source) l.input.items × (g.S.Source.faults l.source ≡ g.S.Source.faults l.initial.source)

abbrev pub decreases-loop-piece : goal.decreases-loop-piece
decreases-loop-piece g l = max_input + 1 - vec_len l.input
