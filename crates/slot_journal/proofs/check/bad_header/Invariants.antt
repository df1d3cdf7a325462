use Rattle.std.proofs.Common.{◌<◌, ℕ}
use Rattle.slot_journal.specs.Text.{FitsAt}
use Rattle.slot_journal.proofs.check.bad_header.Given as goal

abbrev pub invariant-loop-place : goal.invariant-loop-place
invariant-loop-place l = (before : ℕ) → before < l.place → FitsAt l.head l.front before
