use Rattle.std.proofs.Common.{◌≡◌, ◌<◌, ◌≤◌, ℕ, length}
use Rattle.ec_model.specs.Rows.{entry_at}
use Rattle.read_plan.proofs.tables.table.Given as goal

abbrev pub invariant-loop-p : goal.invariant-loop-p
invariant-loop-p g l =
    (length l.rows ≡ 16)
    × ((p j : ℕ) → p < l.p → j < ((goal.Code-dyn g l.code.now).meaning l.code.now.1).k → entry_at l.rows p j ≡ entry_at ((goal.Code-dyn g l.code.now).meaning l.code.now.1).rows p j)
    × ((p j : ℕ) → ((goal.Code-dyn g l.code.now).meaning l.code.now.1).k ≤ j → entry_at l.rows p j ≡ 0)
