use Rattle.std.proofs.Common.{◌≡◌, ◌≢◌, ◌<◌, ℕ}
use Rattle.ec_model.specs.Rows.{entry_at}
use Rattle.ec_matrix.specs.Matrix.{HasSize}
use Rattle.ec_code.proofs.deciding.set_row.Given as goal

abbrev pub invariant-loop-j : goal.invariant-loop-j
invariant-loop-j g l =
    HasSize l.rows ((goal.Code-dyn g l.code.now).meaning l.code.now.1).n ((goal.Code-dyn g l.code.now).meaning l.code.now.1).k
    × ((j : ℕ) → j < l.j → entry_at l.rows.rows l.q j ≡ entry_at ((goal.Code-dyn g l.code.now).meaning l.code.now.1).rows l.q j)
    × ((i j : ℕ) → i ≢ l.q → entry_at l.rows.rows i j ≡ entry_at l.initial.rows.rows i j)
