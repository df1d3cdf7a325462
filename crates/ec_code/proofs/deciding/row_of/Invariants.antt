use Rattle.std.proofs.Common.{◌≡◌, ◌<◌, ◌≤◌, ℕ, length, get_or}
use Rattle.ec_model.specs.Rows.{entry_at}
use Rattle.ec_code.proofs.deciding.row_of.Given as goal

abbrev pub invariant-loop-j : goal.invariant-loop-j
invariant-loop-j g l =
    (length l.row ≡ 16)
    × ((j : ℕ) → j < l.j → get_or l.row j 0 ≡ entry_at ((goal.Code-dyn g l.code.now).meaning l.code.now.1).rows l.p j)
    × ((j : ℕ) → l.j ≤ j → get_or l.row j 0 ≡ 0)
