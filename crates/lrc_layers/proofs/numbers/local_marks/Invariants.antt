use Rattle.std.proofs.Common.{◌≡◌, ◌<◌, ℕ, length, get_or}
use Rattle.ec_model.specs.Lrc.{local_mark}
use Rattle.lrc_layers.proofs.numbers.local_marks.Given as goal

abbrev pub invariant-loop-p : goal.invariant-loop-p
invariant-loop-p l =
    (length l.marks ≡ 16) × ((q : ℕ) → q < l.p → get_or l.marks q 0 ≡ local_mark l.h l.l q)
