use Rattle.std.proofs.Common.{◌≡◌, ◌<◌, ℕ, length, get_or}
use Rattle.ec_model.specs.Lrc.{mapping_mark}
use Rattle.lrc_layers.proofs.numbers.mapping_marks.Given as goal

abbrev pub invariant-loop-p : goal.invariant-loop-p
invariant-loop-p l =
    (length l.marks ≡ 16) × ((q : ℕ) → q < l.p → get_or l.marks q 0 ≡ mapping_mark l.d l.l q)
