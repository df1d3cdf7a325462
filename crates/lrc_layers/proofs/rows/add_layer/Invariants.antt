use Rattle.std.proofs.Common.{◌≡◌, ◌<◌, ℕ, length}
use Rattle.ec_model.specs.Rows.{entry_at}
use Rattle.ec_model.specs.Lrc.{IsCoding, IsMadeBy}
use Rattle.ec_code.specs.LrcFaults.{text_of_layer}
use Rattle.lrc_layers.proofs.rows.add_layer.Given as goal

abbrev pub invariant-loop-p : goal.invariant-loop-p
invariant-loop-p l =
    (length l.rows ≡ 16)
    × ((q j : ℕ) → (IsCoding (text_of_layer l.layer) q → ⊥) → entry_at l.rows q j ≡ entry_at l.fn.rows q j)
    × ((q : ℕ) → q < l.p → IsCoding (text_of_layer l.layer) q → IsMadeBy (text_of_layer l.layer) l.rows 16 q)
