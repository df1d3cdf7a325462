use Rattle.std.proofs.Common.{◌≡◌, ◌<◌, ℕ, length}
use Rattle.ec_model.specs.Rows.{unit_entry, entry_at}
use Rattle.ec_model.specs.Lrc.{IsData, mark_number}
use Rattle.ec_code.specs.LrcFaults.{text_of_layer}
use Rattle.lrc_layers.proofs.rows.data_rows.Given as goal

abbrev pub invariant-loop-p : goal.invariant-loop-p
invariant-loop-p l =
    (length l.rows ≡ 16)
    × ((q j : ℕ) → q < l.p → IsData (text_of_layer l.mapping) q → j < 16
    → entry_at l.rows q j ≡ unit_entry (mark_number 68 (text_of_layer l.mapping) q) j)
