use Rattle.std.proofs.Common.{◌≡◌, ◌<◌, ℕ}
use Rattle.ec_model.specs.Rows.{unit_entry, entry_at}
use Rattle.ec_model.specs.Lrc.{IsData, IsCoding, mark_number, layer_text, IsMadeBy}
use Rattle.ec_code.specs.LrcFaults.{text_of_layer, layer_texts}
use Rattle.lrc_layers.proofs.rows.rows_of.Given as goal

abbrev pub invariant-loop-i : goal.invariant-loop-i
invariant-loop-i l =
    ((p j : ℕ) → IsData (text_of_layer l.mapping) p → j < 16
    → entry_at l.rows p j ≡ unit_entry (mark_number 68 (text_of_layer l.mapping) p) j)
    × ((h p : ℕ) → h < l.i → IsCoding (layer_text (layer_texts l.layers) h) p → IsMadeBy (layer_text (layer_texts l.layers) h) l.rows 16 p)
