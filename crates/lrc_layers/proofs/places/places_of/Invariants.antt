use Rattle.std.proofs.Common.{◌≡◌, ◌<◌, ℕ, length, get_or}
use Rattle.ec_model.specs.Lrc.{IsData, mark_number}
use Rattle.ec_code.specs.LrcFaults.{text_of_layer}
use Rattle.lrc_layers.proofs.places.places_of.Given as goal

abbrev pub invariant-loop-p : goal.invariant-loop-p
invariant-loop-p l =
    (length l.places ≡ 16)
    × ((q : ℕ) → q < l.p → IsData (text_of_layer l.mapping) q → get_or l.places (mark_number 68 (text_of_layer l.mapping) q) 0 ≡ q)
