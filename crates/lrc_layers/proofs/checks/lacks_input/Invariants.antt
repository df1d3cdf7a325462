use Rattle.std.proofs.Common.{◌<◌, ℕ}
use Rattle.ec_model.specs.Lrc.{layer_text, IsData, IsMadeBefore}
use Rattle.ec_code.specs.LrcFaults.{text_of_layer, layer_texts}
use Rattle.lrc_layers.proofs.checks.lacks_input.Given as goal

abbrev pub invariant-loop-p : goal.invariant-loop-p
invariant-loop-p l =
    (q : ℕ) → q < l.p → IsData (layer_text (layer_texts l.layers) l.i) q → IsMadeBefore (text_of_layer l.mapping) (layer_texts l.layers) l.i q
