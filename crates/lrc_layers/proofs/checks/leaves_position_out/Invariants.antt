use Rattle.std.proofs.Common.{◌<◌, ℕ}
use Rattle.ec_model.specs.Lrc.{IsMadeBefore}
use Rattle.ec_code.specs.LrcFaults.{text_of_layer, layer_texts}
use Rattle.lrc_layers.proofs.checks.leaves_position_out.Given as goal

abbrev pub invariant-loop-p : goal.invariant-loop-p
invariant-loop-p l =
    (q : ℕ) → q < l.p → IsMadeBefore (text_of_layer l.mapping) (layer_texts l.layers) l.layers.count q
