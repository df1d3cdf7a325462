use Rattle.std.proofs.Common.{◌<◌, ℕ}
use Rattle.ec_model.specs.Lrc.{LacksInput}
use Rattle.ec_code.specs.LrcFaults.{text_of_layer, layer_texts}
use Rattle.lrc_layers.proofs.checks.has_input_fault.Given as goal

abbrev pub invariant-loop-i : goal.invariant-loop-i
invariant-loop-i l =
    (g : ℕ) → g < l.i → LacksInput (text_of_layer l.mapping) (layer_texts l.layers) g → ⊥
