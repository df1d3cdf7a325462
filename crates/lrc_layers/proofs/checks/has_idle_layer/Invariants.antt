use Rattle.std.proofs.Common.{◌<◌, ℕ}
use Rattle.ec_model.specs.Lrc.{LacksOutput}
use Rattle.ec_code.specs.LrcFaults.{text_of_layer, layer_texts}
use Rattle.lrc_layers.proofs.checks.has_idle_layer.Given as goal

abbrev pub invariant-loop-i : goal.invariant-loop-i
invariant-loop-i l =
    (g : ℕ) → g < l.i → LacksOutput (text_of_layer l.mapping) (layer_texts l.layers) g → ⊥
