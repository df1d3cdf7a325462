use Rattle.std.proofs.Common.{◌≡◌, ◌<◌, ℕ, length}
use Rattle.ec_model.specs.Lrc.{layer_text}
use Rattle.ec_code.specs.LrcFaults.{layer_texts}
use Rattle.lrc_layers.proofs.checks.has_length_fault.Given as goal

abbrev pub invariant-loop-i : goal.invariant-loop-i
invariant-loop-i l =
    (g : ℕ) → g < l.i → length (layer_text (layer_texts l.layers) g) ≡ l.mapping.len
