use Rattle.std.proofs.Common.{◌<◌, ℕ}
use Rattle.ec_model.specs.Lrc.{layer_text, IsCoding}
use Rattle.ec_code.specs.LrcFaults.{layer_texts}
use Rattle.lrc_layers.proofs.checks.is_made_before.Given as goal

abbrev pub invariant-loop-h : goal.invariant-loop-h
invariant-loop-h l =
    (g : ℕ) → g < l.h → IsCoding (layer_text (layer_texts l.layers) g) l.p → ⊥
