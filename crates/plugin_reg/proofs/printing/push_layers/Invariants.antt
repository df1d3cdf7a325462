use Rattle.std.proofs.Common.{◌≡◌, ◌++◌, take}
use Rattle.ec_code.specs.LrcFaults.{layer_texts}
use Rattle.plugin_reg.specs.Canonical.{layer_items}
use Rattle.plugin_reg.proofs.printing.push_layers.Given as goal

abbrev pub invariant-loop-i : goal.invariant-loop-i
invariant-loop-i l = l.list.items ≡ l.initial.list.items ++ layer_items (take l.i (layer_texts l.layers))
