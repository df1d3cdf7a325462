use Rattle.std.proofs.Common.{◌≡◌, ◌++◌, false, drop}
use Rattle.ec_code.specs.LayerTexts.{uncommaed}
use Rattle.profile_texts.proofs.layers.uncommaed.Given as goal

abbrev pub invariant-loop-i : goal.invariant-loop-i
invariant-loop-i l = l.kept.items ++ uncommaed l.quoted l.escaped (drop l.i l.text) ≡ uncommaed false false l.text
