use Rattle.std.proofs.Common.{◌≡◌, ◌≤◌}
use Rattle.ec_model.specs.Lrc.{mark_number}
use Rattle.ec_code.specs.LrcFaults.{text_of_layer}
use Rattle.lrc_layers.proofs.marks.number_before.Given as goal

abbrev pub invariant-loop-q : goal.invariant-loop-q
invariant-loop-q l =
    (l.count ≡ mark_number l.mark (text_of_layer l.text) l.q) × (l.count ≤ l.q)
