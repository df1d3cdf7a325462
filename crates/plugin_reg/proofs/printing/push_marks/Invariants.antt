use Rattle.std.proofs.Common.{◌≡◌, ◌++◌}
use Rattle.ec_code.specs.LrcFaults.{text_of}
use Rattle.plugin_reg.proofs.printing.push_marks.Given as goal

abbrev pub invariant-loop-i : goal.invariant-loop-i
invariant-loop-i l = l.list.items ≡ l.initial.list.items ++ text_of l.first l.i
