use Rattle.std.proofs.Common.{map, take}
use Rattle.ec_tool.specs.Wanted.{AreNumbers}
use Rattle.ec_tool.proofs.wanted.read_numbers.Given as goal

abbrev pub invariant-loop-text : goal.invariant-loop-text
invariant-loop-text l = AreNumbers (map (λ text. text.now) (take l.text-index l.texts)) l.numbers.items
