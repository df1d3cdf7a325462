use Rattle.std.proofs.Common.{◌≡◌, ◌++◌, map, take, drop}
use Rattle.rig_disk.specs.Spoil.{spoiled_call}
use Rattle.rig_disk.proofs.spoil.spoil_calls.Given as goal

abbrev pub invariant-loop-index : goal.invariant-loop-index
invariant-loop-index l = l.calls.items ≡ map (spoiled_call l.slot l.area l.at l.byte) (take l.index l.initial.calls.items) ++ drop l.index l.initial.calls.items
