use Rattle.std.proofs.Common.{◌≡◌, take}
use Rattle.rig_disk.proofs.slot_areas.copy_areas.Given as goal

abbrev pub invariant-loop-area : goal.invariant-loop-area
invariant-loop-area l = l.copy.items ≡ take l.area l.areas.items
