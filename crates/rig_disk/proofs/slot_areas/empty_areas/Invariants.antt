use Rattle.std.proofs.Common.{◌≡◌, [], replicate}
use Rattle.rig_disk.proofs.slot_areas.empty_areas.Given as goal

abbrev pub invariant-loop : goal.invariant-loop
invariant-loop l = l.areas.items ≡ replicate l.counter []
