use Rattle.std.proofs.Common.{◌≡◌, take}
use Rattle.rig_disk.specs.CallLog.{disk_after}
use Rattle.rig_disk.specs.Crash.{picked_after}
use Rattle.rig_disk.specs.SlotAreas.{image_of}
use Rattle.rig_disk.proofs.crash.replay.Given as goal

abbrev pub invariant-loop-index : goal.invariant-loop-index
invariant-loop-index l = record {
  disk : image_of l.disk ≡ disk_after (take l.index l.calls) (image_of l.first);
  left : image_of l.left ≡ picked_after l.pick (take l.index l.calls) (image_of l.first) (image_of l.first);
}
