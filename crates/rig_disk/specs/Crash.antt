-- What the picks of a crash leave, by the calls. Source: this project.
use Rattle.std.specs.Prelude.{◌==◌, ℕ, min, List, [], ◌∷◌, length, take, replicate, if◌then◌else◌}
use Rattle.rig_disk.specs.CallLog.{Log, after, log_disk}
use Rattle.rig_disk.specs.Disk.{Image, written}
use Rattle.rig_disk.specs.SlotAreas.{image_of, put}
use Rattle.rig_disk.specs.declared.call.Call.{Call}
use Rattle.rig_disk.specs.declared.call.Call.TheVariants.{Write, Shorten, Sync, Say}
use Rattle.rig_disk.specs.declared.crash.Pick.{Pick}
use Rattle.rig_disk.specs.declared.crash.Pick.TheVariants.{Synced, Marked, Shortest}

-- what a pick leaves after a call, if it left `image` before it and reads give `disk` after it:
-- the bytes of the last sync; those written, each 0xff where it was written since; the front of what reads give that is no
-- longer than any length since
abbrev pub picked_step : Pick → Call → Image → Image → Image
picked_step pick (Say bytes) disk image = image
picked_step pick (Sync s a) disk image = put s a (disk s a) image
picked_step Synced (Write s a at bytes) disk image = image
picked_step Synced (Shorten s a len) disk image = image
picked_step Marked (Write s a at bytes) disk image = put s a (written (min at (length (image s a))) (replicate (length bytes) 255) (image s a)) image
picked_step Marked (Shorten s a len) disk image = put s a (take len (image s a)) image
picked_step Shortest (Write s a at bytes) disk image = put s a (take (length (image s a)) (disk s a)) image
picked_step Shortest (Shorten s a len) disk image = put s a (take (length (image s a)) (disk s a)) image

-- the same after these calls, the first of them first
abbrev pub picked_after : Pick → List Call → Image → Image → Image
picked_after pick [] disk image = image
picked_after pick (call ∷ calls) disk image = picked_after pick calls (after call disk) (picked_step pick call (after call disk) image)

-- what a pick leaves of slots, which were first as a sync leaves them
abbrev pub picked : Pick → Log → Image
picked pick log = picked_after pick log.calls (image_of log.first) (image_of log.first)

-- what the pick with this number leaves: 0 the bytes of the last sync, 2 each unsynced byte 0xff, 3 the least length, any
-- other what reads give
abbrev pub crashed : ℕ → Log → Image
crashed pick log = if pick == 0 then picked Synced log else if pick == 2 then picked Marked log else if pick == 3 then picked Shortest log else log_disk log
