-- A byte that differs from what was written. Source: this project.
use Rattle.std.specs.Prelude.{◌==◌, ◌&&◌, ◌-◌, ℕ, set, nat_le, if◌then◌else◌}
use Rattle.rig_disk.specs.Disk.{Image}
use Rattle.rig_disk.specs.SlotAreas.{put}
use Rattle.rig_disk.specs.declared.call.Call.{Call}
use Rattle.rig_disk.specs.declared.call.Call.TheVariants.{Write, Shorten, Sync, Say}

-- the slots with one byte of an area changed, if it is there
abbrev pub spoiled : ℕ → ℕ → ℕ → ℕ → Image → Image
spoiled slot area at byte disk = put slot area (set (disk slot area) at byte) disk

-- a call that wrote this byte wrote the other
abbrev pub spoiled_call : ℕ → ℕ → ℕ → ℕ → Call → Call
spoiled_call slot area at byte (Write s a from bytes) = Write s a from (if ((s == slot) && (a == area)) && nat_le from at then set bytes (at - from) byte else bytes)
spoiled_call slot area at byte (Shorten s a len) = Shorten s a len
spoiled_call slot area at byte (Sync s a) = Sync s a
spoiled_call slot area at byte (Say bytes) = Say bytes
