use Rattle.std.proofs.Common.{◌≡◌, ◌∙◌, sym, subst}
use Rattle.rig_disk.specs.Crash.{picked_step}
use Rattle.rig_disk.specs.SlotAreas.{image_of}
use Rattle.rig_disk.specs.declared.call.Call.{Call}
use Rattle.rig_disk.proofs.ReplayLemmas.{put_is}
use Rattle.rig_disk.proofs.crash.leave.Goals as goal

pub returns-in_ok-synced-in-Sync : goal.returns-in_ok-synced-in-Sync
returns-in_ok-synced-in-Sync c =
    subst (λ (call : Call). image_of c.replace.new.self ≡ picked_step c.args.pick call (image_of c.args.disk.now) (image_of c.args.left.now)) (sym c.in-Sync.is)
    (put_is (image_of c.args.left.now) (image_of c.replace.new.self) c.in-Sync.slot c.in-Sync.area (image_of c.args.disk.now c.in-Sync.slot c.in-Sync.area)
    (c.replace.ensures.put ∙ c.in_ok-synced-in-Sync.ensures ∙ c.bytes.ensures) c.replace.ensures.others)
