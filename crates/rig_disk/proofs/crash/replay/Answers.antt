use Rattle.std.proofs.Common.{◌≡◌, ◌+◌, ◌∙◌, take, get_or, ap, sym, subst}
use Rattle.rig_disk.specs.CallLog.{IsFitting, IsWithin, after, disk_after}
use Rattle.rig_disk.specs.Crash.{picked_step}
use Rattle.rig_disk.specs.Disk.{Image}
use Rattle.rig_disk.specs.SlotAreas.{image_of}
use Rattle.rig_disk.specs.declared.call.Call.{Call}
use Rattle.rig_disk.proofs.ReplayLemmas.{sound_at, disk_next, picked_next}
use Rattle.rig_disk.proofs.crash.replay.Goals as goal

-- src/crash.rt:41:9
pub apply-requires-clause-within : goal.apply-requires-clause-within
apply-requires-clause-within c =
    subst IsWithin (sym c.index-calls-index.is) (sound_at c.args.calls.now (image_of c.args.first.now) c.loop-index.index c.index-calls-index.result c.requires c.loop-index-test.true).0

-- src/crash.rt:41:9
pub apply-requires-clause-fits : goal.apply-requires-clause-fits
apply-requires-clause-fits c =
    let first = image_of c.args.first.now in
    subst (λ (call : Call). IsFitting call (image_of c.loop-index.disk)) (sym c.index-calls-index.is)
    (subst (λ (d : Image). IsFitting (get_or c.args.calls.now c.loop-index.index c.index-calls-index.result) d) (sym c.loop-index.invariant.disk)
    (sound_at c.args.calls.now first c.loop-index.index c.index-calls-index.result c.requires c.loop-index-test.true).1)

-- src/crash.rt:42:9
pub leave-requires : goal.leave-requires
leave-requires c =
    subst IsWithin (sym c.index-calls-index-in-loop-index.is) (sound_at c.args.calls.now (image_of c.args.first.now) c.loop-index.index c.index-calls-index-in-loop-index.result c.requires c.loop-index-test.true).0

-- src/crash.rt:40:5
pub loop-index-preserved : goal.loop-index-preserved
loop-index-preserved c =
    let calls = c.args.calls.now in
    let first = image_of c.args.first.now in
    let i = c.loop-index.index in
    let call = c.index-calls-index.result in
    let again = c.index-calls-index-in-loop-index.result in
    let disk : image_of c.apply.new.disk ≡ disk_after (take (i + 1) calls) first =
    c.in_ok-apply.ensures ∙ ap (λ (x : Call). after x (image_of c.loop-index.disk)) c.index-calls-index.is
    ∙ ap (λ (d : Image). after (get_or calls i call) d) c.loop-index.invariant.disk ∙ sym (disk_next calls i call first c.loop-index-test.true) in
    record {
      disk = disk;
      left = c.in_ok-leave.ensures ∙ ap (λ (x : Call). picked_step c.args.pick x (image_of c.apply.new.disk) (image_of c.loop-index.left)) c.index-calls-index-in-loop-index.is
          ∙ ap (λ (d : Image). picked_step c.args.pick (get_or calls i again) d (image_of c.loop-index.left)) disk
          ∙ ap (λ (l : Image). picked_step c.args.pick (get_or calls i again) (disk_after (take (i + 1) calls) first) l) c.loop-index.invariant.left
          ∙ sym (picked_next c.args.pick calls i again first first c.loop-index-test.true);
    }
