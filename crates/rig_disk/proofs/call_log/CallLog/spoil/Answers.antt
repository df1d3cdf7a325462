use Rattle.std.proofs.Common.{◌∙◌, set, ap}
use Rattle.rig_disk.specs.CallLog.{Log, log_disk, said_after}
use Rattle.rig_disk.specs.SlotAreas.{image_of}
use Rattle.rig_disk.specs.Spoil.{spoiled}
use Rattle.rig_disk.proofs.ReplayLemmas.{put_is}
use Rattle.rig_disk.proofs.SpoilLemmas.{spoiled_disk, spoiled_said, spoiled_agrees}
use Rattle.rig_disk.proofs.call_log.CallLog.spoil.Goals as goal

pub invariant_of-self : goal.invariant_of-self
invariant_of-self c =
    let first = c.self.inside.first in
    let areas = c.self.inside.areas in
    let same_first = put_is (image_of first) (image_of c.set.new.self) c.args.slot c.args.area (set (image_of first c.args.slot c.args.area) c.args.at c.args.byte) c.set.ensures.set c.set.ensures.others in
    let same_areas = put_is (image_of areas) (image_of c.set-2.new.self) c.args.slot c.args.area (set (image_of areas c.args.slot c.args.area) c.args.at c.args.byte) c.set-2.ensures.set c.set-2.ensures.others in
    spoiled_agrees first c.set.new.self c.self.inside.calls.items c.spoil_calls.new.calls.items c.args.slot c.args.area c.args.at c.args.byte c.self.invariant.sound same_first c.spoil_calls.ensures
    areas c.set-2.new.self c.self.inside.said.items c.self.invariant same_areas

pub returns-clause-disk : goal.returns-clause-disk
returns-clause-disk c = λ s a.
    let first = c.self.inside.first in
    let same_first = put_is (image_of first) (image_of c.set.new.self) c.args.slot c.args.area (set (image_of first c.args.slot c.args.area) c.args.at c.args.byte) c.set.ensures.set c.set.ensures.others in
    let now = spoiled_disk first c.set.new.self c.self.inside.calls.items c.spoil_calls.new.calls.items c.args.slot c.args.area c.args.at c.args.byte c.self.invariant.sound same_first c.spoil_calls.ensures in
    (λ i. now i s a) ∙ ap (λ (l : Log). spoiled c.args.slot c.args.area c.args.at c.args.byte (log_disk l) s a) c.self.view_is

pub returns-clause-said : goal.returns-clause-said
returns-clause-said c =
    let first = c.self.inside.first in
    let same_first = put_is (image_of first) (image_of c.set.new.self) c.args.slot c.args.area (set (image_of first c.args.slot c.args.area) c.args.at c.args.byte) c.set.ensures.set c.set.ensures.others in
    spoiled_said first c.set.new.self c.self.inside.calls.items c.spoil_calls.new.calls.items c.args.slot c.args.area c.args.at c.args.byte c.self.invariant.sound same_first c.spoil_calls.ensures ∙ ap (λ (l : Log). said_after l.calls) c.self.view_is
