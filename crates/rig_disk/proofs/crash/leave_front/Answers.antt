use Rattle.std.proofs.Common.{◌≡◌, ◌∙◌, ℕ, List, length, take, min, ap}
use Rattle.std.proofs.lemmas.List.{take_min}
use Rattle.rig_disk.specs.SlotAreas.{image_of}
use Rattle.rig_disk.proofs.ReplayLemmas.{put_is}
use Rattle.rig_disk.proofs.crash.leave_front.Goals as goal

pub returns : goal.returns
returns c =
    let there = image_of c.args.disk.now c.args.slot c.args.area in
    let left = image_of c.args.left.now c.args.slot c.args.area in
    let len : c.min-len.result ≡ min (length left) (length there) = c.min-len.ensures ∙ ap (λ (l : List ℕ). min (length l) (length c.bytes-there.result.now)) c.bytes.ensures ∙ ap (λ (l : List ℕ). min (length left) (length l)) c.bytes-there.ensures in
    let front : c.in_ok-front.front ≡ take (length left) there = c.in_ok-front.ensures ∙ ap (take c.min-len.result) c.bytes-there.ensures ∙ ap (λ n. take n there) len ∙ take_min (length left) there in
    put_is (image_of c.args.left.now) (image_of c.replace.new.self) c.args.slot c.args.area (take (length left) there) (c.replace.ensures.put ∙ front) c.replace.ensures.others
