use Rattle.std.proofs.Common.{rules, ◌≡◌, ◌<◌, ◌∙◌, get_or, length, ap}
use Rattle.rig_disk.specs.Spoil.{spoiled_call}
use Rattle.rig_disk.proofs.SpoilLemmas.{half_at, half_more}
use Rattle.rig_disk.proofs.spoil.spoil_calls.Goals as goal

pub loop-index-preserved : goal.loop-index-preserved
loop-index-preserved c =
    let f = spoiled_call c.args.slot c.args.area c.args.at c.args.byte in
    let old = c.args.calls.now.items in
    let i = c.loop-index.index in
    let d = c.index_mut.result.now in
    let lt : i < length old = search rules in
    let made : c.spoil_call.result ≡ f (get_or old i d) = c.spoil_call.ensures ∙ ap f (c.replace-call.ensures.value ∙ c.index_mut.ensures.value ∙ half_at f old c.loop-index.calls.items i d c.loop-index.invariant lt) in
    half_more f old c.loop-index.calls.items i d c.loop-index.invariant lt c.replace-call.new.dest c.spoil_call.result made
