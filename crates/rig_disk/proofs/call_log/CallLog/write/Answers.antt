use Rattle.std.proofs.Common.{rules, ◌≡◌, ◌++◌, ◌∷◌, ◌∙◌, [], List, ℕ, take, ap, sym, subst}
use Rattle.std.proofs.lemmas.List.{take_at}
use Rattle.rig_disk.specs.CallLog.{Agrees}
use Rattle.rig_disk.specs.Disk.{written}
use Rattle.rig_disk.specs.SlotAreas.{image_of}
use Rattle.rig_disk.specs.declared.call.Call.{Call}
use Rattle.rig_disk.specs.declared.call.Call.TheVariants.{Write}
use Rattle.rig_disk.proofs.AgreeLemmas.{write_agrees, kept_agrees, fits_too}
use Rattle.rig_disk.proofs.call_log.CallLog.write.Goals as goal

pub write-requires-clause-at : goal.write-requires-clause-at
write-requires-clause-at c = fits_too c.self.inside.first c.self.inside.areas c.self.inside.calls.items c.self.inside.said.items c.self.invariant c.args.slot c.args.area c.args.at _ c.self.view_is c.requires.at

pub invariant_of-self-else-is_err : goal.invariant_of-self-else-is_err
invariant_of-self-else-is_err c =
    let bytes = c.args.bytes.now in
    let is : c.push.new.self.items ≡ c.self.inside.calls.items ++ Write c.args.slot c.args.area c.args.at bytes ∷ [] =
    c.in_ok-push.ensures.items ∙ ap (λ (l : List ℕ). c.self.inside.calls.items ++ Write c.args.slot c.args.area c.args.at l ∷ []) c.in_ok-from_slice.ensures in
    let here : image_of c.write.new.self c.args.slot c.args.area ≡ written c.args.at bytes (image_of c.self.inside.areas c.args.slot c.args.area) = search rules in
    let fits = fits_too c.self.inside.first c.self.inside.areas c.self.inside.calls.items c.self.inside.said.items c.self.invariant c.args.slot c.args.area c.args.at _ c.self.view_is c.requires.at in
    subst (λ (cs : List Call). Agrees c.self.inside.first c.write.new.self cs c.self.inside.said.items) (sym is)
    (write_agrees c.self.inside.first c.self.inside.areas c.write.new.self c.self.inside.calls.items c.self.inside.said.items c.self.invariant c.args.slot c.args.area c.requires.slot c.requires.area c.write.ensures.others c.args.at bytes fits here)

pub invariant_of-self-then-is_err : goal.invariant_of-self-then-is_err
invariant_of-self-then-is_err c =
    let is : c.truncate.new.self.items ≡ c.self.inside.calls.items = c.truncate.ensures.items ∙ ap (take c.len-before.result) c.in_ok-push.ensures.items ∙ take_at c.self.inside.calls.items _ c.len-before.result (search rules) in
    let here : image_of c.write.new.self c.args.slot c.args.area ≡ image_of c.self.inside.areas c.args.slot c.args.area = search rules in
    subst (λ (cs : List Call). Agrees c.self.inside.first c.write.new.self cs c.self.inside.said.items) (sym is)
    (kept_agrees c.self.inside.first c.self.inside.areas c.write.new.self c.self.inside.calls.items c.self.inside.said.items c.self.invariant c.args.slot c.args.area c.requires.slot c.requires.area c.write.ensures.others here)
