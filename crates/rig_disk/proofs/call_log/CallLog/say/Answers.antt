use Rattle.std.proofs.Common.{rules, ◌≡◌, ◌++◌, ◌∷◌, ◌∙◌, [], List, ℕ, ap, sym, subst}
use Rattle.rig_disk.specs.CallLog.{Agrees}
use Rattle.rig_disk.specs.declared.call.Call.{Call}
use Rattle.rig_disk.specs.declared.call.Call.TheVariants.{Say}
use Rattle.rig_disk.proofs.AgreeLemmas.{say_agrees}
use Rattle.rig_disk.proofs.call_log.CallLog.say.Goals as goal

pub invariant_of-self-else-is_err : goal.invariant_of-self-else-is_err
invariant_of-self-else-is_err c =
    let bytes = c.args.bytes.now in
    let is : c.push.new.self.items ≡ c.self.inside.calls.items ++ Say bytes ∷ [] = c.in_ok-push.ensures.items ∙ ap (λ (l : List ℕ). c.self.inside.calls.items ++ Say l ∷ []) c.in_ok-from_slice.ensures in
    let said : c.extend_from_slice.new.self.items ≡ c.self.inside.said.items ++ bytes = search rules in
    subst (λ (cs : List Call). Agrees c.self.inside.first c.self.inside.areas cs c.extend_from_slice.new.self.items) (sym is)
    (subst (λ (l : List ℕ). Agrees c.self.inside.first c.self.inside.areas (c.self.inside.calls.items ++ Say bytes ∷ []) l) (sym said)
    (say_agrees c.self.inside.first c.self.inside.areas c.self.inside.calls.items c.self.inside.said.items c.self.invariant bytes))
