use Rattle.std.proofs.Common.{◌≡◌, ◌∷◌, ◌++◌, sym, ap, subst, ◌∙◌, OnOk}
use Rattle.std.proofs.lemmas.List.{append_assoc}
use Rattle.shard_model.specs.StepBytes.{head_bytes, change_bytes, change_number, step_bytes, HasShortLists}
use Rattle.shard_steps.specs.StepMeanings.{change_in, step_of}
use Rattle.shard_steps.proofs.encoding.put_step.Goals as goal

pub put_change-requires-clause-short : goal.put_change-requires-clause-short
put_change-requires-clause-short c = subst HasShortLists c.in-Some.ensures.entry c.requires

pub returns-in_ok-put_head-in-Some : goal.returns-in_ok-put_head-in-Some
returns-in_ok-put_head-in-Some c =
    let h = c.in-Some.head in
    let change = change_in (step_of c.args.step.now) in
    let front = change_number change ∷ head_bytes (h.version.now, (h.prior.now, h.name.now)) in
    subst (λ t. OnOk c.put_change.result (c.put_change.new.out ≡ t))
    (ap (λ t. t ++ change_bytes change) (c.in_ok-put_head-in-Some.ensures ∙ ap (λ n. c.args.out.now ++ (n ∷ head_bytes (h.version.now, (h.prior.now, h.name.now)))) c.number_of.ensures)
    ∙ append_assoc c.args.out.now front (change_bytes change) ∙ ap (λ s. c.args.out.now ++ step_bytes s) (sym c.in-Some.ensures.entry))
    c.put_change.ensures
