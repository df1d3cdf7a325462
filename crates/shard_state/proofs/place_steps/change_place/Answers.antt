use Rattle.std.proofs.Common.{sym, ap, subst, ◌∙◌, IsSome, None}
use Rattle.std.specs.FinMap as map
use Rattle.shard_model.specs.Objects.{Geometry}
use Rattle.shard_model.specs.Changes.{changed}
use Rattle.shard_steps.specs.StepMeanings.{change_in, step_of}
use Rattle.shard_state.proofs.PlaceLemmas.{place_of, insert_twice, insert_own}
use Rattle.shard_state.proofs.place_steps.change_place.Goals as goal

pub set-requires : goal.set-requires
set-requires c = subst (λ m. IsSome (map.get m c.args.name.now)) (sym c.set-before.ensures.value) (place_of c.args.places.now c.args.name.now None)

pub set-requires-in-Err : goal.set-requires-in-Err
set-requires-in-Err c = subst (λ m. IsSome (map.get m c.args.name.now)) (sym c.set-before.ensures.value) (place_of c.args.places.now c.args.name.now None)

pub returns-in-Ok-clause-ok : goal.returns-in-Ok-clause-ok
returns-in-Ok-clause-ok c =
    let g : Geometry = record { k = c.args.g.k; unit = c.args.g.unit } in
    c.set.ensures.value
    ∙ (λ i. map.insert (c.set-before.ensures.value i) c.args.name.now c.in-Ok.done.after)
    ∙ insert_twice c.args.places.now c.args.name.now None c.in-Ok.done.after
    ∙ ap (map.insert c.args.places.now c.args.name.now)
    (c.in-Ok.ensures.ok.after ∙ ap (changed g (change_in (step_of c.args.step.now))) c.set-before.ensures.before)

pub returns-in-Err-clause-unchanged : goal.returns-in-Err-clause-unchanged
returns-in-Err-clause-unchanged c =
    c.set-in-Err.ensures.value
    ∙ (λ i. map.insert (c.set-before.ensures.value i) c.args.name.now c.in-Err.before)
    ∙ insert_twice c.args.places.now c.args.name.now None c.in-Err.before
    ∙ ap (map.insert c.args.places.now c.args.name.now) (c.in-Err.ensures.unchanged ∙ c.set-before.ensures.before)
    ∙ sym (insert_own c.args.places.now c.args.name.now c.requires.placed)
