use Rattle.std.proofs.Common.{sym, ap, subst, ◌∙◌, IsSome, None}
use Rattle.std.specs.FinMap as map
use Rattle.shard_model.specs.Objects.{Geometry}
use Rattle.shard_model.specs.Changes.{restored}
use Rattle.shard_state.specs.EntryMeanings.{undo_of}
use Rattle.shard_state.proofs.PlaceLemmas.{place_of, insert_twice}
use Rattle.shard_state.proofs.place_steps.restore_place.Goals as goal

pub set-requires : goal.set-requires
set-requires c = subst (λ m. IsSome (map.get m c.args.name)) (sym c.set-held.ensures.value) (place_of c.args.places.now c.args.name None)

pub returns : goal.returns
returns c =
    let g : Geometry = record { k = c.args.g.k; unit = c.args.g.unit } in
    c.set.ensures.value
    ∙ (λ i. map.insert (c.set-held.ensures.value i) c.args.name c.taken_back-before.result)
    ∙ insert_twice c.args.places.now c.args.name None c.taken_back-before.result
    ∙ ap (map.insert c.args.places.now c.args.name) (c.taken_back-before.ensures ∙ ap (restored g (undo_of c.args.undo)) c.set-held.ensures.before)
