use Rattle.std.proofs.Common.{sym, subst, ◌∙◌, None}
use Rattle.std.specs.FinMap as map
use Rattle.shard_state.specs.Places.{HasMade}
use Rattle.shard_state.proofs.PlaceLemmas.{made_place, none_of}
use Rattle.shard_state.proofs.place_steps.make_place.Goals as goal

pub returns-in_ok-make-clause-made : goal.returns-in_ok-make-clause-made
returns-in_ok-make-clause-made c =
    subst (λ m. HasMade c.args.name.now c.args.places.now m)
    (sym (c.in_ok-make.ensures.ok ∙ (λ i. map.insert c.args.places.now (c.in_ok-copy.ensures i) None)))
    (made_place c.args.places.now c.args.name.now (none_of (map.get c.args.places.now c.args.name.now) (sym c.has.ensures ∙ c.if-not-has.true)))
