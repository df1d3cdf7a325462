use Rattle.std.proofs.Common.{◌∷◌, [], refl, map as each, sym, ap, subst, ◌∙◌}
use Rattle.std.proofs.lemmas.List.{map-append, same_from_push}
use Rattle.shard_model.specs.Objects.{Geometry}
use Rattle.shard_model.specs.States.{undone_one}
use Rattle.shard_state.specs.Inner.{shard_of}
use Rattle.shard_state.specs.Places.{inside}
use Rattle.shard_state.specs.Records.{recorded}
use Rattle.shard_state.specs.Sound.{IsKept, logged_in}
use Rattle.shard_state.specs.Ways.{with_log}
use Rattle.shard_state.proofs.OrderLemmas.{ordered_less}
use Rattle.shard_state.proofs.StateLemmas.{place_there, sound_here, objects_gone, gone_kept}
use Rattle.shard_state.proofs.state.ShardState.undo_newest.Goals as goal

pub restore_place-requires-clause-placed : goal.restore_place-requires-clause-placed
restore_place-requires-clause-placed c =
    let g : Geometry = record { k = c.self.inside.geometry.k; unit = c.self.inside.geometry.unit } in
    let places = c.self.inside.places in
    let logs = ap (each recorded) c.in-Some.ensures.items ∙ map-append recorded c.pop.new.self.items (c.in-Some.record ∷ []) in
    place_there g places (each recorded c.pop.new.self.items) (recorded c.in-Some.record) (subst (IsKept g places (inside places)) logs c.self.invariant.kept)

pub restore_place-requires-clause-sound : goal.restore_place-requires-clause-sound
restore_place-requires-clause-sound c =
    let g : Geometry = record { k = c.self.inside.geometry.k; unit = c.self.inside.geometry.unit } in
    let places = c.self.inside.places in
    let logs = ap (each recorded) c.in-Some.ensures.items ∙ map-append recorded c.pop.new.self.items (c.in-Some.record ∷ []) in
    sound_here g places (each recorded c.pop.new.self.items) (recorded c.in-Some.record) (subst (IsKept g places (inside places)) logs c.self.invariant.kept)

pub invariant_of-self : goal.invariant_of-self
invariant_of-self c =
    let g : Geometry = record { k = c.self.inside.geometry.k; unit = c.self.inside.geometry.unit } in
    let places = c.self.inside.places in
    let rs = each recorded c.pop.new.self.items in
    let logs = ap (each recorded) c.in-Some.ensures.items ∙ map-append recorded c.pop.new.self.items (c.in-Some.record ∷ []) in
    let r = recorded c.in-Some.record in
    record {
      kept = subst (λ p. IsKept g p (inside p) rs) (sym c.restore_place.ensures) (gone_kept g places rs r (subst (IsKept g places (inside places)) logs c.self.invariant.kept));
      ordered = ordered_less (shard_of c.self.inside).state (each logged_in rs) r.logged _ (ap (each logged_in) logs ∙ map-append logged_in rs (r ∷ [])) refl refl refl c.self.invariant.ordered;
    }

pub returns : goal.returns
returns c = λ ns n log.
    let g : Geometry = record { k = c.self.inside.geometry.k; unit = c.self.inside.geometry.unit } in
    let places = c.self.inside.places in
    let rs = each recorded c.pop.new.self.items in
    let r = recorded c.in-Some.record in
    let logs = ap (each recorded) c.in-Some.ensures.items ∙ map-append recorded c.pop.new.self.items (c.in-Some.record ∷ []) in
    let kept = subst (IsKept g places (inside places)) logs c.self.invariant.kept in
    let all = sym (ap (each logged_in) logs ∙ map-append logged_in rs (r ∷ [])) ∙ ap (λ s. s.state.log) c.self.view_is ∙ log in
    let parts = same_from_push (each logged_in rs) ns r.logged n all in
    let objects = ap inside c.restore_place.ensures ∙ objects_gone g places rs r kept ∙ ap (undone_one g (inside places)) parts.1 in
    (λ i. with_log (shard_of c.self.inside) (objects i) (parts.0 i))
    ∙ (λ i. with_log (c.self.view_is i) (undone_one (c.self.view_is i).geometry (c.self.view_is i).state.objects n) ns)
