use Rattle.std.proofs.Common.{rules, ◌+◌, ◌-◌, ◌^◌, min, length, ◌≡◌, ◌∙◌, ◌∷◌, List, ℕ, ap, sym, subst, refl, Err}
use Rattle.shard_model.specs.Objects.{Geometry}
use Rattle.shard_store.specs.Stories.{IsBadAmong}
use Rattle.shard_store.proofs.LoadLemmas.{IsReplaying, replays_on, bad_among, none_done, all_done}
use Rattle.shard_store.proofs.loading.replay_bodies.Goals as goal

pub loop-body-preserved : goal.loop-body-preserved
loop-body-preserved c =
    let g : Geometry = record { k = c.args.g.k; unit = c.args.g.unit } in
    let left = c.next.new.self.rest.items in
    let again : c.as_slice-in-loop-body.result.now ≡ c.as_slice.result.now = c.as_slice-in-loop-body.ensures.value ∙ sym c.as_slice.ensures.value in
    replays_on g c.loop-body.state c.do_body.new.state c.as_slice.result.now c.loop-body.body-iterator.rest.items left c.args.bodies.items c.loop-body.at c.after_record-at.result
    c.loop-body.invariant (c.in-Some.ensures.steps.0 ∙ ap (λ (b : List ℕ). b ∷ left) (sym c.as_slice.ensures.value)) c.in-Ok.ensures.ok
    (subst (λ (b : List ℕ). c.after_record-at.result ≡ min (c.loop-body.at + (5 + length b)) (2 ^ 64 - 1)) again c.after_record-at.ensures)

pub loop-body-init : goal.loop-body-init
loop-body-init c =
    let g : Geometry = record { k = c.args.g.k; unit = c.args.g.unit } in
    let all : c.into_iter-body-iterator.result.rest.items ≡ c.args.bodies.items = search rules in
    subst (λ (l : List (List ℕ)). IsReplaying g c.fresh-state.result c.into_iter-body-iterator.result.rest.items l 24) all
    (none_done g c.fresh-state.result c.into_iter-body-iterator.result.rest.items 24 c.fresh-state.ensures refl)

pub returns-in-Err-Misfit-clause-bad : goal.returns-in-Err-Misfit-clause-bad
returns-in-Err-Misfit-clause-bad c at e =
    let g : Geometry = record { k = c.args.g.k; unit = c.args.g.unit } in
    let left = c.next.new.self.rest.items in
    let same : c.loop-body.at ≡ at = cc in
    subst (λ x. IsBadAmong g c.args.bodies.items x) same
    (bad_among g c.loop-body.state c.as_slice.result.now c.loop-body.body-iterator.rest.items left c.args.bodies.items c.loop-body.at
    c.loop-body.invariant (c.in-Some.ensures.steps.0 ∙ ap (λ (b : List ℕ). b ∷ left) (sym c.as_slice.ensures.value)) (c.in-Err-Misfit.ensures.bad (ap Err c.in-Err-Misfit.field-0-is)))

pub returns-clause-ok : goal.returns-clause-ok
returns-clause-ok c =
    let g : Geometry = record { k = c.args.g.k; unit = c.args.g.unit } in
    let none : length c.loop-body.body-iterator.rest.items ≡ 0 = search rules in
    all_done g c.loop-body.state c.loop-body.body-iterator.rest.items c.args.bodies.items c.loop-body.at c.loop-body.invariant none
