use Rattle.std.proofs.Common.{◌&&◌, sym, ap, ◌∙◌}
use Rattle.std.specs.FinMap as map
use Rattle.shard_model.specs.Changes.{fits_change}
use Rattle.shard_model.specs.States.{fits}
use Rattle.shard_model.specs.Shards.{Shard}
use Rattle.shard_steps.specs.StepMeanings.{change_in, step_of}
use Rattle.shard_state.proofs.state.ShardState.fits.Goals as goal

pub returns-then-follows : goal.returns-then-follows
returns-then-follows c =
    let s = c.args.self.now in
    let h = c.in-Some.head in
    let change = change_in (step_of c.args.step.now) in
    c.fits_entry.ensures ∙ (λ i. fits_change (ap (λ (t : Shard). t.geometry) c.self.view_is i) change (c.object.ensures i))
    ∙ ap (λ b. b && fits_change s.geometry change (map.get s.state.objects h.name.now)) (sym (sym (c.follows.ensures h.name.now change) ∙ c.if-follows.true))
    ∙ ap (fits s.geometry s.state) (sym c.in-Some.ensures.entry)

pub returns-else-follows : goal.returns-else-follows
returns-else-follows c =
    let s = c.args.self.now in
    let h = c.in-Some.head in
    let change = change_in (step_of c.args.step.now) in
    c.if-follows.false
    ∙ ap (λ b. b && fits_change s.geometry change (map.get s.state.objects h.name.now)) (sym (sym (c.follows.ensures h.name.now change) ∙ c.if-follows.false))
    ∙ ap (fits s.geometry s.state) (sym c.in-Some.ensures.entry)
