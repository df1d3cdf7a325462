use Rattle.std.proofs.Common.{◌≡◌, map, ap, true}
use Rattle.shard_model.specs.States.{fits}
use Rattle.shard_steps.specs.StepMeanings.{step_of}
use Rattle.shard_store.proofs.LoadLemmas.{does_on}
use Rattle.shard_store.proofs.StoryLemmas.{true_unless}
use Rattle.shard_store.proofs.loading.do_steps.Goals as goal

pub loop-step-preserved : goal.loop-step-preserved
loop-step-preserved c =
    let s = c.loop-step.state in
    let fit : fits s.geometry s.state (step_of c.in-Some.step) ≡ true = true_unless _ (λ e. let m = c.in_ok-apply.ensures.misfit.1 e in let w = c.in_ok-apply.was in cc) in
    does_on s c.apply.new.self c.args.state.now (step_of c.in-Some.step) (map step_of c.loop-step.step-iterator.rest.items) (map step_of c.next.new.self.rest.items)
    (map step_of c.args.steps.items) c.loop-step.invariant (ap (map step_of) c.in-Some.ensures.steps.0) c.in_ok-apply.ensures.ok fit
