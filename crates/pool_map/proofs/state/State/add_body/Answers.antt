use Rattle.std.proofs.Common.{rules, ap, ◌∙◌, Err}
use Rattle.pool_map.specs.Meanings.{step_of, state_of}
use Rattle.pool_map.specs.declared.fault.MapFault.TheVariants.{BadMap}
use Rattle.pool_map.proofs.FaultLemmas.{err_by}
use Rattle.pool_map.proofs.StateLemmas.{told_on, told_end, told_only, told_bad, told_misfit}
use Rattle.pool_map.proofs.state.State.add_body.Goals as goal

pub returns-in_err-step-clause-bad : goal.returns-in_err-step-clause-bad
returns-in_err-step-clause-bad c = λ e.
    told_bad c.args.self.now.n (state_of c.args.self.now) c.args.body.now (state_of c.loop-reader.self) c.loop-reader.reader c.loop-reader.invariant.1
    (search rules) (c.in_err-step.ensures.no_step (ap Err (err_by c.from_residual.result c.in_err-step.field-0.0 BadMap c.from_residual.ensures.1 e)))

pub returns-in_err-apply-clause-bad : goal.returns-in_err-apply-clause-bad
returns-in_err-apply-clause-bad c = λ e.
    told_misfit c.args.self.now.n (state_of c.args.self.now) c.args.body.now (state_of c.loop-reader.self) c.loop-reader.reader c.step.new.self (step_of c.in_ok-step.step)
    c.loop-reader.invariant.1 c.in_ok-step.ensures.value
    (rw (← c.loop-reader.invariant.0) (c.in_err-apply.ensures.bad (ap Err (err_by c.from_residual-in_err-apply.result c.in_err-apply.field-0.0 BadMap c.from_residual-in_err-apply.ensures.1 e))))

pub loop-reader-preserved : goal.loop-reader-preserved
loop-reader-preserved c = (
  c.apply.ensures.n ∙ c.loop-reader.invariant.0,
  told_on c.args.self.now.n (state_of c.args.self.now) c.args.body.now (state_of c.loop-reader.self) (state_of c.apply.new.self) c.loop-reader.reader c.step.new.self (step_of c.in_ok-step.step)
      c.loop-reader.invariant.1 c.in_ok-step.ensures.value (rw (← c.loop-reader.invariant.0) c.in_ok-apply.ensures.fit) c.in_ok-apply.ensures.ok,
)

pub returns-clause-ok : goal.returns-clause-ok
returns-clause-ok c = told_end c.args.self.now.n (state_of c.args.self.now) c.args.body.now (state_of c.loop-reader.self) c.loop-reader.reader c.loop-reader.invariant.1 (search rules)

pub returns-clause-only : goal.returns-clause-only
returns-clause-only c = told_only c.args.self.now.n (state_of c.args.self.now) c.args.body.now (state_of c.loop-reader.self) c.loop-reader.reader c.loop-reader.invariant.1 (search rules)
