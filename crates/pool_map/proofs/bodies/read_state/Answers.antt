use Rattle.std.proofs.Common.{ap, ◌∙◌, Err}
use Rattle.map_model.specs.States.{new_state}
use Rattle.pool_map.specs.Maps.{map_format}
use Rattle.pool_map.specs.Meanings.{state_of}
use Rattle.pool_map.specs.declared.fault.MapFault.TheVariants.{BadMap}
use Rattle.pool_map.proofs.FaultLemmas.{err_by}
use Rattle.pool_map.proofs.StateLemmas.{state_bad}
use Rattle.pool_map.proofs.bodies.read_state.Goals as goal

pub returns-in_err-add_bodies-clause-bad : goal.returns-in_err-add_bodies-clause-bad
returns-in_err-add_bodies-clause-bad c = λ e.
    state_bad c.args.n c.new-state.result.n c.add_body.new.self.n (new_state map_format) (state_of c.new-state.result) (state_of c.add_body.new.self) c.args.rest.now c.args.more.now
    c.new-state.ensures.n (c.add_body.ensures.n ∙ c.new-state.ensures.n) c.new-state.ensures.new c.in_ok-add_body.ensures.only
    (c.in_err-add_bodies.ensures.bad (ap Err (err_by c.from_residual-in_err-add_bodies.result c.in_err-add_bodies.field-0.0 BadMap c.from_residual-in_err-add_bodies.ensures.1 e)))
