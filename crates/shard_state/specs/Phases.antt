-- What the code's phases stand for. Source: this project.
use Rattle.shard_model.specs.States as states
use Rattle.shard_state.specs.declared.phase.Phase.TheVariants as phases
use Rattle.shard_state.specs.declared.phase.Phase.{Phase}

abbrev pub phase_of : Phase → states.Phase
phase_of phases.Unbegun = states.Unbegun
phase_of phases.Based = states.Based
phase_of phases.Running = states.Running
