-- What the code's states stand for. Source: this project.
use Rattle.auth_log.specs.States as states
use Rattle.auth_log.specs.declared.state.State.TheVariants as plain
use Rattle.auth_log.specs.declared.state.State.{State}

abbrev pub state_of : State → states.State
state_of (plain.Down epoch up) = states.Down epoch up.0
state_of (plain.Short joined min) = states.Short joined.0 min
state_of (plain.Active joined) = states.Active joined.0
