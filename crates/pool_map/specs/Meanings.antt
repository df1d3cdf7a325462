-- What the code's steps and states stand for. Source: this project.
use Rattle.ec_code.specs.declared.profile.Profile.{Profile}
use Rattle.map_model.specs.States.{MapState}
use Rattle.map_model.specs.Steps as steps
use Rattle.pool_map.specs.Maps.{PoolImage, map_format}
use Rattle.pool_map.specs.declared.step.Step.TheVariants as plain
use Rattle.pool_map.specs.declared.step.Step.{Step}
use Rattle.pool_map.specs.declared.state.State.{State}

abbrev pub step_of : Step → steps.MapStep
step_of (plain.Profile lines) = steps.Profile lines
step_of (plain.Begin epoch up) = steps.Begin epoch up.0
step_of (plain.Alive epoch joined base) = steps.Alive epoch joined.0 base
step_of (plain.Mark slot down) = steps.Mark slot down

-- no step gives another format or clean epoch so far
abbrev pub state_of : State → MapState
state_of state = record { format = map_format; clean = 1; intervals = state.intervals; marks = state.marked.0 }

-- the map of a profile and a state
abbrev pub image_of : Profile → State → PoolImage
image_of profile state = record { profile = profile; n = state.n; state = state_of state }
