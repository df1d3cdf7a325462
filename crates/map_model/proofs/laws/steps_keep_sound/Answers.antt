use Rattle.map_model.proofs.SoundLemmas.{new_sound, step_sound, replay_sound}
use Rattle.map_model.proofs.laws.steps_keep_sound.Goals as goal

pub returns-clause-new : goal.returns-clause-new
returns-clause-new c = new_sound

pub returns-clause-one : goal.returns-clause-one
returns-clause-one c = step_sound

pub returns-clause-all : goal.returns-clause-all
returns-clause-all c = replay_sound
