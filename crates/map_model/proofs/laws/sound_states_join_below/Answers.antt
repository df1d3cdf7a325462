use Rattle.map_model.proofs.SoundLemmas.{joined_below, kept_below}
use Rattle.map_model.proofs.laws.sound_states_join_below.Goals as goal

pub returns : goal.returns
returns c = λ n state sound. (joined_below n state sound, kept_below n state sound)
