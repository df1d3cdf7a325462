use Rattle.map_model.proofs.SoundLemmas.{joined_below, kept_below}
use Rattle.pool_map.specs.Maps.{format_in}
use Rattle.pool_map.proofs.SoundLemmas.{map_sound}
use Rattle.pool_map.proofs.laws.maps_are_sound.Goals as goal

pub returns-clause-sound : goal.returns-clause-sound
returns-clause-sound c = λ text m is. map_sound is.k is.unit (format_in text) is.bodies m is.gives

pub returns-clause-joined : goal.returns-clause-joined
returns-clause-joined c = λ text m is.
    let sound = map_sound is.k is.unit (format_in text) is.bodies m is.gives in
    (joined_below m.n m.state sound, kept_below m.n m.state sound)
