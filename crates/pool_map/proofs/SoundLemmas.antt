-- What the bodies of a text come to is sound.
use Rattle.std.proofs.Common.{ℕ, List, [], ◌∷◌, subst}
use Rattle.map_model.specs.Sound.{IsSound}
use Rattle.map_model.specs.States.{MapState, new_state}
use Rattle.map_model.proofs.SoundLemmas.{new_sound, replay_sound}
use Rattle.pool_map.specs.Maps.{PoolImage, LeadAll, IsMapOf}

bodies_sound : (n : ℕ) (bodies : List (List ℕ)) (state later : MapState) → IsSound n state → LeadAll n state bodies later → IsSound n later
bodies_sound n [] state later sound same = subst (λ (x : MapState). IsSound n x) same sound
bodies_sound n (body ∷ bodies) state later sound lead = bodies_sound n bodies lead.0 later (replay_sound n lead.1.0.steps state lead.0 sound lead.1.0.done) lead.1.1

-- a map is sound
pub map_sound : (k unit format : ℕ) (bodies : List (List ℕ)) (m : PoolImage) → IsMapOf k unit format bodies m → IsSound m.n m.state
map_sound k unit format bodies m gives = bodies_sound m.n (gives.rest ∷ gives.more) (new_state format) m.state (new_sound m.n format) gives.lead
