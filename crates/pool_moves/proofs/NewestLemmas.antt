-- The interval that goes alive is the last one that did.
use Rattle.std.proofs.Common.{◌≡◌, ◌<◌, ℕ, Some, None, ap, ◌∙◌}
use Rattle.ec_model.specs.Versions.{Version}
use Rattle.ec_words.specs.Intervals.{Interval}
use Rattle.auth_log.specs.Choice.{WentAlive}
use Rattle.auth_log.proofs.CallerLemmas.{alive_among}
use Rattle.map_model.specs.Laws.{GoesAlive}
use Rattle.map_model.specs.Sound.{IsSound}
use Rattle.map_model.specs.States.{MapState, state_after, last_of, kept}
use Rattle.map_model.specs.Steps.{Alive}
use Rattle.map_model.proofs.SoundLemmas.{older_than_last}
use Rattle.pool_history.specs.Images.{IsLastAlive}

pub is_last_alive : (state : MapState) (epoch joined : ℕ) (base : Version) → GoesAlive state epoch joined base
    → IsLastAlive (state_after state (Alive epoch joined base)).intervals epoch joined base
is_last_alive state epoch joined base g = record {
  alive = record {
    place = g.alive.place;
    interval = g.alive.interval;
    there = g.alive.there;
    dated = g.alive.dated;
    alive = g.alive.alive ∙ ap (λ (b : Version). Some (joined, b)) g.based;
  };
  last = λ other others its w. g.newest other others (record { place = w.place; interval = w.interval; base = its; there = w.there; dated = w.dated; alive = w.alive });
}

-- a kept interval that went alive is older than the last one, if that one did not
pub older_kept : (n : ℕ) (state : MapState) (last : Interval) → IsSound n state → last_of state.intervals ≡ Some last → last.alive ≡ None
    → (epoch joined : ℕ) (base : Version) → WentAlive (kept state) epoch joined base → epoch < last.epoch
older_kept n state last sound is unalive epoch joined base w =
    let a = ((alive_among state.intervals state.clean epoch joined base).0 w).0 in
    older_than_last n state last sound is unalive epoch joined (record { place = a.place; interval = a.interval; base = base; there = a.there; dated = a.dated; alive = a.alive })
