-- The view and the invariant of a shard's state. Source: this project.
use Rattle.std.specs.Prelude.{map}
use Rattle.shard_model.specs.Objects.{Geometry}
use Rattle.shard_model.specs.Shards.{Shard}
use Rattle.shard_state.specs.Phases.{phase_of}
use Rattle.shard_state.specs.Places.{inside}
use Rattle.shard_state.specs.Sound.{IsKept, IsOrdered, logged_in}
use Rattle.shard_state.specs.Records.{recorded}
use Rattle.shard_state.specs.declared.state.ShardState.TheInside.{Inside}

abbrev pub geometry_of : Inside → Geometry
geometry_of s = record { k = s.geometry.k; unit = s.geometry.unit }

-- what lies in the places, and the log without its spares
abbrev pub shard_of : Inside → Shard
shard_of s = record {
  geometry = geometry_of s;
  state = record { phase = phase_of s.phase; objects = inside s.places; log = map logged_in (map recorded s.log.items); tail = s.tail; firm = s.firm; head = s.head; les = s.les; partial = s.partial };
}

pub record IsKeptIn (s : Inside) : Type 0 where
  pub kept : IsKept (geometry_of s) s.places (inside s.places) (map recorded s.log.items)
  pub ordered : IsOrdered (shard_of s).state
