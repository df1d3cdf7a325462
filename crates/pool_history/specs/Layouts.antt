-- What each position holds of a pool's objects, and the entry that it gets of a change. Source: Ceph developer guide, "Erasure
-- Coded pool" (a shard holds one position's chunks of each object, with the object's size and attributes).
use Rattle.std.specs.Prelude.{ℕ, List}
use Rattle.ec_model.specs.Codes.{CodeRows}
use Rattle.ec_positions.specs.Objects.{Objects}
use Rattle.ec_positions.specs.Updates.{name_of}
use Rattle.ec_positions.specs.Positions.{shard_of, position_change}
use Rattle.shard_model.specs.Objects.{Geometry, ShardObjects}
use Rattle.shard_model.specs.Steps.{Entry}
use Rattle.pool_history.specs.Histories.{PoolChange, objects_of}

-- how a pool's objects lie on its positions: its code, and the bytes of a chunk
pub record Layout : Type 0 where
  pub code : CodeRows
  pub unit : ℕ

-- the numbers by which a shard lies
abbrev pub geometry_of : Layout → Geometry
geometry_of layout = record { k = layout.code.k; unit = layout.unit }

-- what position p holds of all objects
abbrev pub shard_at : Layout → ℕ → Objects → ShardObjects
shard_at layout p objects = shard_of layout.code layout.unit p objects

-- the entry that position p gets of a change
abbrev pub position_entry : Layout → ℕ → List PoolChange → PoolChange → Entry
position_entry layout p changes change = record {
  version = change.version;
  prior = change.prior;
  name = name_of change.update;
  change = position_change layout.code layout.unit p change.update (objects_of changes change.prior);
}
