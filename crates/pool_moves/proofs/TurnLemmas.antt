-- A turn: an interval begins with the slots that are up.
use Rattle.std.proofs.Common.{◌≡◌, ◌≤◌, ◌<◌, ◌+◌, ◌^◌, ℕ, Some, sym, ap, ◌∙◌, arith}
use Rattle.ec_model.specs.Versions.{Version}
use Rattle.ec_words.specs.Intervals.{Interval}
use Rattle.map_model.specs.States.{begun, epoch_of, last_epoch, last_of}
use Rattle.map_model.specs.Steps.{Begin, Alive}
use Rattle.map_model.proofs.LastLemmas.{last_alive, last_pushed}
use Rattle.pool_map.specs.Maps.{PoolImage}
use Rattle.pool_map.specs.Pool.{map_after}
use Rattle.shard_store.specs.Shelved.{Shelved}
use Rattle.shard_store.specs.Shelves.{store_at}
use Rattle.pool_moves.specs.Choosing.{AreUp}
use Rattle.pool_moves.specs.Contents.{Layout}
use Rattle.pool_moves.specs.Ready.{AreOwn}
use Rattle.pool_moves.proofs.ChooseLemmas.{the_one}
use Rattle.pool_moves.proofs.MaskLemmas.{positions_below}

-- the last interval after one has begun
has_last : (m later : PoolImage) (up : ℕ) → later ≡ map_after m (Begin (last_epoch m.state.intervals + 1) up)
    → last_of later.state.intervals ≡ Some (begun (last_epoch m.state.intervals + 1) up)
has_last m later up is = ap (λ (x : PoolImage). last_of x.state.intervals) is ∙ last_pushed m.state.intervals (begun (last_epoch m.state.intervals + 1) up)

pub epoch_is : (m later : PoolImage) (up : ℕ) → later ≡ map_after m (Begin (last_epoch m.state.intervals + 1) up)
    → last_epoch later.state.intervals ≡ last_epoch m.state.intervals + 1
epoch_is m later up is = ap epoch_of (has_last m later up is)

pub has_begun_last : (m later : PoolImage) (up : ℕ) → later ≡ map_after m (Begin (last_epoch m.state.intervals + 1) up)
    → last_of later.state.intervals ≡ Some (begun (last_epoch later.state.intervals) up)
has_begun_last m later up is = has_last m later up is ∙ ap (λ e. Some (begun e up)) (sym (epoch_is m later up is))

-- the slots that are up lie below n
pub up_is_below : (l : Layout) (shelf : Shelved) (up : ℕ) → AreOwn l shelf → AreUp shelf up → up < 2 ^ l.n
up_is_below l shelf up own are = positions_below up l.n (λ p member.
    let store = the_one (store_at shelf p) ((are p).0 member).1 in
    (own.each p store.0 store.1).below)

-- an interval that goes alive is still of its epoch
pub alive_epoch : (m later : PoolImage) (epoch joined : ℕ) (base : Version) (last : Interval) → last_of m.state.intervals ≡ Some last
    → later ≡ map_after m (Alive epoch joined base) → last_epoch later.state.intervals ≡ last_epoch m.state.intervals
alive_epoch m later epoch joined base last was is =
    ap (λ (x : PoolImage). last_epoch x.state.intervals) is ∙ ap epoch_of (last_alive joined base m.state.intervals last was) ∙ sym (ap epoch_of was)

-- an interval that began after a map is later than those of the map
pub later_on : (m mid last : PoolImage) → last_epoch mid.state.intervals ≡ last_epoch m.state.intervals + 1 → last_epoch last.state.intervals ≡ last_epoch mid.state.intervals
    → last_epoch m.state.intervals ≤ last_epoch last.state.intervals
later_on m mid last next same = omega (arith, next, same)
