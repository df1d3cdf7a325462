-- When what stands on the devices agrees with a history of the pool. Source: this project; last epoch started, the least head
-- and rolling back of entries after Ceph developer guide, "Erasure Coded pool" and "Peering".
-- In each comment "shard" means one that is not being filled. Nothing is said of one that is, or of a slot without a shard.
use Rattle.std.specs.Prelude.{◌≡◌, ◌<◌, ◌≤◌, ℕ, true, List, [], ◌∷◌}
use Rattle.ec_model.specs.Codes.{HasPosition}
use Rattle.ec_model.specs.Versions.{Version, is_up_to}
use Rattle.ec_words.specs.Intervals.{Interval}
use Rattle.ec_positions.specs.Updates.{name_of}
use Rattle.auth_log.specs.Choice.{DecidesAll, WentAlive}
use Rattle.shard_model.specs.Replays.{Replay, head, log, objects_at, replayed}
use Rattle.shard_model.specs.States.{Logged}
use Rattle.pool_history.specs.Histories.{PoolChange, History, IsHistory, IsMade, IsInTree, IsOnPath, Follows, IsOneOf, objects_of, active_epoch}
use Rattle.pool_history.specs.Images.{StoredPool, HasShard, Holds}
use Rattle.pool_history.specs.Layouts.{Layout, geometry_of, shard_at}

-- a log entry is that of a change: it has its version, its prior, and the object's name
pub record IsEntryOf (changes : List PoolChange) (n : Logged) : Type 0 where
  pub change : PoolChange
  pub made : IsMade changes change
  pub version : change.version ≡ n.version
  pub prior : change.prior ≡ n.prior
  pub named : name_of change.update ≡ n.name

-- a log goes from one version to another, change by change
abbrev pub IsLogBetween : List PoolChange → Version → List Logged → Version → Type 0
IsLogBetween changes from [] to = from ≡ to
IsLogBetween changes from (n ∷ ns) to = (n.prior ≡ from) × (IsEntryOf changes n × IsLogBetween changes n.version ns to)

-- ---- the parts that speak of one shard, at position p

-- 1. the head is in the tree, the log is the path from the tail to it, and the objects are those of the head
pub record LogIsPath (layout : Layout) (history : History) (p : ℕ) (s : Replay) : Type 0 where
  pub known : IsInTree history.changes (head s)
  pub path : IsLogBetween history.changes s.tail (log (geometry_of layout) s) (head s)
  pub objects : replayed (geometry_of layout) s.base s.entries ≡ shard_at layout p (objects_of history.changes (head s))

-- 2. at each version that the shard can be rolled back to, its objects are those of the tree
pub record PastIsKept (layout : Layout) (history : History) (p : ℕ) (s : Replay) : Type 0 where
  pub each : (v : Version) → Holds layout s v → objects_at (geometry_of layout) s v ≡ shard_at layout p (objects_of history.changes v)

-- 3. the last epoch started went alive, and the head follows its base by versions of that epoch
pub record IsOfInterval (intervals : List Interval) (history : History) (s : Replay) : Type 0 where
  pub joined : ℕ
  pub base : Version
  pub alive : WentAlive intervals s.les joined base
  pub follows : Follows history.changes s.les base (head s)

-- 5. a shard that joined an interval and has not started it holds its base
pub record BasesAreHeld (layout : Layout) (intervals : List Interval) (p : ℕ) (s : Replay) : Type 0 where
  pub each : (epoch joined : ℕ) (base : Version) → WentAlive intervals epoch joined base → HasPosition joined p → s.les < epoch → Holds layout s base

-- 6. it started each interval that it joined and that went active
pub record ActiveWasStarted (intervals : List Interval) (history : History) (p : ℕ) (s : Replay) : Type 0 where
  pub each : (epoch joined : ℕ) (base : Version) → IsOneOf history.activated epoch → WentAlive intervals epoch joined base → HasPosition joined p
      → epoch ≤ s.les

-- 7. if it started the active epoch, the committed version is on its head's path
pub record CommittedIsOnHead (history : History) (s : Replay) : Type 0 where
  pub on_head : active_epoch history ≤ s.les → IsOnPath history.changes history.committed (head s)

-- 8. the tail and the firm version are on the head's path, in this order, and the firm one is on the committed version's
pub record FirmIsCommitted (history : History) (s : Replay) : Type 0 where
  pub ordered : is_up_to s.tail s.firm ≡ true
  pub tail_on_head : IsOnPath history.changes s.tail (head s)
  pub firm_on_head : IsOnPath history.changes s.firm (head s)
  pub committed : IsOnPath history.changes s.firm history.committed

-- ---- the parts that speak of the map

-- 4. the base of an interval that went alive is in the tree, and its joined set decides all
pub record IsWellBegun (layout : Layout) (history : History) (joined : ℕ) (base : Version) : Type 0 where
  pub based : IsInTree history.changes base
  pub decides : DecidesAll layout.code joined

-- 4. each change was made in an interval that went alive and active, and its prior follows the base of that interval
pub record IsMadeActive (intervals : List Interval) (history : History) (change : PoolChange) : Type 0 where
  pub joined : ℕ
  pub base : Version
  pub alive : WentAlive intervals change.version.epoch joined base
  pub active : IsOneOf history.activated change.version.epoch
  pub follows : Follows history.changes change.version.epoch base change.prior

-- 6. an interval of this epoch went alive
pub record WasAlive (intervals : List Interval) (epoch : ℕ) : Type 0 where
  pub joined : ℕ
  pub base : Version
  pub alive : WentAlive intervals epoch joined base

-- 7. the committed version follows the active epoch's base, and is on the path of each later base
pub record CommittedIsOnBases (intervals : List Interval) (history : History) : Type 0 where
  pub joined : ℕ
  pub base : Version
  pub alive : WentAlive intervals (active_epoch history) joined base
  pub follows : Follows history.changes (active_epoch history) base history.committed
  pub later : (epoch others : ℕ) (its : Version) → WentAlive intervals epoch others its → active_epoch history < epoch
      → IsOnPath history.changes history.committed its

-- 9. the clean epoch went active, and all positions joined it
pub record IsCleanJoined (layout : Layout) (intervals : List Interval) (history : History) (clean : ℕ) : Type 0 where
  pub active : IsOneOf history.activated clean
  pub joined : ℕ
  pub base : Version
  pub alive : WentAlive intervals clean joined base
  pub all : (p : ℕ) → p < layout.code.n → HasPosition joined p

-- ---- all of them

-- an image is consistent with a history. Part 9 also says that each shard started the clean epoch or a later one
pub record Consistent (layout : Layout) (image : StoredPool) (history : History) : Type 0 where
  pub logs_are_paths : (p : ℕ) (s : Replay) → HasShard image p s → LogIsPath layout history p s
  pub past_is_kept : (p : ℕ) (s : Replay) → HasShard image p s → PastIsKept layout history p s
  pub heads_follow_bases : (p : ℕ) (s : Replay) → HasShard image p s → IsOfInterval image.map.state.intervals history s
  pub well_begun : (epoch joined : ℕ) (base : Version) → WentAlive image.map.state.intervals epoch joined base → IsWellBegun layout history joined base
  pub made_active : (change : PoolChange) → IsMade history.changes change → IsMadeActive image.map.state.intervals history change
  pub bases_are_held : (p : ℕ) (s : Replay) → HasShard image p s → BasesAreHeld layout image.map.state.intervals p s
  pub active_are_alive : (epoch : ℕ) → IsOneOf history.activated epoch → WasAlive image.map.state.intervals epoch
  pub active_were_started : (p : ℕ) (s : Replay) → HasShard image p s → ActiveWasStarted image.map.state.intervals history p s
  pub committed_on_heads : (p : ℕ) (s : Replay) → HasShard image p s → CommittedIsOnHead history s
  pub committed_on_bases : CommittedIsOnBases image.map.state.intervals history
  pub firm_is_committed : (p : ℕ) (s : Replay) → HasShard image p s → FirmIsCommitted history s
  pub clean_is_joined : IsCleanJoined layout image.map.state.intervals history image.map.state.clean
  pub clean_was_started : (p : ℕ) (s : Replay) → HasShard image p s → image.map.state.clean ≤ s.les

-- an image agrees with a history
pub record Agrees (layout : Layout) (image : StoredPool) (history : History) : Type 0 where
  pub is_history : IsHistory history
  pub consistent : Consistent layout image history
