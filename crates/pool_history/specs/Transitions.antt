-- The steps of a pool: what each does to what stands on its devices, and what to its history. Source: this project.
-- Each writes one record of one slot, or nothing. A further kind of step is a constructor of `Transition`.
use Rattle.std.specs.Prelude.{◌≡◌, ◌≢◌, ◌⊎◌, ◌<◌, ◌≤◌, ◌+◌, ◌^◌, ℕ, true, cond, List, [], ◌∷◌, ◌++◌, map, Some, None}
use Rattle.std.specs.List.{AllByRecursion}
use Rattle.ec_model.specs.Codes.{HasPosition}
use Rattle.ec_model.specs.Versions.{Version, is_same}
use Rattle.ec_positions.specs.Refusals.{refusal_of}
use Rattle.auth_log.specs.Choice.{WentAlive}
use Rattle.map_model.specs.States.{MapImage, fits, image_after}
use Rattle.map_model.specs.Steps.{MapStep, Begin, Alive, Mark}
use Rattle.shard_model.specs.Replays.{Replay, head, state_of, replay_after, replay_from}
use Rattle.shard_model.specs.States as shards
use Rattle.shard_model.specs.Steps.{Entry, Step, Back, Firm, Trim, Started, Reset, Log, Control, Recover}
use Rattle.pool_history.specs.Histories.{PoolChange, History, IsMade, IsOnPath, Follows, IsOneOf, objects_of, active_epoch, with_change, with_activated, with_committed}
use Rattle.pool_history.specs.Images.{StoredPool, IsStoredPool, HasShard, IsLastAlive}
use Rattle.pool_history.specs.Choices.{Chooses}
use Rattle.pool_history.specs.Layouts.{Layout, geometry_of, shard_at, position_entry}

-- the map takes a step that fits, and no shard changes
pub record MapTakes (step : MapStep) (image later : StoredPool) : Type 0 where
  pub fit : fits image.map.n image.map.state step ≡ true
  pub map : later.map ≡ image_after image.map step
  pub shards : (p : ℕ) → later.shards p ≡ image.shards p

-- a slot's shard takes steps that fit, and nothing else changes
pub record ShardTakes (layout : Layout) (p : ℕ) (s : Replay) (steps : List Step) (image later : StoredPool) : Type 0 where
  pub before : HasShard image p s
  pub after : Replay
  pub done : replay_from (geometry_of layout) s steps ≡ Some after
  pub now : later.shards p ≡ Some after
  pub elsewhere : (q : ℕ) → q ≢ p → later.shards q ≡ image.shards q
  pub map : later.map ≡ image.map

-- how a shard starts an epoch: it rolls back to the base if its head is another version
abbrev pub starting_steps : Version → Version → ℕ → List Step
starting_steps head base epoch = cond (is_same head base) [] (Control (Back base) ∷ []) ++ Control (Started epoch) ∷ []

-- no step, or one
pub data Perhaps (step : Version → Step) : List Step → Type 0 where
  Without : Perhaps step []
  With : (v : Version) → Perhaps step (step v ∷ [])

-- an entry is what position p gets of a change of this epoch
pub record IsPositionEntry (layout : Layout) (history : History) (epoch p : ℕ) (entry : Entry) : Type 0 where
  pub change : PoolChange
  pub made : IsMade history.changes change
  pub dated : change.version.epoch ≡ epoch
  pub is : position_entry layout p history.changes change ≡ entry

-- the committed version may become firm, then the log may be trimmed, and then come entries
pub record IsBatch (layout : Layout) (history : History) (epoch p : ℕ) (steps : List Step) : Type 0 where
  pub firm : List Step
  pub trim : List Step
  pub entries : List Entry
  pub is_firm : (firm ≡ []) ⊎ (firm ≡ Control (Firm history.committed) ∷ [])
  pub is_trim : Perhaps (λ v. Control (Trim v)) trim
  pub are_entries : AllByRecursion (IsPositionEntry layout history epoch p) entries
  pub steps_are : steps ≡ firm ++ (trim ++ map Log entries)

-- each slot of a mask has a shard that started an epoch or a later one
abbrev pub AllHaveStarted : StoredPool → ℕ → ℕ → Type 0
AllHaveStarted image joined epoch = (p : ℕ) → HasPosition joined p → (s : Replay) × (HasShard image p s × (epoch ≤ s.les))

-- a version ends what an epoch made: it follows the base, and each version of the epoch is on its path
pub record IsEnd (history : History) (epoch : ℕ) (base v : Version) : Type 0 where
  pub follows : Follows history.changes epoch base v
  pub last : (change : PoolChange) → IsMade history.changes change → change.version.epoch ≡ epoch → IsOnPath history.changes change.version v

-- the next change of an epoch: it is made on the end of what the epoch made, fits its places in bytes, and is not refused there
pub record IsNextChange (history : History) (epoch : ℕ) (base : Version) (change : PoolChange) : Type 0 where
  pub end : IsEnd history epoch base change.prior
  pub dated : change.version.epoch ≡ epoch
  pub next : change.version.seq ≡ change.prior.seq + 1
  pub short_epoch : change.version.epoch < 2 ^ 32
  pub short_seq : change.version.seq < 2 ^ 64
  pub accepted : refusal_of (objects_of history.changes change.prior) change.update ≡ None

-- a version may be committed: it is of the active epoch and after the committed one, and each shard that started this epoch has it
pub record MayBeCommitted (image : StoredPool) (history : History) (v : Version) : Type 0 where
  pub change : PoolChange
  pub made : IsMade history.changes change
  pub is : change.version ≡ v
  pub dated : v.epoch ≡ active_epoch history
  pub later : IsOnPath history.changes history.committed v
  pub had : (p : ℕ) (s : Replay) → HasShard image p s → active_epoch history ≤ s.les → IsOnPath history.changes v (head s)

-- a slot has no shard any more, or one that is being filled, and nothing else changes
pub record SlotIsFree (p : ℕ) (image later : StoredPool) : Type 0 where
  pub free : (s : Replay) → later.shards p ≡ Some s → s.partial ≡ true
  pub elsewhere : (q : ℕ) → q ≢ p → later.shards q ≡ image.shards q
  pub map : later.map ≡ image.map

-- a shard that is being filled has its position of the committed version's objects, and becomes whole at this version
pub record ShardIsFilled (layout : Layout) (history : History) (epoch p : ℕ) (image later : StoredPool) : Type 0 where
  pub shard : Replay
  pub there : image.shards p ≡ Some shard
  pub fit : shards.fits (geometry_of layout) (state_of (geometry_of layout) shard) (Recover (Reset history.committed epoch)) ≡ true
  pub objects : (state_of (geometry_of layout) shard).objects ≡ shard_at layout p (objects_of history.changes history.committed)
  pub now : later.shards p ≡ Some (replay_after (geometry_of layout) shard (Recover (Reset history.committed epoch)))
  pub elsewhere : (q : ℕ) → q ≢ p → later.shards q ≡ image.shards q
  pub map : later.map ≡ image.map

-- the map with another format, or with another clean epoch
abbrev pub with_format : ℕ → MapImage → MapImage
with_format format m = record { n = m.n; state = record m.state { format = format } }

abbrev pub with_clean : ℕ → MapImage → MapImage
with_clean epoch m = record { n = m.n; state = record m.state { clean = epoch } }

-- one step of a pool
pub data Transition (layout : Layout) (image : StoredPool) (history : History) : StoredPool → History → Type 0 where
  -- an interval begins
  IntervalBegins : (later : StoredPool) (epoch up : ℕ) → MapTakes (Begin epoch up) image later → Transition layout image history later history
  -- it goes alive with what sufficient slots choose
  IntervalIsAlive : (later : StoredPool) (epoch up joined : ℕ) (base : Version) → MapTakes (Alive epoch joined base) image later
      → Chooses layout image up joined base → Transition layout image history later history
  -- a slot that joined the last one that went alive starts it
  ShardStarts : (later : StoredPool) (p : ℕ) (s : Replay) (epoch joined : ℕ) (base : Version) → IsLastAlive image.map.state.intervals epoch joined base
      → HasPosition joined p → ShardTakes layout p s (starting_steps (head s) base epoch) image later
      → Transition layout image history later history
  -- all of them have: its activation is complete
  ActivationIsComplete : (epoch joined : ℕ) (base : Version) → IsLastAlive image.map.state.intervals epoch joined base
      → (IsOneOf history.activated epoch → ⊥) → AllHaveStarted image joined epoch
      → Transition layout image history image (with_activated epoch base history)
  -- a change is accepted
  ChangeIsAccepted : (joined : ℕ) (base : Version) (change : PoolChange) → IsLastAlive image.map.state.intervals (active_epoch history) joined base
      → IsNextChange history (active_epoch history) base change → Transition layout image history image (with_change change history)
  -- a slot takes changes
  ShardTakesChanges : (later : StoredPool) (p : ℕ) (s : Replay) (joined : ℕ) (base : Version) (steps : List Step)
      → IsLastAlive image.map.state.intervals (active_epoch history) joined base → s.les ≡ active_epoch history
      → IsBatch layout history (active_epoch history) p steps → ShardTakes layout p s steps image later
      → Transition layout image history later history
  -- what all of them have taken is committed
  ChangesAreCommitted : (joined : ℕ) (base v : Version) → IsLastAlive image.map.state.intervals (active_epoch history) joined base
      → MayBeCommitted image history v → Transition layout image history image (with_committed v history)
  -- an operator marks a slot, or takes the mark away
  SlotIsMarked : (later : StoredPool) (slot down : ℕ) → MapTakes (Mark slot down) image later → Transition layout image history later history
  -- a slot's shard is lost, is begun anew, or is filled further
  SlotIsLost : (later : StoredPool) (p : ℕ) → SlotIsFree p image later → Transition layout image history later history
  -- it has been filled
  ShardIsRecovered : (later : StoredPool) (p joined : ℕ) (base : Version) → IsLastAlive image.map.state.intervals (active_epoch history) joined base
      → ShardIsFilled layout history (active_epoch history) p image later → Transition layout image history later history
  -- a slot's head becomes firm, as it is committed
  HeadIsFirm : (later : StoredPool) (p : ℕ) (s : Replay) → s.les ≡ active_epoch history → head s ≡ history.committed
      → ShardTakes layout p s (Control (Firm (head s)) ∷ []) image later → Transition layout image history later history
  -- the map's format is raised
  FormatIsRaised : (later : StoredPool) (format : ℕ) → later.map ≡ with_format format image.map → ((p : ℕ) → later.shards p ≡ image.shards p)
      → Transition layout image history later history
  -- an interval that all positions joined lets older ones go
  IntervalIsClean : (later : StoredPool) (epoch joined : ℕ) (base : Version) → WentAlive image.map.state.intervals epoch joined base → IsOneOf history.activated epoch
      → ((p : ℕ) → p < layout.code.n → HasPosition joined p) → later.map ≡ with_clean epoch image.map
      → ((p : ℕ) → later.shards p ≡ image.shards p) → Transition layout image history later history

-- some steps, one after another, each from an image that fitting steps made
pub data Reaches (layout : Layout) (image : StoredPool) (history : History) : StoredPool → History → Type 0 where
  Unmoved : Reaches layout image history image history
  Moved : (mid later : StoredPool) (between after : History) → Reaches layout image history mid between → IsStoredPool layout mid
      → Transition layout mid between later after → Reaches layout image history later after
