-- Laws of images that agree with a history. Source: this project.
use Rattle.std.specs.Prelude.{◌≡◌, ◌⊎◌, ◌<◌, ◌^◌, ℕ, List, [], ◌∷◌, ◌++◌, take, Some}
use Rattle.ec_model.specs.Codes.{HasPosition}
use Rattle.ec_model.specs.Versions.{Version, zero_version}
use Rattle.ec_positions.specs.Updates.{Update}
use Rattle.auth_log.specs.Choice.{IsSufficient, WentAlive}
use Rattle.shard_model.specs.Replays.{Replay, head, replay_of}
use Rattle.shard_model.specs.States.{effect}
use Rattle.shard_model.specs.Steps.{Started, Control}
use Rattle.pool_history.specs.Histories.{PoolChange, History, IsHistory, IsTree, IsMade, IsInTree, IsOnPath, path_of, objects_of, active_epoch, first_history, Event, Growing, extended_by, updates_of, accepted_in, MayGrow}
use Rattle.pool_history.specs.Images.{StoredPool, IsStoredPool, HasShard, peers_of}
use Rattle.pool_history.specs.Consistency.{Agrees}
use Rattle.pool_history.specs.Choices.{Chooses, Represents}
use Rattle.pool_history.specs.Layouts.{Layout, geometry_of, shard_at, position_entry}
use Rattle.pool_history.specs.Transitions.{Transition, Reaches}

-- what sufficient slots show: those that joined represent the objects of a version whose path has the committed one
pub record ShowsCommitted (layout : Layout) (image : StoredPool) (history : History) (joined : ℕ) (version : Version) : Type 0 where
  pub represents : Represents layout image joined version (objects_of history.changes version)
  pub committed : IsOnPath history.changes history.committed version

abbrev pub SufficientSetsShowCommitted : Type 0
SufficientSetsShowCommitted = (layout : Layout) (image : StoredPool) (history : History) (up joined : ℕ) (version : Version)
    → IsStoredPool layout image → Agrees layout image history → Chooses layout image up joined version
    → ShowsCommitted layout image history joined version

-- the images before and after a step both agree with the history after it
pub record BothAgree (layout : Layout) (image later : StoredPool) (history : History) : Type 0 where
  pub before : Agrees layout image history
  pub after : Agrees layout later history

abbrev pub TransitionsKeepAgreement : Type 0
TransitionsKeepAgreement = (layout : Layout) (image later : StoredPool) (history after : History)
    → IsStoredPool layout image → Agrees layout image history → Transition layout image history later after
    → BothAgree layout image later after

-- every image that steps reach agrees with the history that they reach
abbrev pub ReachedImagesAgree : Type 0
ReachedImagesAgree = (layout : Layout) (image later : StoredPool) (history after : History)
    → Agrees layout image history → Reaches layout image history later after → Agrees layout later after

-- a new pool: it has one interval, which all positions joined, and each shard started that and has no entry
pub record IsFirst (layout : Layout) (image : StoredPool) : Type 0 where
  pub up : ℕ
  pub joined : ℕ
  pub intervals : image.map.state.intervals ≡ record { epoch = 1; up = up; alive = Some (joined, zero_version) } ∷ []
  pub all : (p : ℕ) → p < layout.code.n → HasPosition joined p
  pub clean : image.map.state.clean ≡ 1
  pub shards : (p : ℕ) (s : Replay) → image.shards p ≡ Some s → replay_of (geometry_of layout) (Control (Started 1) ∷ []) ≡ Some s

-- it agrees with the first history
abbrev pub NewPoolsAgree : Type 0
NewPoolsAgree = (layout : Layout) (image : StoredPool) → IsFirst layout image → Agrees layout image first_history

-- if all slots are up and have shards, they are sufficient
abbrev pub AllSlotsAreSufficient : Type 0
AllSlotsAreSufficient = (layout : Layout) (image : StoredPool) (history : History) (up : ℕ) → IsStoredPool layout image → Agrees layout image history → up < 2 ^ 16
    → ((p : ℕ) → p < layout.code.n → HasPosition up p × ((s : Replay) × HasShard image p s)) → IsSufficient layout.code (peers_of image up)

-- each shard that is up and started the active epoch has this head, and each later interval has it as its base
pub record IsLastAccepted (image : StoredPool) (history : History) (up : ℕ) (v : Version) : Type 0 where
  pub heads : (p : ℕ) (s : Replay) → HasPosition up p → HasShard image p s → s.les ≡ active_epoch history → head s ≡ v
  pub bases : (epoch joined : ℕ) (base : Version) → WentAlive image.map.state.intervals epoch joined base → active_epoch history < epoch → base ≡ v

-- sufficient slots choose it, so a later interval loses no change that was accepted
abbrev pub LastAcceptedIsChosen : Type 0
LastAcceptedIsChosen = (layout : Layout) (image : StoredPool) (history : History) (up joined : ℕ) (version v : Version) → IsStoredPool layout image
    → Agrees layout image history → Chooses layout image up joined version → IsLastAccepted image history up v → version ≡ v

-- the versions of one epoch are one chain: of any two, one is on the path of the other
abbrev pub EpochsAreChains : Type 0
EpochsAreChains = (layout : Layout) (image : StoredPool) (history : History) (one other : PoolChange) → IsStoredPool layout image → Agrees layout image history
    → IsMade history.changes one → IsMade history.changes other → one.version.epoch ≡ other.version.epoch
    → IsOnPath history.changes one.version other.version ⊎ IsOnPath history.changes other.version one.version

-- the entry that a position gets of a change leads from what it holds of the objects before to what it holds of those after
abbrev pub EntriesLeadOn : Type 0
EntriesLeadOn = (layout : Layout) (image : StoredPool) (history : History) (p : ℕ) (change : PoolChange) → IsStoredPool layout image → IsHistory history
    → IsMade history.changes change
    → effect (geometry_of layout) (shard_at layout p (objects_of history.changes change.prior)) (position_entry layout p history.changes change)
    ≡ shard_at layout p (objects_of history.changes change.version)

-- the updates on the path of a version are those of the head before, and then the first ones that were accepted
pub record IsGrown (changes more : List PoolChange) (head : Version) (accepted : List Update) (v : Version) : Type 0 where
  pub count : ℕ
  pub path : updates_of more v ≡ updates_of changes head ++ take count accepted

-- a version of a history that grew: it was in the tree and its path is as it was, or it came after the head before
abbrev pub IsOldOrGrown : Growing → List Event → Version → Type 0
IsOldOrGrown now events v =
    (IsInTree now.history.changes v × (path_of (extended_by now events).history.changes v ≡ path_of now.history.changes v))
    ⊎ IsGrown now.history.changes (extended_by now events).history.changes now.head (accepted_in events) v

-- each version is one of these
abbrev pub PathsGrow : Type 0
PathsGrow = (now : Growing) (events : List Event) (v : Version) → IsTree now.history.changes → IsInTree now.history.changes now.head → MayGrow now events
    → IsInTree (extended_by now events).history.changes v → IsOldOrGrown now events v

-- what sufficient slots show of a history that grew: the objects of a version whose path has the committed one, and that is an
-- old version or came after the head before
pub record ShowsGrown (layout : Layout) (image : StoredPool) (now : Growing) (events : List Event) (joined : ℕ) (version : Version) : Type 0 where
  pub shows : ShowsCommitted layout image (extended_by now events).history joined version
  pub path : IsOldOrGrown now events version

abbrev pub GrownHistoriesAreShown : Type 0
GrownHistoriesAreShown = (layout : Layout) (image : StoredPool) (now : Growing) (events : List Event) (up joined : ℕ) (version : Version)
    → IsStoredPool layout image → IsTree now.history.changes → IsInTree now.history.changes now.head → MayGrow now events
    → Agrees layout image (extended_by now events).history → Chooses layout image up joined version
    → ShowsGrown layout image now events joined version
