-- The changes that a pool's objects were given, as a tree of versions. Source: this project.
-- Two runs after a crash may go on from different versions, so the changes make a tree and not a list. The pool holds one path
-- of it.
use Rattle.std.specs.Prelude.{◌≡◌, ◌⊎◌, ◌<◌, ◌≤◌, ◌+◌, ◌^◌, ℕ, max, cond, List, [], ◌∷◌, ◌++◌, map, None}
use Rattle.std.specs.FinMap as fin
use Rattle.ec_model.specs.Versions.{Version, is_same, zero_version}
use Rattle.ec_positions.specs.Objects.{Objects}
use Rattle.ec_positions.specs.Updates.{Update, after}
use Rattle.ec_positions.specs.Refusals.{refusal_of}

-- an update under its version; `prior` is the version that it was made on
pub record PoolChange : Type 0 where
  pub version : Version
  pub prior : Version
  pub update : Update

-- the changes, the newest first; the epochs that went active, so that their slots may have acknowledged changes; the committed
-- version, so that no later choice may lose it
pub record History : Type 0 where
  pub changes : List PoolChange
  pub activated : List ℕ
  pub committed : Version

-- a change is one of some
abbrev pub IsMade : List PoolChange → PoolChange → Type 0
IsMade [] change = ⊥
IsMade (newest ∷ older) change = (newest ≡ change) ⊎ IsMade older change

-- a version of some change
pub record IsVersionOf (changes : List PoolChange) (v : Version) : Type 0 where
  pub change : PoolChange
  pub made : IsMade changes change
  pub is : change.version ≡ v

-- a version is in the tree: it is the root or a change's
abbrev pub IsInTree : List PoolChange → Version → Type 0
IsInTree changes v = (v ≡ zero_version) ⊎ IsVersionOf changes v

-- the changes on the path from the root to a version, the oldest first
abbrev pub path_of : List PoolChange → Version → List PoolChange
path_of [] v = []
path_of (newest ∷ older) v = cond (is_same newest.version v) (path_of older newest.prior ++ newest ∷ []) (path_of older v)

-- the objects after some changes
abbrev pub after_changes : Objects → List PoolChange → Objects
after_changes objects [] = objects
after_changes objects (first ∷ rest) = after_changes (after objects first.update) rest

-- the objects at a version
abbrev pub objects_of : List PoolChange → Version → Objects
objects_of changes v = after_changes fin.empty (path_of changes v)

-- a change may come next: its prior is in the tree and its version is not; its number is the next one and its epoch no older one;
-- both fit their places in bytes; and its update is not refused on the objects at its prior
pub record MayBeMade (changes : List PoolChange) (change : PoolChange) : Type 0 where
  pub on_tree : IsInTree changes change.prior
  pub new : IsInTree changes change.version → ⊥
  pub next : change.version.seq ≡ change.prior.seq + 1
  pub no_older : change.prior.epoch ≤ change.version.epoch
  pub short_epoch : change.version.epoch < 2 ^ 32
  pub short_seq : change.version.seq < 2 ^ 64
  pub accepted : refusal_of (objects_of changes change.prior) change.update ≡ None

-- the changes are a tree: each came next after those before it
abbrev pub IsTree : List PoolChange → Type 0
IsTree [] = Unit {0}
IsTree (newest ∷ older) = MayBeMade older newest × IsTree older

-- a version is on the path of another: it is that one, or it is on the path of its prior
pub data IsOnPath (changes : List PoolChange) (a : Version) : Version → Type 0 where
  Itself : IsOnPath changes a a
  Later : (change : PoolChange) → IsMade changes change → IsOnPath changes a change.prior → IsOnPath changes a change.version

-- a version is a base, or comes after it by versions of one epoch alone
pub data Follows (changes : List PoolChange) (epoch : ℕ) (base : Version) : Version → Type 0 where
  AtBase : Follows changes epoch base base
  Next : (change : PoolChange) → IsMade changes change → change.version.epoch ≡ epoch → Follows changes epoch base change.prior
      → Follows changes epoch base change.version

-- an epoch is one of some
abbrev pub IsOneOf : List ℕ → ℕ → Type 0
IsOneOf [] epoch = ⊥
IsOneOf (first ∷ rest) epoch = (first ≡ epoch) ⊎ IsOneOf rest epoch

-- the greatest of some epochs; 0 if there are none
abbrev pub greatest : List ℕ → ℕ
greatest [] = 0
greatest (first ∷ rest) = max first (greatest rest)

-- the last epoch that went active
abbrev pub active_epoch : History → ℕ
active_epoch history = greatest history.activated

-- what holds of each history: the changes are a tree, some epoch went active, the committed version is in the tree
pub record IsHistory (history : History) : Type 0 where
  pub tree : IsTree history.changes
  pub some : IsOneOf history.activated (active_epoch history)
  pub kept : IsInTree history.changes history.committed

-- ---- what a history becomes

-- the first history: it has no change yet, and epoch 1 went active
abbrev pub first_history : History
first_history = record { changes = []; activated = 1 ∷ []; committed = zero_version }

-- with one more change
abbrev pub with_change : PoolChange → History → History
with_change change history = record { changes = change ∷ history.changes; activated = history.activated; committed = history.committed }

-- with one more epoch that went active; the base of its interval is committed then
abbrev pub with_activated : ℕ → Version → History → History
with_activated epoch base history = record { changes = history.changes; activated = epoch ∷ history.activated; committed = base }

-- with another committed version
abbrev pub with_committed : Version → History → History
with_committed v history = record { changes = history.changes; activated = history.activated; committed = v }

-- what a run does to a history: it begins an interval with the version that it chose, or that it had if it chose none; the
-- activation of that interval is complete; a change is accepted; what was accepted is on all shards of the interval
pub data Event : Type 0 where
  IntervalBegun : (epoch : ℕ) (version : Version) → Event
  ActivationComplete : Event
  ChangeAccepted : (update : Update) → Event
  CommitPoint : Event

-- a history that a run goes on with: the interval's epoch and authoritative version, and the version that the next change is
-- made on
pub record Growing : Type 0 where
  pub history : History
  pub epoch : ℕ
  pub chosen : Version
  pub head : Version

-- the change that is accepted next
abbrev pub next_change : Growing → Update → PoolChange
next_change now update =
    record { version = record { epoch = now.epoch; seq = now.head.seq + 1 }; prior = now.head; update = update }

-- what an event makes of it
abbrev pub grown_by : Growing → Event → Growing
grown_by now (IntervalBegun epoch version) = record { history = now.history; epoch = epoch; chosen = version; head = now.head }
grown_by now ActivationComplete =
    record { history = with_activated now.epoch now.chosen now.history; epoch = now.epoch; chosen = now.chosen; head = now.chosen }
grown_by now (ChangeAccepted update) = record {
  history = with_change (next_change now update) now.history;
  epoch = now.epoch;
  chosen = now.chosen;
  head = (next_change now update).version;
}
grown_by now CommitPoint =
    record { history = with_committed now.head now.history; epoch = now.epoch; chosen = now.chosen; head = now.head }

-- what some events make of it, one after another
abbrev pub extended_by : Growing → List Event → Growing
extended_by now [] = now
extended_by now (event ∷ events) = extended_by (grown_by now event) events

-- the updates on the path of a version
abbrev pub updates_of : List PoolChange → Version → List Update
updates_of changes v = map (λ change. change.update) (path_of changes v)

-- the updates that are accepted in some events, in order
abbrev pub accepted_in : List Event → List Update
accepted_in [] = []
accepted_in (ChangeAccepted update ∷ events) = update ∷ accepted_in events
accepted_in (IntervalBegun epoch version ∷ events) = accepted_in events
accepted_in (ActivationComplete ∷ events) = accepted_in events
accepted_in (CommitPoint ∷ events) = accepted_in events

-- an event may happen: an interval whose activation is complete goes on from the head, and an accepted change comes next in the
-- tree
abbrev pub MayHappen : Growing → Event → Type 0
MayHappen now (IntervalBegun epoch version) = Unit {0}
MayHappen now ActivationComplete = now.chosen ≡ now.head
MayHappen now (ChangeAccepted update) = MayBeMade now.history.changes (next_change now update)
MayHappen now CommitPoint = Unit {0}

-- some events may happen, one after another
abbrev pub MayGrow : Growing → List Event → Type 0
MayGrow now [] = Unit {0}
MayGrow now (event ∷ events) = MayHappen now event × MayGrow (grown_by now event) events
