-- What a contract sees of a store, and what its slot holds. Source: this project.
use Rattle.std.specs.Prelude.{◌≡◌, ◌≢◌, ◌⊎◌, ◌<◌, ◌++◌, ◌∷◌, [], ℕ, true, false, List, length, Option, Some, Result, OnOk, OnErr}
use Rattle.rig_disk.specs.Disk.{Image}
use Rattle.shard_model.specs.Objects.{Geometry}
use Rattle.shard_model.specs.Steps.{Step}
use Rattle.slot_journal.specs.InUse.{Areas, text_in_use, told_text}
use Rattle.slot_journal.specs.Journal.{slot_of, area_of, gate_of, room_of, is_spent, Holds, IsSettledWhereTold}
use Rattle.slot_journal.specs.Writing.{next_gate}
use Rattle.shard_store.specs.Stories.{AreSpelled, HasShard, shard_head}
use Rattle.shard_store.specs.Told.{Told, IsTold, IsAccepted, all_flushed}
use Rattle.shard_store.specs.declared.store.Store.{Store}

abbrev pub slot_in : Store → ℕ
slot_in store = slot_of store.journal

abbrev pub room_in : Store → ℕ
room_in store = room_of store.journal

-- a call of it on the slot has failed
abbrev pub is_stuck : Store → Type 0
is_stuck store = is_spent store.journal ≡ true

abbrev pub told_in : Store → Told
told_in store = store.story

-- the head of its text
abbrev pub head_in : Store → List ℕ
head_in store = shard_head (slot_of store.journal) store.story.geometry store.n

-- its journal is at rest, if the rig tells the slot
abbrev pub IsAtRest : (ℕ → ℕ → Option (List ℕ)) → (Image → List ℕ → Type 0) → Store → Type 0
IsAtRest reads images store = IsSettledWhereTold reads images store.journal

-- the slot's text in use has these steps, as each image of now has, and these more are accepted; they lead to the shard
pub record IsStored (reads : ℕ → ℕ → Option (List ℕ)) (images : Image → List ℕ → Type 0) (store : Store) (text : List ℕ)
    (flushed pending : List Step) : Type 0 where
  pub bodies : List (List ℕ)
  pub holds : Holds reads images store.journal (head_in store) bodies text
  pub spelled : AreSpelled bodies flushed
  pub told : IsTold store.story flushed pending

-- a flush at each of its instants: one area alone changes, and a slot that had the flushed steps has these or all accepted
-- ones
pub record Flushes (reads : ℕ → ℕ → Option (List ℕ)) (images : Image → List ℕ → Type 0) (store : Store)
    (before after : Areas) : Type 0 where
  pub others : (a : ℕ) → a ≢ area_of store.journal → after a ≡ before a
  pub shards : (text : List ℕ) (flushed pending : List Step) → IsStored reads images store text flushed pending
      → HasShard store.story.geometry (head_in store) (text_in_use (slot_in store) after) flushed
      ⊎ HasShard store.story.geometry (head_in store) (text_in_use (slot_in store) after) (flushed ++ pending)

-- the place of the closed gate once these bytes stand in front of it as one record, or as it was if there are no bytes
abbrev pub gate_behind : ℕ → List ℕ → ℕ
gate_behind gate [] = gate
gate_behind gate (b ∷ bytes) = next_gate gate (b ∷ bytes)

-- the store has this view from now on, and all else is as it was
pub record Becomes (old new : Store) (told : Told) : Type 0 where
  pub journal : new.journal ≡ old.journal
  pub n : new.n ≡ old.n
  pub story : new.story ≡ told

-- after a flush all accepted steps stand in the text and the closed gate behind them, or the text is as it was and the store is spent
pub record IsFlushed {T E : Type 0} (old new : Store) (result : Result T E) : Type 0 where
  pub slot_is : slot_of new.journal ≡ slot_of old.journal
  pub area_is : area_of new.journal ≡ area_of old.journal
  pub n : new.n ≡ old.n
  pub flushed : OnOk result (new.story ≡ all_flushed old.story)
  pub gate_is : OnOk result (gate_of new.journal ≡ gate_behind (gate_of old.journal) old.story.pending)
  pub unspent : OnOk result (is_spent old.journal ≡ false → is_spent new.journal ≡ false)
  pub kept : OnErr result (new.story ≡ old.story)
  pub same_gate : OnErr result (gate_of new.journal ≡ gate_of old.journal)
  pub spent : OnErr result (is_spent new.journal ≡ true)

-- a new value over a slot, with no steps but those that stand in records
pub record IsNew (store : Store) (slot : ℕ) (g : Geometry) (n : ℕ) : Type 0 where
  pub slot_is : slot_of store.journal ≡ slot
  pub n_is : store.n ≡ n
  pub geometry_is : store.story.geometry ≡ g
  pub accepted : IsAccepted store.story
  pub flushed : store.story.pending ≡ []
  pub unspent : is_spent store.journal ≡ false

-- the making of a store at each of its instants: the slot has in use the text that it had, one that is shorter than a header,
-- or one with the first step
pub record MakesShard (slot : ℕ) (reads : ℕ → Option (List ℕ)) (g : Geometry) (head : List ℕ) (steps : List Step) (before after : Areas) : Type 0 where
  pub texts : (text : List ℕ) → told_text slot reads ≡ Some text
      → (text_in_use slot after ≡ text_in_use slot before)
      ⊎ ((length (text_in_use slot after) < 24) ⊎ HasShard g head (text_in_use slot after) steps)
