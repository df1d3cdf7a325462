-- Laws of stories. Source: this project.
use Rattle.std.specs.Prelude.{◌≡◌, ◌≢◌, ◌⊎◌, ◌↔◌, ◌<◌, ◌*◌, ℕ, List, Option, Some}
use Rattle.rig_disk.specs.Disk.{Image, Saying}
use Rattle.rig_disk.specs.During.{During}
use Rattle.shard_model.specs.Objects.{Geometry}
use Rattle.shard_model.specs.Replays.{Replay, replay_of, state_of}
use Rattle.shard_model.specs.Steps.{Step}
use Rattle.slot_journal.specs.InUse.{Areas, text_in_use}
use Rattle.slot_journal.specs.Journal.{InSlot}
use Rattle.slot_journal.specs.Text.{IsBadText}
use Rattle.shard_store.specs.OnSlot.{MayFlush}
use Rattle.shard_store.specs.Stored.{slot_in, head_in, told_in, Becomes, IsAtRest, IsStored}
use Rattle.shard_store.specs.Stories.{fresh_shard, shard_after, AreFitting, HasShard, IsBadStory}
use Rattle.shard_store.specs.Told.{IsTold, with_step, none_staged}
use Rattle.shard_store.specs.declared.store.Store.{Store}

-- steps that fit one after another have a replay, and it comes to the shard that they lead to
abbrev pub ShardsAreReplays : Type 0
ShardsAreReplays =
    (g : Geometry) → 0 < g.k * g.unit → (steps : List Step) → AreFitting (fresh_shard g) steps
    → (r : Replay) × (replay_of g steps ≡ Some r) × (shard_after (fresh_shard g) steps ≡ record { geometry = g; state = state_of g r })

-- a text has one list of steps, whatever heads it is read for
abbrev pub TextsHaveOneStory : Type 0
TextsHaveOneStory =
    (one other : Geometry) (text head wanted : List ℕ) (steps those : List Step)
    → HasShard one head text steps → HasShard other wanted text those → steps ≡ those

-- a text that is no shard's has no list of steps
abbrev pub BadTextsHaveNoStory : Type 0
BadTextsHaveNoStory =
    (g : Geometry) (head text : List ℕ) (at : ℕ) → IsBadText head text at ⊎ IsBadStory g head text at
    → (steps : List Step) → HasShard g head text steps → ⊥

-- any change of a slot
abbrev pub AnyStep : Areas → Areas → Type 0
AnyStep before after = Unit {0}

-- a store that has steps stored, or is at rest, is so still
abbrev pub StaysStored : {R : Type 0} → (R → ℕ → ℕ → Option (List ℕ)) → (R → ℕ) → (R → ℕ → Image → List ℕ → Type 0) → R → R → Store → Type 0
StaysStored reads_of clock_of images_of old new store =
    ((text : List ℕ) (flushed pending : List Step) → IsStored (reads_of old) (images_of old (clock_of old)) store text flushed pending
    → IsStored (reads_of new) (images_of new (clock_of new)) store text flushed pending)
    × (IsAtRest (reads_of old) (images_of old (clock_of old)) store → IsAtRest (reads_of new) (images_of new (clock_of new)) store)

-- so over a call on another slot
abbrev pub StoresStayElsewhere : {R : Type 0} → (R → ℕ → ℕ → Option (List ℕ)) → (R → ℕ) → (R → ℕ → Image → List ℕ → Type 0) → Type 0
StoresStayElsewhere {R} reads_of clock_of images_of =
    (old new : R) (store : Store) (slot : ℕ) → slot_in store ≢ slot
    → ((a : ℕ) → reads_of new (slot_in store) a ≡ reads_of old (slot_in store) a)
    → During clock_of images_of old new (InSlot (images_of old (clock_of old)) slot AnyStep) → StaysStored reads_of clock_of images_of old new store

-- so a store that may be flushed may be so after a call on another slot, such as the flush of another store
abbrev pub OthersMayFlush : {R : Type 0} → (R → ℕ → Type 0) → (R → ℕ → ℕ → Option (List ℕ)) → (R → ℕ) → (R → ℕ → Image → List ℕ → Type 0) → Type 0
OthersMayFlush {R} here_of reads_of clock_of images_of =
    (old new : R) (store : Store) (own slot : ℕ) → own ≢ slot → ((s : ℕ) → here_of old s ↔ here_of new s)
    → ((a : ℕ) → reads_of new own a ≡ reads_of old own a)
    → During clock_of images_of old new (InSlot (images_of old (clock_of old)) slot AnyStep)
    → MayFlush (here_of old) (reads_of old) (images_of old (clock_of old)) own store
    → MayFlush (here_of new) (reads_of new) (images_of new (clock_of new)) own store × StaysStored reads_of clock_of images_of old new store

-- over a call that changes no image
abbrev pub StoresStayOver : {R : Type 0} → (R → ℕ → ℕ → Option (List ℕ)) → (R → ℕ) → (R → ℕ → Image → List ℕ → Type 0) → Type 0
StoresStayOver {R} reads_of clock_of images_of =
    (old new : R) (store : Store) → ((a : ℕ) → reads_of new (slot_in store) a ≡ reads_of old (slot_in store) a)
    → During clock_of images_of old new (λ image said. images_of old (clock_of old) image said) → StaysStored reads_of clock_of images_of old new store

-- and over one that says something
abbrev pub StoresStaySaying : {R : Type 0} → (R → ℕ → ℕ → Option (List ℕ)) → (R → ℕ) → (R → ℕ → Image → List ℕ → Type 0) → Type 0
StoresStaySaying {R} reads_of clock_of images_of =
    (old new : R) (store : Store) (bytes : List ℕ) → ((a : ℕ) → reads_of new (slot_in store) a ≡ reads_of old (slot_in store) a)
    → During clock_of images_of old new (Saying (images_of old (clock_of old)) bytes) → StaysStored reads_of clock_of images_of old new store

-- what a store has stored it has still after a step is staged, or the staged ones are forgotten
abbrev pub StagingKeepsStored : {R : Type 0} → (R → ℕ → ℕ → Option (List ℕ)) → (R → ℕ) → (R → ℕ → Image → List ℕ → Type 0) → Type 0
StagingKeepsStored {R} reads_of clock_of images_of =
    (rig : R) (old new : Store) (text : List ℕ) (flushed pending : List Step)
    → (((step : Step) × Becomes old new (with_step (told_in old) step)) ⊎ Becomes old new (none_staged (told_in old)))
    → IsStored (reads_of rig) (images_of rig (clock_of rig)) old text flushed pending → IsStored (reads_of rig) (images_of rig (clock_of rig)) new text flushed pending

-- what a store has stored it has still after it was told more, as when the staged steps are accepted
abbrev pub TellingKeepsStored : {R : Type 0} → (R → ℕ → ℕ → Option (List ℕ)) → (R → ℕ) → (R → ℕ → Image → List ℕ → Type 0) → Type 0
TellingKeepsStored {R} reads_of clock_of images_of =
    (rig : R) (old new : Store) (text : List ℕ) (flushed pending more : List Step)
    → new.journal ≡ old.journal → new.n ≡ old.n → (told_in new).geometry ≡ (told_in old).geometry → IsTold (told_in new) flushed more
    → IsStored (reads_of rig) (images_of rig (clock_of rig)) old text flushed pending → IsStored (reads_of rig) (images_of rig (clock_of rig)) new text flushed more

-- a store with the journal of one at rest is at rest
abbrev pub TellingKeepsRest : {R : Type 0} → (R → ℕ → ℕ → Option (List ℕ)) → (R → ℕ) → (R → ℕ → Image → List ℕ → Type 0) → Type 0
TellingKeepsRest {R} reads_of clock_of images_of =
    (rig : R) (old new : Store) → new.journal ≡ old.journal → IsAtRest (reads_of rig) (images_of rig (clock_of rig)) old → IsAtRest (reads_of rig) (images_of rig (clock_of rig)) new

-- each image of now has the steps that stand in records
abbrev pub ImagesHaveFlushed : {R : Type 0} → (R → ℕ → ℕ → Option (List ℕ)) → (R → ℕ) → (R → ℕ → Image → List ℕ → Type 0) → Type 0
ImagesHaveFlushed {R} reads_of clock_of images_of =
    (rig : R) (store : Store) (text : List ℕ) (flushed pending : List Step) → IsStored (reads_of rig) (images_of rig (clock_of rig)) store text flushed pending
    → (image : Image) (said : List ℕ) → images_of rig (clock_of rig) image said
    → HasShard (told_in store).geometry (head_in store) (text_in_use (slot_in store) (image (slot_in store))) flushed
