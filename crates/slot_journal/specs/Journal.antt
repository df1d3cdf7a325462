-- What a contract sees of a journal. Source: this project.
use Rattle.std.specs.Prelude.{◌≡◌, ◌≢◌, ◌⊎◌, ◌<◌, ◌+◌, ◌-◌, ◌++◌, ◌∷◌, [], ℕ, Bool, true, false, List, length, Option, Some, Result, OnOk, OnErr}
use Rattle.rig_disk.specs.Disk.{Image}
use Rattle.slot_journal.specs.InUse.{Areas, area_in_use, text_in_use, told_area, told_text}
use Rattle.slot_journal.specs.Limits.{area_limit}
use Rattle.slot_journal.specs.Text.{IsText}
use Rattle.slot_journal.specs.Writing.{first_text, next_gate, IsBeforeOrAfter}
use Rattle.slot_journal.specs.declared.journal.Journal.{Journal}

abbrev pub slot_of : Journal → ℕ
slot_of journal = journal.slot

-- the area that its text stands in
abbrev pub area_of : Journal → ℕ
area_of journal = journal.area

-- the serial of its text
abbrev pub serial_of : Journal → ℕ
serial_of journal = journal.serial

-- the place of the closed gate behind its records
abbrev pub gate_of : Journal → ℕ
gate_of journal = journal.gate

-- a call of it has failed
abbrev pub is_spent : Journal → Bool
is_spent journal = journal.spent

-- how many bytes its text may still grow by: up to the area's limit with the closed gate among them
abbrev pub room_of : Journal → ℕ
room_of journal = area_limit - (gate_of journal + 1)

-- the slot's text in use reads as these records up to the journal's gate and stands in the journal's area, and each image of
-- now has just that text in use there
pub record Holds (reads : ℕ → ℕ → Option (List ℕ)) (images : Image → List ℕ → Type 0) (journal : Journal)
    (head : List ℕ) (bodies : List (List ℕ)) (text : List ℕ) : Type 0 where
  pub told : told_text (slot_of journal) (reads (slot_of journal)) ≡ Some text
  pub told_in : told_area (slot_of journal) (reads (slot_of journal)) ≡ Some (area_of journal)
  pub is_text : IsText head bodies (gate_of journal) text
  pub durable : (image : Image) (said : List ℕ) → images image said → text_in_use (slot_of journal) (image (slot_of journal)) ≡ text
  pub durable_in : (image : Image) (said : List ℕ) → images image said
      → area_in_use (slot_of journal) (image (slot_of journal)) ≡ area_of journal

-- each of these images has this text in use in a slot
abbrev pub HaveInUse : (Image → List ℕ → Type 0) → ℕ → List ℕ → Type 0
HaveInUse images slot text = (image : Image) (said : List ℕ) → images image said → text_in_use slot (image slot) ≡ text

-- the journal holds some records
pub record IsSettled (reads : ℕ → ℕ → Option (List ℕ)) (images : Image → List ℕ → Type 0) (journal : Journal)
    (text : List ℕ) : Type 0 where
  pub head : List ℕ
  pub bodies : List (List ℕ)
  pub holds : Holds reads images journal head bodies text

-- the same, if the rig tells the slot's text in use
abbrev pub IsSettledWhereTold : (ℕ → ℕ → Option (List ℕ)) → (Image → List ℕ → Type 0) → Journal → Type 0
IsSettledWhereTold reads images journal =
    (text : List ℕ) → told_text (slot_of journal) (reads (slot_of journal)) ≡ Some text → IsSettled reads images journal text

-- a new journal over a slot
pub record IsFresh (journal : Journal) (slot : ℕ) : Type 0 where
  pub slot_is : slot_of journal ≡ slot
  pub area_is : area_of journal ≡ 0
  pub serial_is : serial_of journal ≡ 0
  pub unspent : is_spent journal ≡ false

-- once a journal is made: the slot holds the one record, if the rig told the slot's text in use; the journal is settled where
-- the rig tells it, new over the slot, and its closed gate stands behind the record
pub record IsMade (old_reads reads : ℕ → ℕ → Option (List ℕ)) (images : Image → List ℕ → Type 0) (slot : ℕ)
    (head body : List ℕ) (journal : Journal) : Type 0 where
  pub holds : (text : List ℕ) → told_text slot (old_reads slot) ≡ Some text
      → Holds reads images journal head (body ∷ []) (first_text head body)
  pub settled : IsSettledWhereTold reads images journal
  pub fresh : IsFresh journal slot
  pub gate : gate_of journal ≡ next_gate 24 body

-- once a record is added: whichever records the journal held, it holds them and the new one; and it is settled where the rig
-- tells the slot's text in use
pub record HasAdded (old_reads : ℕ → ℕ → Option (List ℕ)) (old_images : Image → List ℕ → Type 0) (old : Journal) (body : List ℕ)
    (reads : ℕ → ℕ → Option (List ℕ)) (images : Image → List ℕ → Type 0) (new : Journal) : Type 0 where
  pub holds : (head : List ℕ) (bodies : List (List ℕ)) (text : List ℕ) → Holds old_reads old_images old head bodies text
      → (after : List ℕ) × Holds reads images new head (bodies ++ body ∷ []) after
  pub settled : IsSettledWhereTold reads images new

-- after a commit: the closed gate stands behind the new record, or the journal is spent
pub record IsCommitted {T E : Type 0} (old new : Journal) (body : List ℕ) (result : Result T E) : Type 0 where
  pub slot_is : slot_of new ≡ slot_of old
  pub area_is : area_of new ≡ area_of old
  pub serial_is : serial_of new ≡ serial_of old
  pub gate_is : OnOk result (gate_of new ≡ next_gate (gate_of old) body)
  pub unspent : OnOk result (is_spent new ≡ false)
  pub spent : OnErr result (is_spent new ≡ true)
  pub same_gate : OnErr result (gate_of new ≡ gate_of old)

-- one of these images with a step in one slot, all other slots as they were, and nothing said
pub record InSlot (images : Image → List ℕ → Type 0) (slot : ℕ) (step : Areas → Areas → Type 0)
    (image : Image) (said : List ℕ) : Type 0 where
  pub source : Image
  pub was : images source said
  pub others : (s : ℕ) → s ≢ slot → (a : ℕ) → image s a ≡ source s a
  pub stepped : step (source slot) (image slot)

-- a commit at each of its instants: the journal's area alone changes, and whichever records the journal held, the
-- text in use has them, or them and the new one
pub record Commits (reads : ℕ → ℕ → Option (List ℕ)) (images : Image → List ℕ → Type 0) (journal : Journal)
    (body : List ℕ) (before after : Areas) : Type 0 where
  pub others : (a : ℕ) → a ≢ area_of journal → after a ≡ before a
  pub records : (head : List ℕ) (bodies : List (List ℕ)) (text : List ℕ) → Holds reads images journal head bodies text
      → IsBeforeOrAfter head bodies body (gate_of journal) (text_in_use (slot_of journal) after)

-- the making of a journal at each of its instants: the slot has in use the text that it had, one that is shorter than a
-- header, or the new one
pub record Makes (slot : ℕ) (reads : ℕ → Option (List ℕ)) (head body : List ℕ) (before after : Areas) : Type 0 where
  pub texts : (text : List ℕ) → told_text slot reads ≡ Some text
      → (text_in_use slot after ≡ text_in_use slot before)
      ⊎ ((length (text_in_use slot after) < 24) ⊎ IsText head (body ∷ []) (next_gate 24 body) (text_in_use slot after))
