-- What a store has stored stays so.
use Rattle.std.proofs.Common.{◌≡◌, ◌≢◌, inl, inr, ℕ, List, Option, sym, ap, subst, ◌∙◌}
use Rattle.rig_disk.specs.Disk.{Image}
use Rattle.shard_model.specs.Objects.{Geometry}
use Rattle.shard_model.specs.Steps.{Step}
use Rattle.slot_journal.specs.Journal.{slot_of, gate_of, Holds, IsSettledWhereTold}
use Rattle.slot_journal.specs.Text.{IsText}
use Rattle.slot_journal.specs.declared.journal.Journal.{Journal}
use Rattle.slot_journal.proofs.CallerLemmas.{holds_over, settled_over, holds_elsewhere, settled_elsewhere, holds_saying, settled_saying}
use Rattle.shard_store.specs.Laws.{AnyStep, StoresStayElsewhere, OthersMayFlush, StoresStayOver, StoresStaySaying, StagingKeepsStored, TellingKeepsStored, TellingKeepsRest, ImagesHaveFlushed}
use Rattle.shard_store.specs.Stored.{head_in, told_in, IsStored}
use Rattle.shard_store.specs.Stories.{fresh_shard, shard_head}
use Rattle.shard_store.specs.Told.{Told, IsTold}
use Rattle.shard_store.specs.declared.store.Store.{Store}
use Rattle.shard_store.proofs.StoryLemmas.{fitting_front}

module _ {R : Type 0} (reads_of : R → ℕ → ℕ → Option (List ℕ)) (clock_of : R → ℕ) (images_of : R → ℕ → Image → List ℕ → Type 0) where
  abbrev Now : R → Image → List ℕ → Type 0
  Now rig image said = images_of rig (clock_of rig) image said

  -- if its journal holds what it held
  stored_on : (old new : R) (store : Store) (text : List ℕ) (flushed pending : List Step)
      → ((bodies : List (List ℕ)) → Holds (reads_of old) (Now old) store.journal (head_in store) bodies text → Holds (reads_of new) (Now new) store.journal (head_in store) bodies text)
      → IsStored (reads_of old) (Now old) store text flushed pending → IsStored (reads_of new) (Now new) store text flushed pending
  stored_on old new store text flushed pending on stored = record {
    bodies = stored.bodies;
    holds = on stored.bodies stored.holds;
    spelled = stored.spelled;
    told = stored.told;
  }

  pub stay_elsewhere : StoresStayElsewhere reads_of clock_of images_of
  stay_elsewhere old new store slot other same run = (
    (λ text flushed pending stored. stored_on old new store text flushed pending
        (λ bodies holds. holds_elsewhere reads_of clock_of images_of old new store.journal same slot AnyStep (head_in store) bodies text other run holds) stored),
    (λ rest. settled_elsewhere reads_of clock_of images_of old new store.journal same slot AnyStep other run rest),
  )

  pub stay_over : StoresStayOver reads_of clock_of images_of
  stay_over old new store same run = (
    (λ text flushed pending stored. stored_on old new store text flushed pending
        (λ bodies holds. holds_over reads_of clock_of images_of old new store.journal same (head_in store) bodies text run holds) stored),
    (λ rest. settled_over reads_of clock_of images_of old new store.journal same run rest),
  )

  pub stay_saying : StoresStaySaying reads_of clock_of images_of
  stay_saying old new store bytes same run = (
    (λ text flushed pending stored. stored_on old new store text flushed pending
        (λ bodies holds. holds_saying reads_of clock_of images_of old new store.journal same bytes (head_in store) bodies text run holds) stored),
    (λ rest. settled_saying reads_of clock_of images_of old new store.journal same bytes run rest),
  )

pub others_flush : {R : Type 0} (here_of : R → ℕ → Type 0) (reads_of : R → ℕ → ℕ → Option (List ℕ)) (clock_of : R → ℕ) (images_of : R → ℕ → Image → List ℕ → Type 0)
    → OthersMayFlush here_of reads_of clock_of images_of
others_flush here_of reads_of clock_of images_of old new store own slot other here same run may =
    let apart = subst (λ s. s ≢ slot) (sym may.own) other in
    let there = subst (λ s. (a : ℕ) → reads_of new s a ≡ reads_of old s a) (sym may.own) same in
    let stay = stay_elsewhere reads_of clock_of images_of old new store slot apart there run in (
      record { own = may.own; here = (here own).0 may.here; accepted = may.accepted; settled = λ free. stay.1 (may.settled free) },
      stay,
    )

-- a store with the same journal, n and geometry has the same head
head_same : (old new : Store) → new.journal ≡ old.journal → new.n ≡ old.n → (told_in new).geometry ≡ (told_in old).geometry → head_in old ≡ head_in new
head_same old new journal n geometry =
    ap (λ (j : Journal). shard_head (slot_of j) old.story.geometry old.n) (sym journal)
    ∙ ap (λ (g : Geometry). shard_head (slot_of new.journal) g old.n) (sym geometry)
    ∙ ap (λ m. shard_head (slot_of new.journal) new.story.geometry m) (sym n)

telling_at : (reads : ℕ → ℕ → Option (List ℕ)) (images : Image → List ℕ → Type 0) (old new : Store) (text : List ℕ) (flushed pending more : List Step)
    → new.journal ≡ old.journal → new.n ≡ old.n → (told_in new).geometry ≡ (told_in old).geometry → IsTold (told_in new) flushed more
    → IsStored reads images old text flushed pending → IsStored reads images new text flushed more
telling_at reads images old new text flushed pending more journal n geometry told stored = record {
  bodies = stored.bodies;
  holds = subst (λ (j : Journal). Holds reads images j (head_in new) stored.bodies text) (sym journal)
      (subst (λ (h : List ℕ). Holds reads images old.journal h stored.bodies text) (head_same old new journal n geometry) stored.holds);
  spelled = stored.spelled;
  told = told;
}

module _ {R : Type 0} (reads_of : R → ℕ → ℕ → Option (List ℕ)) (clock_of : R → ℕ) (images_of : R → ℕ → Image → List ℕ → Type 0) where
  pub telling : TellingKeepsStored reads_of clock_of images_of
  telling rig old new text flushed pending more journal n geometry told stored =
      telling_at (reads_of rig) (images_of rig (clock_of rig)) old new text flushed pending more journal n geometry told stored

  pub staging : StagingKeepsStored reads_of clock_of images_of
  staging rig old new text flushed pending (inl (step, is)) stored =
      telling_at (reads_of rig) (images_of rig (clock_of rig)) old new text flushed pending pending is.journal is.n (ap (λ (t : Told). t.geometry) is.story)
      (subst (λ (t : Told). IsTold t flushed pending) (sym is.story) (record { bytes = stored.told.bytes; fitting = stored.told.fitting; shard = stored.told.shard })) stored
  staging rig old new text flushed pending (inr is) stored =
      telling_at (reads_of rig) (images_of rig (clock_of rig)) old new text flushed pending pending is.journal is.n (ap (λ (t : Told). t.geometry) is.story)
      (subst (λ (t : Told). IsTold t flushed pending) (sym is.story) (record { bytes = stored.told.bytes; fitting = stored.told.fitting; shard = stored.told.shard })) stored

  pub rest_kept : TellingKeepsRest reads_of clock_of images_of
  rest_kept rig old new journal rest = subst (λ (j : Journal). IsSettledWhereTold (reads_of rig) (images_of rig (clock_of rig)) j) (sym journal) rest

  pub images_have : ImagesHaveFlushed reads_of clock_of images_of
  images_have rig store text flushed pending stored image said now = record {
    bodies = stored.bodies;
    place = gate_of store.journal;
    is_text = subst (λ t. IsText (head_in store) stored.bodies (gate_of store.journal) t) (sym (stored.holds.durable image said now)) stored.holds.is_text;
    spelled = stored.spelled;
    fitting = fitting_front (fresh_shard store.story.geometry) flushed pending stored.told.fitting;
  }
