-- What a record more makes of the steps of a slot.
use Rattle.std.proofs.Common.{◌≡◌, ◌⊎◌, inl, inr, ⊎_elim, ◌≤◌, ℕ, List, [], ◌∷◌, ◌++◌, length, Option, sym, ap, subst, ◌∙◌, refl, arith, length-append, append_assoc}
use Rattle.std.proofs.lemmas.List.{append-nil}
use Rattle.rig_disk.specs.Disk.{Image}
use Rattle.rig_disk.specs.During.{During}
use Rattle.rig_disk.proofs.Moments.{started, weaker}
use Rattle.shard_model.specs.Steps.{Step, Log, Control, Recover, Back, Firm, Trim, Started, Partial, Put, Drop, Clear, Reset}
use Rattle.shard_model.specs.StepBytes.{step_bytes, steps_bytes, IsWritable, AreSteps}
use Rattle.slot_journal.specs.InUse.{Areas, text_in_use}
use Rattle.slot_journal.specs.Text.{IsText}
use Rattle.slot_journal.specs.Writing.{IsBeforeOrAfter, next_gate}
use Rattle.slot_journal.specs.Journal.{gate_of, InSlot, Commits}
use Rattle.shard_store.specs.Stories.{fresh_shard, shard_after, AreFitting, AreSpelled, HasShard}
use Rattle.shard_store.specs.Stored.{slot_in, head_in, gate_behind, IsStored, Flushes}
use Rattle.shard_store.specs.Told.{Told, IsTold, IsSound, IsAccepted, unflushed_bytes, all_accepted, all_flushed}
use Rattle.shard_store.specs.declared.store.Store.{Store}
use Rattle.shard_store.proofs.StoryLemmas.{after_append, fitting_append, fitting_front, all_append, bytes_append}

has_kind : (s : Step) → 1 ≤ length (step_bytes s)
has_kind (Log e) = omega arith
has_kind (Control (Back v)) = omega arith
has_kind (Control (Firm v)) = omega arith
has_kind (Control (Trim v)) = omega arith
has_kind (Control (Started epoch)) = omega arith
has_kind (Control Partial) = omega arith
has_kind (Recover (Put name size bytes attrs)) = omega arith
has_kind (Recover (Drop name)) = omega arith
has_kind (Recover Clear) = omega arith
has_kind (Recover (Reset v epoch)) = omega arith

-- no bytes are no steps
pub no_bytes : (steps : List Step) → steps_bytes steps ≡ [] → steps ≡ []
no_bytes [] none = refl
no_bytes (x ∷ xs) none = absurd (omega (arith, ap length none, has_kind x, length-append (step_bytes x) (steps_bytes xs)))

pub some_length : (bytes : List ℕ) → (bytes ≡ [] → ⊥) → 1 ≤ length bytes
some_length [] some = absurd (some refl)
some_length (b ∷ bytes) some = omega arith

-- the gate behind a record that is some bytes
pub gate_moved : (gate next : ℕ) (body pending : List ℕ) → (pending ≡ [] → ⊥) → body ≡ pending → next ≡ next_gate gate body → next ≡ gate_behind gate pending
gate_moved gate next body [] some is moved = absurd (some refl)
gate_moved gate next body (b ∷ bytes) some is moved = moved ∙ ap (λ l. next_gate gate l) is

-- if nothing is staged, the bytes in no record are the pending ones
pub pending_alone : (t : Told) → IsAccepted t → unflushed_bytes t ≡ t.pending
pending_alone t accepted = ap (λ l. t.pending ++ steps_bytes l) accepted ∙ append-nil t.pending

-- a body more, of steps more
pub spelled_more : (bodies : List (List ℕ)) (steps : List Step) (body : List ℕ) (more : List Step) → AreSpelled bodies steps → AreSteps body more
    → AreSpelled (bodies ++ body ∷ []) (steps ++ more)
spelled_more [] steps body more none is =
    subst (λ (s : List Step). AreSpelled (body ∷ []) (s ++ more)) (sym none) (more, [], is, sym (append-none more), refl)
  where
    append-none : (xs : List Step) → xs ++ [] ≡ xs
    append-none [] = refl
    append-none (x ∷ xs) = ap (λ l. x ∷ l) (append-none xs)
spelled_more (b ∷ bodies) steps body more (front, rest, first, parts, then) is =
    (front, rest ++ more, first, ap (λ l. l ++ more) parts ∙ append_assoc front rest more, spelled_more bodies rest body more then is)

-- the pending bytes are a body more
pub body_more : (t : Told) (bodies : List (List ℕ)) (flushed pending : List Step) → IsAccepted t → IsTold t flushed pending → AreSpelled bodies flushed
    → AreSpelled (bodies ++ unflushed_bytes t ∷ []) (flushed ++ pending)
body_more t bodies flushed pending accepted told spelled =
    subst (λ b. AreSpelled (bodies ++ b ∷ []) (flushed ++ pending)) (sym (pending_alone t accepted)) (spelled_more bodies flushed t.pending pending spelled told.bytes)

-- after a flush no steps are pending
pub told_flushed : (t : Told) (flushed pending : List Step) → IsTold t flushed pending → IsTold (all_flushed t) (flushed ++ pending) []
told_flushed t flushed pending told = record {
  bytes = (tt, refl);
  fitting = subst (AreFitting (fresh_shard t.geometry)) (sym (append-nil (flushed ++ pending))) told.fitting;
  shard = told.shard ∙ ap (shard_after (fresh_shard t.geometry)) (sym (append-nil (flushed ++ pending)));
}

-- if no bytes are pending, no steps are pending
pub nothing_more : (reads : ℕ → ℕ → Option (List ℕ)) (images : Image → List ℕ → Type 0) (store : Store) (text : List ℕ) (flushed pending : List Step) → store.story.pending ≡ []
    → IsStored reads images store text flushed pending → IsStored reads images store text (flushed ++ pending) []
nothing_more reads images store text flushed pending empty stored =
    let none : pending ≡ [] = no_bytes pending (sym stored.told.bytes.1 ∙ empty) in
    let same : flushed ++ pending ≡ flushed = ap (λ l. flushed ++ l) none ∙ append-nil flushed in
    subst (λ (l : List Step). IsStored reads images store text l []) (sym same) (subst (λ (l : List Step). IsStored reads images store text flushed l) none stored)

-- the staged steps are pending once they are accepted
pub told_accepted : (t : Told) (flushed pending : List Step) → IsSound t → IsTold t flushed pending → IsTold (all_accepted t) flushed (pending ++ t.staged)
told_accepted t flushed pending sound told =
    let all = sym (append_assoc flushed pending t.staged) in record {
      bytes = (
        all_append IsWritable pending t.staged told.bytes.0 sound.writable,
        ap (λ l. l ++ steps_bytes t.staged) told.bytes.1 ∙ sym (bytes_append pending t.staged),
      );
      fitting = subst (AreFitting (fresh_shard t.geometry)) (sym all)
          (fitting_append (fresh_shard t.geometry) (flushed ++ pending) t.staged told.fitting (subst (λ s. AreFitting s t.staged) told.shard sound.fitting));
      shard = ap (λ s. shard_after s t.staged) told.shard ∙ sym (after_append (fresh_shard t.geometry) (flushed ++ pending) t.staged)
          ∙ ap (shard_after (fresh_shard t.geometry)) (sym all);
    }

module _ (reads : ℕ → ℕ → Option (List ℕ)) (images : Image → List ℕ → Type 0) (store : Store) (accepted : IsAccepted store.story) where
  either : (bodies : List (List ℕ)) (text : List ℕ) (flushed pending : List Step) → IsTold store.story flushed pending → AreSpelled bodies flushed
      → IsBeforeOrAfter (head_in store) bodies (unflushed_bytes store.story) (gate_of store.journal) text
      → HasShard store.story.geometry (head_in store) text flushed ⊎ HasShard store.story.geometry (head_in store) text (flushed ++ pending)
  either bodies text flushed pending told spelled which = ⊎_elim
      (λ (before : IsText (head_in store) bodies (gate_of store.journal) text). inl (record {
        bodies = bodies;
        place = gate_of store.journal;
        is_text = before;
        spelled = spelled;
        fitting = fitting_front (fresh_shard store.story.geometry) flushed pending told.fitting;
      }))
      (λ (after : IsText (head_in store) (bodies ++ unflushed_bytes store.story ∷ []) (next_gate (gate_of store.journal) (unflushed_bytes store.story)) text). inr (record {
        bodies = bodies ++ unflushed_bytes store.story ∷ [];
        place = next_gate (gate_of store.journal) (unflushed_bytes store.story);
        is_text = after;
        spelled = body_more store.story bodies flushed pending accepted told spelled;
        fitting = told.fitting;
      }))
      which

  pub flushes : (body : List ℕ) (before after : Areas) → body ≡ unflushed_bytes store.story → Commits reads images store.journal body before after → Flushes reads images store before after
  flushes body before after is commits = record {
    others = commits.others;
    shards = λ text flushed pending stored. either stored.bodies (text_in_use (slot_in store) after) flushed pending stored.told stored.spelled
        (subst (λ b. IsBeforeOrAfter (head_in store) stored.bodies b (gate_of store.journal) (text_in_use (slot_in store) after)) is
        (commits.records (head_in store) stored.bodies text stored.holds));
  }

module _ {R : Type 0} (clock : R → ℕ) (images : R → ℕ → Image → List ℕ → Type 0) (old new : R) (reads : ℕ → ℕ → Option (List ℕ)) (store : Store) (accepted : IsAccepted store.story) where
  abbrev Now : Image → List ℕ → Type 0
  Now image said = images old (clock old) image said

  pub flush_moments : (body : List ℕ) → body ≡ unflushed_bytes store.story
      → During clock images old new (InSlot Now (slot_in store) (Commits reads Now store.journal body))
      → During clock images old new (InSlot Now (slot_in store) (Flushes reads Now store))
  flush_moments body is run = weaker clock images old new (InSlot Now (slot_in store) (Commits reads Now store.journal body)) (InSlot Now (slot_in store) (Flushes reads Now store)) run
      (λ image said one. record {
        source = one.source;
        was = one.was;
        others = one.others;
        stepped = flushes reads Now store accepted body (one.source (slot_in store)) (image (slot_in store)) is one.stepped;
      })

-- if nothing is written, each image of now has the flushed steps
pub rests : {R : Type 0} (clock : R → ℕ) (images : R → ℕ → Image → List ℕ → Type 0) (rig : R) (reads : ℕ → ℕ → Option (List ℕ)) (store : Store)
    → During clock images rig rig (InSlot (images rig (clock rig)) (slot_in store) (Flushes reads (images rig (clock rig)) store))
rests clock images rig reads store =
    started clock images rig (InSlot (images rig (clock rig)) (slot_in store) (Flushes reads (images rig (clock rig)) store))
    (λ image said now. record {
      source = image;
      was = now;
      others = λ s other a. refl;
      stepped = record {
        others = λ a other. refl;
        shards = λ text flushed pending stored. inl (record {
          bodies = stored.bodies;
          place = gate_of store.journal;
          is_text = subst (λ t. IsText (head_in store) stored.bodies (gate_of store.journal) t) (sym (stored.holds.durable image said now)) stored.holds.is_text;
          spelled = stored.spelled;
          fitting = fitting_front (fresh_shard store.story.geometry) flushed pending stored.told.fitting;
        });
      };
    })
