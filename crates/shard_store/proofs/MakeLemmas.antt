-- What a store that was made or loaded has.
use Rattle.std.proofs.Common.{◌≡◌, ◌⊎◌, ◌≤◌, ◌<◌, ◌^◌, ◌++◌, inl, inr, ⊎_elim, ℕ, Bool, true, false, List, [], ◌∷◌, length, Option, sym, ap, subst, ◌∙◌, refl, arith, length-append}
use Rattle.std.specs.List.{AllByRecursion}
use Rattle.std.proofs.lemmas.List.{append-nil}
use Rattle.rig_disk.specs.Disk.{Image}
use Rattle.rig_disk.specs.During.{During}
use Rattle.rig_disk.proofs.Moments.{weaker}
use Rattle.shard_model.specs.Objects.{Geometry}
use Rattle.shard_model.specs.Shards.{Shard}
use Rattle.shard_model.specs.StepBytes.{steps_bytes, IsWritable, AreSteps}
use Rattle.shard_model.specs.Steps.{Step}
use Rattle.slot_journal.specs.InUse.{Areas, text_in_use}
use Rattle.slot_journal.specs.Text.{IsText, record_bytes, records}
use Rattle.slot_journal.specs.Writing.{next_gate}
use Rattle.slot_journal.specs.Journal.{slot_of, Holds, InSlot, Makes}
use Rattle.shard_store.specs.Stories.{fresh_shard, shard_after, AreFitting, AreSpelled, AreTold, HasShard, IsBadAmong, IsBadStory, shard_head, first_steps}
use Rattle.shard_store.specs.Stored.{head_in, IsStored, MakesShard}
use Rattle.shard_store.specs.Told.{Told, IsTold, unflushed_bytes, all_told, all_flushed}
use Rattle.shard_store.specs.declared.store.Store.{Store}

head_is : (store : Store) (head : List ℕ) (slot : ℕ) (g : Geometry) (n : ℕ) → head ≡ shard_head slot g n → slot_of store.journal ≡ slot → store.n ≡ n → store.story.geometry ≡ g
    → head ≡ head_in store
head_is store head slot g n is slot_is n_is g_is =
    is ∙ ap (λ x. shard_head x g n) (sym slot_is) ∙ ap (λ (x : Geometry). shard_head (slot_of store.journal) x n) (sym g_is) ∙ ap (λ x. shard_head (slot_of store.journal) store.story.geometry x) (sym n_is)

-- all steps of a shard stand in records
all_stored : (g : Geometry) (shard : Shard) (steps : List Step) → AreFitting (fresh_shard g) steps → shard ≡ shard_after (fresh_shard g) steps → IsTold (all_told g shard) steps []
all_stored g shard steps fitting led = record {
  bytes = (tt, refl);
  fitting = subst (AreFitting (fresh_shard g)) (sym (append-nil steps)) fitting;
  shard = led ∙ ap (shard_after (fresh_shard g)) (sym (append-nil steps));
}

module _ (reads : ℕ → ℕ → Option (List ℕ)) (images : Image → List ℕ → Type 0) (store : Store) (text head : List ℕ) (g : Geometry) (slot n : ℕ)
    (is : head ≡ shard_head slot g n) (slot_is : slot_of store.journal ≡ slot) (n_is : store.n ≡ n) where
  pub loaded : (bodies : List (List ℕ)) (shard : Shard) → Holds reads images store.journal head bodies text → store.story ≡ all_told g shard
      → (steps : List Step) × AreTold g bodies steps × (shard ≡ shard_after (fresh_shard g) steps) → (steps : List Step) × IsStored reads images store text steps []
  loaded bodies shard holds story (steps, told, led) = (
    steps,
    record {
      bodies = bodies;
      holds = subst (λ h. Holds reads images store.journal h bodies text) (head_is store head slot g n is slot_is n_is (ap (λ (t : Told). t.geometry) story)) holds;
      spelled = told.spelled;
      told = subst (λ t. IsTold t steps []) (sym story) (all_stored g shard steps told.fitting led);
    },
  )

-- the story of a new store
abbrev first_told : Geometry → Bool → Told
first_told g partial = record { geometry = g; shard = shard_after (fresh_shard g) (first_steps partial); pending = steps_bytes (first_steps partial); staged = [] }

first_written : (partial : Bool) → AllByRecursion IsWritable (first_steps partial)
first_written true = (tt, tt)
first_written false = (omega arith, tt)

pub first_fitting : (g : Geometry) (partial : Bool) → AreFitting (fresh_shard g) (first_steps partial)
first_fitting g true = (refl, tt)
first_fitting g false = (refl, tt)

first_body : (g : Geometry) (partial : Bool) (t : Told) → t ≡ first_told g partial → AreSteps (unflushed_bytes t) (first_steps partial)
first_body g partial t is = (first_written partial, ap unflushed_bytes is ∙ append-nil (steps_bytes (first_steps partial)))

first_spelled : (g : Geometry) (partial : Bool) (t : Told) → t ≡ first_told g partial → AreSpelled (unflushed_bytes t ∷ []) (first_steps partial)
first_spelled g partial t is = (first_steps partial, [], first_body g partial t is, sym (append-nil (first_steps partial)), refl)

pub made : (reads : ℕ → ℕ → Option (List ℕ)) (images : Image → List ℕ → Type 0) (store : Store) (text head body : List ℕ) (g : Geometry) (slot n : ℕ) (partial : Bool) (t : Told)
    → head ≡ shard_head slot g n → slot_of store.journal ≡ slot → store.n ≡ n → t ≡ first_told g partial → body ≡ unflushed_bytes t → store.story ≡ all_flushed t
    → Holds reads images store.journal head (body ∷ []) text → IsStored reads images store text (first_steps partial) []
made reads images store text head body g slot n partial t is slot_is n_is first bytes flushed holds =
    let story : store.story ≡ all_told g (shard_after (fresh_shard g) (first_steps partial)) = flushed ∙ ap all_flushed first in
    record {
      bodies = body ∷ [];
      holds = subst (λ h. Holds reads images store.journal h (body ∷ []) text) (head_is store head slot g n is slot_is n_is (ap (λ (s : Told). s.geometry) story)) holds;
      spelled = subst (λ b. AreSpelled (b ∷ []) (first_steps partial)) (sym bytes) (first_spelled g partial t first);
      told = subst (λ s. IsTold s (first_steps partial) []) (sym story) (all_stored g (shard_after (fresh_shard g) (first_steps partial)) (first_steps partial) (first_fitting g partial) refl);
    }

module _ (g : Geometry) (partial : Bool) (t : Told) (first : t ≡ first_told g partial) (head body : List ℕ) (bytes : body ≡ unflushed_bytes t) where
  first_shard : (text : List ℕ) → IsText head (body ∷ []) (next_gate 24 body) text → HasShard g head text (first_steps partial)
  first_shard text is_text = record {
    bodies = body ∷ [];
    place = next_gate 24 body;
    is_text = is_text;
    spelled = subst (λ b. AreSpelled (b ∷ []) (first_steps partial)) (sym bytes) (first_spelled g partial t first);
    fitting = first_fitting g partial;
  }

  makes : (slot : ℕ) (reads : ℕ → Option (List ℕ)) (before after : Areas) → Makes slot reads head body before after → MakesShard slot reads g head (first_steps partial) before after
  makes slot reads before after step = record {
    texts = λ text told. ⊎_elim
        (λ (same : text_in_use slot after ≡ text_in_use slot before). inl same)
        (λ (rest : (length (text_in_use slot after) < 24) ⊎ IsText head (body ∷ []) (next_gate 24 body) (text_in_use slot after)). ⊎_elim
        (λ (none : length (text_in_use slot after) < 24). inr (inl none))
        (λ (new : IsText head (body ∷ []) (next_gate 24 body) (text_in_use slot after)). inr (inr (first_shard (text_in_use slot after) new)))
        rest)
        (step.texts text told);
  }

  module _ {R : Type 0} (clock : R → ℕ) (images : R → ℕ → Image → List ℕ → Type 0) (old new : R) (reads : ℕ → Option (List ℕ)) (slot : ℕ) where
    abbrev Now : Image → List ℕ → Type 0
    Now image said = images old (clock old) image said

    pub make_moments : (wanted : List ℕ) → head ≡ wanted → During clock images old new (InSlot Now slot (Makes slot reads head body))
        → During clock images old new (InSlot Now slot (MakesShard slot reads g wanted (first_steps partial)))
    make_moments wanted is run = subst (λ h. During clock images old new (InSlot Now slot (MakesShard slot reads g h (first_steps partial)))) is
        (weaker clock images old new (InSlot Now slot (Makes slot reads head body)) (InSlot Now slot (MakesShard slot reads g head (first_steps partial))) run
        (λ image said one. record {
          source = one.source;
          was = one.was;
          others = one.others;
          stepped = makes slot reads (one.source slot) (image slot) one.stepped;
        }))

-- a record begins before the closed gate
records_front : (front : List (List ℕ)) (body : List ℕ) (back : List (List ℕ)) → length (records front) ≤ length (records (front ++ body ∷ back))
records_front [] body back = omega arith
records_front (b ∷ front) body back =
    omega (arith, length-append (record_bytes b) (records front), length-append (record_bytes b) (records (front ++ body ∷ back)), records_front front body back)

-- a body that adds nothing is one of the text's
pub bad_story : (g : Geometry) (head wanted text : List ℕ) (bodies : List (List ℕ)) (place at : ℕ) → head ≡ wanted → IsText head bodies place text → place < 2 ^ 64
    → IsBadAmong g bodies at → IsBadStory g wanted text at
bad_story g head wanted text bodies place at is is_text small bad =
    subst (λ h. IsBadStory g h text at) is (record {
      front = bad.front;
      body = bad.body;
      back = bad.back;
      place = place;
      steps = bad.steps;
      is_text = subst (λ bs. IsText head bs place text) bad.parts is_text;
      spelled = bad.told.spelled;
      fitting = bad.told.fitting;
      at_is = omega (arith, bad.at_is, small, is_text.at, is_text.is_header.long, length-append is_text.header (records bodies), records_front bad.front bad.body bad.back, ap (λ bs. length (records bs)) bad.parts);
      bad = bad.bad;
    })
