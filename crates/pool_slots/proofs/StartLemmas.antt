-- Steps that are accepted and flushed are a record more on the slot.
use Rattle.std.proofs.Common.{◌≡◌, ◌≤◌, inl, inr, ⊎_elim, ◌++◌, ◌∷◌, [], ℕ, Bool, true, false, if◌then◌else◌, List, length, Option, Some, append_assoc, refl, sym, ap, subst, ◌∙◌, arith, length-append}
use Rattle.std.proofs.lemmas.Bool.{false≢true}
use Rattle.ec_model.specs.Versions.{Version, is_same}
use Rattle.rig_disk.specs.Disk.{Image}
use Rattle.rig_disk.specs.During.{During}
use Rattle.rig_disk.proofs.Moments.{started, weaker}
use Rattle.shard_model.specs.StepBytes.{step_bytes, steps_bytes}
use Rattle.shard_model.specs.Steps.{Step, Control, Back, Started}
use Rattle.shard_model.proofs.LengthLemmas.{control_long}
use Rattle.slot_journal.specs.InUse.{Areas, text_in_use}
use Rattle.slot_journal.specs.Journal.{InSlot, Holds, slot_of, area_of, gate_of, room_of, is_spent}
use Rattle.slot_journal.specs.Text.{IsText}
use Rattle.slot_journal.specs.declared.journal.Journal.{Journal}
use Rattle.shard_store.specs.Stories.{HasShard, shard_head, fresh_shard, shard_after}
use Rattle.shard_store.specs.Stored.{slot_in, head_in, told_in, is_stuck, room_in, IsStored, Flushes, Becomes, IsAtRest}
use Rattle.shard_store.specs.Told.{Told, IsTold, all_accepted, all_flushed, none_staged, with_step, unflushed_bytes}
use Rattle.shard_store.specs.declared.store.Store.{Store}
use Rattle.shard_store.proofs.StoryLemmas.{fitting_front}
use Rattle.pool_slots.specs.Slots.{AddsRecord, HasRecord, IsIdle, start_steps, with_staged}

-- a store with these steps accepted besides
module _ (s t : Store) (steps : List Step) (same : Becomes s t (all_accepted (with_staged (told_in s) steps))) where
  same_head : head_in t ≡ head_in s
  same_head = ap (λ (j : Journal). shard_head (slot_of j) t.story.geometry t.n) same.journal
      ∙ ap (λ (x : Told). shard_head (slot_of s.journal) x.geometry t.n) same.story ∙ ap (λ n. shard_head (slot_of s.journal) s.story.geometry n) same.n

  to_old : (later : List ℕ) (xs : List Step) → HasShard t.story.geometry (head_in t) later xs → HasShard s.story.geometry (head_in s) later xs
  to_old later xs has = subst (λ (h : List ℕ). HasShard s.story.geometry h later xs) same_head (subst (λ (x : Told). HasShard x.geometry (head_in t) later xs) same.story has)

  same_text : (after : Areas) → text_in_use (slot_in t) after ≡ text_in_use (slot_in s) after
  same_text after = ap (λ (j : Journal). text_in_use (slot_of j) after) same.journal

  module _ (reads : ℕ → ℕ → Option (List ℕ)) (images : Image → List ℕ → Type 0) (told_on : (flushed : List Step) → IsTold s.story flushed [] → IsTold t.story flushed steps) where
    pub stored_on : (text : List ℕ) (flushed : List Step) → IsStored reads images s text flushed [] → IsStored reads images t text flushed steps
    stored_on text flushed stored = record {
      bodies = stored.bodies;
      holds = subst (λ (h : List ℕ). Holds reads images t.journal h stored.bodies text) (sym same_head)
          (subst (λ (j : Journal). Holds reads images j (head_in s) stored.bodies text) (sym same.journal) stored.holds);
      spelled = stored.spelled;
      told = told_on flushed stored.told;
    }

    adds : (before after : Areas) → Flushes reads images t before after → AddsRecord reads images s steps before after
    adds before after f = record {
      others = λ a other. f.others a (λ e. other (e ∙ ap area_of same.journal));
      shards = λ text flushed stored. ⊎_elim
          (λ one. inl (subst (λ x. HasShard s.story.geometry (head_in s) x flushed) (same_text after) (to_old (text_in_use (slot_in t) after) flushed one)))
          (λ more. inr (subst (λ x. HasShard s.story.geometry (head_in s) x (flushed ++ steps)) (same_text after) (to_old (text_in_use (slot_in t) after) (flushed ++ steps) more)))
          (f.shards text flushed steps (stored_on text flushed stored));
    }

  pub add_moments : {R : Type 0} (clock : R → ℕ) (images : R → ℕ → Image → List ℕ → Type 0) (old new : R) (reads : ℕ → ℕ → Option (List ℕ))
      → ((flushed : List Step) → IsTold s.story flushed [] → IsTold t.story flushed steps)
      → During clock images old new (InSlot (images old (clock old)) (slot_in t) (Flushes reads (images old (clock old)) t))
      → During clock images old new (InSlot (images old (clock old)) (slot_in s) (AddsRecord reads (images old (clock old)) s steps))
  add_moments clock images old new reads told_on run =
      weaker clock images old new (InSlot (images old (clock old)) (slot_in t) (Flushes reads (images old (clock old)) t))
      (InSlot (images old (clock old)) (slot_in s) (AddsRecord reads (images old (clock old)) s steps)) run
      (λ image said one. subst (λ (p : ℕ). InSlot (images old (clock old)) p (AddsRecord reads (images old (clock old)) s steps) image said) (ap slot_of same.journal) (record {
        source = one.source;
        was = one.was;
        others = one.others;
        stepped = adds reads (images old (clock old)) told_on (one.source (slot_in t)) (image (slot_in t)) one.stepped;
      }))

-- a store that is as it was, over a rig that is as it was
pub no_moments : {R : Type 0} (clock : R → ℕ) (images : R → ℕ → Image → List ℕ → Type 0) (rig : R) (reads : ℕ → ℕ → Option (List ℕ)) (s : Store) (steps : List Step)
    → During clock images rig rig (InSlot (images rig (clock rig)) (slot_in s) (AddsRecord reads (images rig (clock rig)) s steps))
no_moments clock images rig reads s steps =
    started clock images rig (InSlot (images rig (clock rig)) (slot_in s) (AddsRecord reads (images rig (clock rig)) s steps))
    (λ image said now. record {
      source = image;
      was = now;
      others = λ p other a. refl;
      stepped = record {
        others = λ a other. refl;
        shards = λ text flushed stored. inl (record {
          bodies = stored.bodies;
          place = gate_of s.journal;
          is_text = subst (λ (x : List ℕ). IsText (head_in s) stored.bodies (gate_of s.journal) x) (sym (stored.holds.durable image said now)) stored.holds.is_text;
          spelled = stored.spelled;
          fitting = fitting_front (fresh_shard s.story.geometry) flushed [] stored.told.fitting;
        });
      };
    })

-- the steps of a start are few bytes
pub back_short : (v : Version) → length (step_bytes (Control (Back v))) ≤ 13
back_short v = control_long (Back v)

pub started_short : (epoch : ℕ) → length (step_bytes (Control (Started epoch))) ≤ 13
started_short epoch = control_long (Started epoch)

-- with nothing pending and no step staged no bytes wait for a record
pub none_waiting : (s : Store) → IsIdle s → length (unflushed_bytes (told_in s)) ≡ 0
none_waiting s idle =
    ap (λ (steps : List Step). length ((told_in s).pending ++ steps_bytes steps)) idle.accepted
    ∙ ap (λ (bytes : List ℕ). length (bytes ++ [])) idle.flushed

-- the bytes that wait once a step back is staged
pub back_waiting : (s m : Store) (v : Version) → IsIdle s → Becomes s m (with_step (told_in s) (Control (Back v))) → length (unflushed_bytes (told_in m)) ≤ 13
back_waiting s m v idle p =
    let x = Control (Back v) in
    let same : length (unflushed_bytes (told_in m)) ≡ length (step_bytes x ++ []) =
    ap (λ (t : Told). length (unflushed_bytes t)) p.story
    ∙ ap (λ (l : List Step). length ((told_in s).pending ++ steps_bytes (l ++ x ∷ []))) idle.accepted
    ∙ ap (λ (bytes : List ℕ). length (bytes ++ steps_bytes (x ∷ []))) idle.flushed in
    omega (arith, same, length-append (step_bytes x) [], back_short v)

pub same_room : (s m : Store) (t : Told) → Becomes s m t → room_in m ≡ room_in s
same_room s m t p = ap room_of p.journal

-- one change of a store after another
becomes_on : (a b c : Store) (t u : Told) → Becomes a b t → Becomes b c u → Becomes a c u
becomes_on a b c t u p q = record { journal = q.journal ∙ p.journal; n = q.n ∙ p.n; story = q.story }

becomes_as : (a b : Store) (t u : Told) → t ≡ u → Becomes a b t → Becomes a b u
becomes_as a b t u same p = record { journal = p.journal; n = p.n; story = p.story ∙ same }

-- the steps of a start, by whether the head is the base
pub start_alone : (epoch : ℕ) (base head : Version) → is_same head base ≡ true → start_steps epoch base head ≡ Control (Started epoch) ∷ []
start_alone epoch base head is = ap (λ (b : Bool). if b then Control (Started epoch) ∷ [] else Control (Back base) ∷ Control (Started epoch) ∷ []) is

pub start_back : (epoch : ℕ) (base head : Version) → is_same head base ≡ false → start_steps epoch base head ≡ Control (Back base) ∷ Control (Started epoch) ∷ []
start_back epoch base head is = ap (λ (b : Bool). if b then Control (Started epoch) ∷ [] else Control (Back base) ∷ Control (Started epoch) ∷ []) is

pub one_staged : (a b : Store) (x : Step) (steps : List Step) → steps ≡ x ∷ [] → Becomes a b (with_step (told_in a) x) → Becomes a b (with_staged (told_in a) steps)
one_staged a b x steps is p = becomes_as a b (with_step (told_in a) x) (with_staged (told_in a) steps) (ap (λ (l : List Step). with_staged (told_in a) l) (sym is)) p

pub two_staged : (a b c : Store) (x y : Step) (steps : List Step) → steps ≡ x ∷ y ∷ [] → Becomes a b (with_step (told_in a) x) → Becomes b c (with_step (told_in b) y)
    → Becomes a c (with_staged (told_in a) steps)
two_staged a b c x y steps is p q =
    becomes_as a c (with_step (told_in b) y) (with_staged (told_in a) steps)
    (ap (λ (t : Told). with_step t y) p.story ∙ ap (λ (l : List Step). record (told_in a) { staged = l }) (append_assoc (told_in a).staged (x ∷ []) (y ∷ []))
    ∙ ap (λ (l : List Step). with_staged (told_in a) l) (sym is))
    (becomes_on a b c (with_step (told_in a) x) (with_step (told_in b) y) p q)

-- a step that was staged is forgotten
pub one_forgotten : (a b c d : Store) (x : Step) → IsIdle a → Becomes a b (with_step (told_in a) x) → c ≡ b → Becomes c d (none_staged (told_in c)) → Becomes a d (told_in a)
one_forgotten a b c d x idle p same q =
    becomes_as a d (none_staged (told_in c)) (told_in a)
    (ap (λ (s : Store). none_staged (told_in s)) same ∙ ap none_staged p.story ∙ ap (λ (l : List Step). record (told_in a) { staged = l }) (sym idle.accepted))
    (becomes_on a c d (with_step (told_in a) x) (none_staged (told_in c)) (subst (λ (s : Store). Becomes a s (with_step (told_in a) x)) (sym same) p) q)

-- the steps are staged, and then accepted
module _ (s m t : Store) (steps : List Step) (idle : IsIdle s) (p : Becomes s m (with_staged (told_in s) steps)) (q : Becomes m t (all_accepted (told_in m)))
    (told : (flushed pending : List Step) → IsTold (told_in m) flushed pending → IsTold (told_in t) flushed (pending ++ (told_in m).staged)) where
  pub same_two : Becomes s t (all_accepted (with_staged (told_in s) steps))
  same_two = becomes_as s t (all_accepted (told_in m)) (all_accepted (with_staged (told_in s) steps)) (ap all_accepted p.story)
      (becomes_on s m t (with_staged (told_in s) steps) (all_accepted (told_in m)) p q)

  staged_is : (told_in m).staged ≡ steps
  staged_is = ap (λ (x : Told). x.staged) p.story ∙ ap (λ (l : List Step). l ++ steps) idle.accepted

  pub told_two : (flushed : List Step) → IsTold (told_in s) flushed [] → IsTold (told_in t) flushed steps
  told_two flushed is =
      subst (λ (l : List Step). IsTold (told_in t) flushed l) staged_is
      (told flushed [] (subst (λ (x : Told). IsTold x flushed []) (sym p.story) (record { bytes = is.bytes; fitting = is.fitting; shard = is.shard })))

  -- and then flushed
  pub has_record : (u : Store) (reads reads_then : ℕ → ℕ → Option (List ℕ)) (images images_then : Image → List ℕ → Type 0)
      → ((text : List ℕ) (flushed pending : List Step) → IsStored reads images t text flushed pending → (after : List ℕ) × IsStored reads_then images_then u after (flushed ++ pending) [])
      → ((is_stuck u → ⊥) → IsAtRest reads_then images_then u) → (is_spent t.journal ≡ false → is_spent u.journal ≡ false) → u.story ≡ all_flushed (told_in t)
      → HasRecord reads reads_then images images_then s u steps
  has_record u reads reads_then images images_then ok rest unspent is =
      let story : told_in u ≡ all_flushed (all_accepted (with_staged (told_in s) steps)) = is ∙ ap all_flushed same_two.story in
      let free : is_spent u.journal ≡ false = unspent (ap is_spent same_two.journal ∙ idle.unspent) in
      record {
        stored = λ text flushed stored. ok text flushed steps (stored_on s t steps same_two reads images told_two text flushed stored);
        at_rest = rest (λ stuck. false≢true (sym free ∙ stuck));
        idle = record {
          accepted = ap (λ (x : Told). x.staged) story;
          flushed = ap (λ (x : Told). x.pending) story;
          unspent = free;
        };
        shard = ap (λ (x : Told). x.shard) story ∙ ap (λ (l : List Step). shard_after (told_in s).shard (l ++ steps)) idle.accepted;
      }

pub some_same : (a b : Store) → ◌≡◌ {A = Option Store} (Some a) (Some b) → a ≡ b
some_same a b e = cc
