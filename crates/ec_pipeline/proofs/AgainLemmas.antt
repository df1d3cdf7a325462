-- After an update the slots may be worked on again.
use Rattle.std.proofs.Common.{◌≡◌, ℕ, List, inl, inr, arith, refl, sym, ap, ◌∙◌, subst, Option, Some, None}
use Rattle.std.specs.Prelude.{◌++◌, IfSome}
use Rattle.std.specs.Int.{bit_at}
use Rattle.std.proofs.lemmas.Bool.{cases_eq, cases_lt}
use Rattle.rig_disk.specs.Disk.{Image}
use Rattle.shard_model.specs.Steps.{Step}
use Rattle.slot_journal.specs.Journal.{is_spent, slot_of}
use Rattle.shard_store.specs.OnSlot.{ChangesAt, MayFlush}
use Rattle.shard_store.specs.Shelved.{Shelved}
use Rattle.shard_store.specs.Shelves.{store_at, KeepsStores}
use Rattle.shard_store.specs.Stored.{told_in}
use Rattle.shard_store.specs.Told.{Told, IsAccepted, IsTold, with_step}
use Rattle.shard_store.specs.declared.store.Store.{Store}
use Rattle.shard_store.proofs.StayLemmas.{rest_kept, telling}
use Rattle.ec_pipeline.specs.Reading.{HasSteps, OnlyFetches}
use Rattle.ec_pipeline.specs.Shelving.{AreTold, BecomesAt, TellsOn}
use Rattle.ec_pipeline.proofs.ReadLemmas.{idle_over, steps_over}

-- ---- what was told

pub tells_itself : (o : Option Store) → TellsOn o o
tells_itself None = refl
tells_itself (Some store) = λ flushed pending told. (pending, told)

pub tells_same : (o n : Option Store) → n ≡ o → TellsOn o n
tells_same o n is = subst (TellsOn o) (sym is) (tells_itself o)

pub tells_then : (o m n : Option Store) → TellsOn o m → TellsOn m n → TellsOn o n
tells_then None m n one two = subst (λ (x : Option Store). TellsOn x n) one two
tells_then (Some s) None n one two = absurd one
tells_then (Some s) (Some t) None one two = absurd two
tells_then (Some s) (Some t) (Some u) one two = λ flushed pending told. let first = one flushed pending told in two flushed first.0 first.1

pub tells_staged : (step : Step) (o n : Option Store) → BecomesAt (λ t. with_step t step) o n → TellsOn o n
tells_staged step None n is = is
tells_staged step (Some s) None is = absurd is
tells_staged step (Some s) (Some t) is = λ flushed pending told.
    (pending, subst (λ (x : Told). IsTold x flushed pending) (sym is.story) (record { bytes = told.bytes; fitting = told.fitting; shard = told.shard }))

pub tells_kept : (o n : Option Store) → BecomesAt (λ t. t) o n → TellsOn o n
tells_kept None n is = is
tells_kept (Some s) None is = absurd is
tells_kept (Some s) (Some t) is = λ flushed pending told. (pending, subst (λ (x : Told). IsTold x flushed pending) (sym is.story) told)

pub tells_accepted : (o n : Option Store)
    → ChangesAt (λ before now. (flushed pending : List Step) → IsTold (told_in before) flushed pending → IsTold (told_in now) flushed (pending ++ (told_in before).staged)) o n → TellsOn o n
tells_accepted None n is = is
tells_accepted (Some s) None is = absurd is
tells_accepted (Some s) (Some t) is = λ flushed pending told. (pending ++ (told_in s).staged, is flushed pending told)

-- one slot more was told something
pub tells_more : (old mid new : Shelved) (slot s : ℕ) → TellsOn (store_at old s) (store_at mid s) → TellsOn (store_at mid slot) (store_at new slot) → KeepsStores mid new slot
    → TellsOn (store_at old s) (store_at new s)
tells_more old mid new slot s so_far one keeps = elim (cases_eq s slot) [
  | inl e ↦ tells_then (store_at old s) (store_at mid s) (store_at new s) so_far (subst (λ q. TellsOn (store_at mid q) (store_at new q)) (sym e) one)
  | inr ne ↦ tells_then (store_at old s) (store_at mid s) (store_at new s) so_far (tells_same (store_at mid s) (store_at new s) (keeps.stores s ne))
]

-- each slot of a set was told a step
pub tells_told : (step : ℕ → Step) (set : ℕ) (old new : Shelved) → AreTold (λ s t. with_step t (step s)) set 16 old new → (s : ℕ) → TellsOn (store_at old s) (store_at new s)
tells_told step set old new told s = elim (cases_lt s 16) [
  | inr past ↦ tells_same (store_at old s) (store_at new s) (told.outside s (λ lt _. omega (arith, lt, past)))
  | inl below ↦ elim (cases_eq (bit_at set s) 1) [
    | inl has ↦ tells_staged (step s) (store_at old s) (store_at new s) (told.inside s below has)
    | inr lacks ↦ tells_same (store_at old s) (store_at new s) (told.outside s (λ _ has. lacks has))
  ]
]

-- ---- what may be done

module _ {R : Type 0} (is_here : R → ℕ → Type 0) (reads_of : R → ℕ → ℕ → Option (List ℕ)) (said_of : R → Option (List ℕ)) (clock_of : R → ℕ)
    (images_of : R → ℕ → Image → List ℕ → Type 0) (faults_of : R → ℕ → ℕ) (syncs_of written_of read_of : R → ℕ → Option ℕ) where
  pub idle_again : (old new : R) (slot : ℕ) (f : Told → Told) (o n : Option Store) → OnlyFetches is_here reads_of said_of clock_of images_of syncs_of written_of old new
      → ((t : Told) → IsAccepted t → IsAccepted (f t)) → BecomesAt f o n
      → IfSome o (MayFlush (is_here old) (reads_of old) (images_of old (clock_of old)) slot) → IfSome n (MayFlush (is_here new) (reads_of new) (images_of new (clock_of new)) slot)
  idle_again old new slot f None n only keeps is may =
      subst (λ (x : Option Store). IfSome x (MayFlush (is_here new) (reads_of new) (images_of new (clock_of new)) slot)) (sym is) tt
  idle_again old new slot f (Some s) None only keeps is may = absurd is
  idle_again old new slot f (Some s) (Some t) only keeps is may =
      let over = idle_over is_here reads_of said_of clock_of images_of faults_of syncs_of written_of read_of old new slot (Some s) only may in
      record {
        own = ap slot_of is.journal ∙ over.own;
        here = over.here;
        accepted = subst IsAccepted (sym is.story) (keeps (told_in s) over.accepted);
        settled = λ free. rest_kept reads_of clock_of images_of new s t is.journal (over.settled (λ stuck. free (ap is_spent is.journal ∙ stuck)));
      }

  pub steps_again : (old new : R) (f : Told → Told) (o n : Option Store) → OnlyFetches is_here reads_of said_of clock_of images_of syncs_of written_of old new
      → ((t : Told) → (f t).geometry ≡ t.geometry) → BecomesAt f o n → TellsOn o n
      → IfSome o (HasSteps (reads_of old) (images_of old (clock_of old))) → IfSome n (HasSteps (reads_of new) (images_of new (clock_of new)))
  steps_again old new f None n only keeps is tells has =
      subst (λ (x : Option Store). IfSome x (HasSteps (reads_of new) (images_of new (clock_of new)))) (sym is) tt
  steps_again old new f (Some s) None only keeps is tells has = absurd is
  steps_again old new f (Some s) (Some t) only keeps is tells has =
      let over = steps_over is_here reads_of said_of clock_of images_of faults_of syncs_of written_of read_of old new (Some s) only has in
      let more = tells over.flushed over.pending over.stored.told in
      record {
        text = over.text;
        flushed = over.flushed;
        pending = more.0;
        stored = telling reads_of clock_of images_of new s t over.text over.flushed over.pending more.0 is.journal is.n
            (ap (λ (x : Told). x.geometry) is.story ∙ keeps (told_in s)) more.1 over.stored;
      }
