-- One slot more of a new pool.
use Rattle.std.proofs.Common.{◌≡◌, ◌≢◌, ◌<◌, ◌+◌, inl, inr, ℕ, false, [], List, Option, Some, refl, sym, ap, subst, ◌∙◌, arith}
use Rattle.std.proofs.lemmas.Bool.{cases_eq}
use Rattle.rig_disk.specs.Disk.{Image}
use Rattle.rig_disk.specs.During.{During}
use Rattle.rig_disk.proofs.Moments.{started, weaker, goes_on, at_end}
use Rattle.ec_code.specs.declared.profile.Profile.{Profile}
use Rattle.shard_model.specs.Objects.{Geometry}
use Rattle.shard_model.specs.Replays.{fresh_replay, replay_after}
use Rattle.shard_model.specs.Steps.{Control, Started}
use Rattle.shard_store.specs.Stories.{HasShard, shard_head, first_steps}
use Rattle.shard_store.specs.Stored.{told_in, slot_in, head_in, IsNew, IsStored}
use Rattle.shard_store.specs.declared.store.Store.{Store}
use Rattle.slot_journal.specs.InUse.{Areas, text_in_use, told_text}
use Rattle.slot_journal.specs.Journal.{InSlot}
use Rattle.pool_map.specs.Maps.{IsNoPool}
use Rattle.pool_moves.specs.Contents.{Layout}
use Rattle.pool_map.specs.Calls.{IsMade}
use Rattle.pool_map.specs.Pool.{MakesMap, map_of}
use Rattle.pool_map.specs.declared.map.PoolMap.{PoolMap}
use Rattle.pool_moves.specs.Creating.{IsCreated, HasNoneOrFirst}
use Rattle.pool_moves.specs.Making.{ArePlaced, AreMade, AllAreTold, HaveNoPool}
use Rattle.pool_moves.proofs.ContentLemmas.{same_text, same_told}
use Rattle.pool_moves.proofs.CreateLemmas.{created, map_made}
use Rattle.pool_moves.proofs.HeldLemmas.{has_flushed, has_map}

-- one count is as it was, and so is each other one
pub same_counts : (now before : ℕ → ℕ) (slot : ℕ) → now slot ≡ before slot → ((s : ℕ) → s ≢ slot → now s ≡ before s) → (s : ℕ) → now s ≡ before s
same_counts now before slot own others s = elim (cases_eq s slot) [
  | inl e ↦ rw e own
  | inr ne ↦ others s ne
]

-- the shard of a new store, by the slot's own numbers
own_shard : (store : Store) (p : ℕ) (g : Geometry) (n : ℕ) (image : Image) → IsNew store p g n
    → HasShard (told_in store).geometry (head_in store) (text_in_use (slot_in store) (image (slot_in store))) (first_steps false)
    → HasShard g (shard_head p g n) (text_in_use p (image p)) (first_steps false)
own_shard store p g n image fresh has =
    let head : head_in store ≡ shard_head p g n =
    ap (λ s. shard_head s (told_in store).geometry store.n) fresh.slot_is ∙ (ap (λ (x : Geometry). shard_head p x store.n) fresh.geometry_is ∙ ap (λ m. shard_head p g m) fresh.n_is) in
    subst (λ (x : Geometry). HasShard x (shard_head p g n) (text_in_use p (image p)) (first_steps false)) fresh.geometry_is
    (subst (λ h. HasShard (told_in store).geometry h (text_in_use p (image p)) (first_steps false)) head
    (subst (λ s. HasShard (told_in store).geometry (head_in store) (text_in_use s (image s)) (first_steps false)) fresh.slot_is has))

module _ {R : Type 0} (is_here : R → ℕ → Type 0) (reads_of : R → ℕ → ℕ → Option (List ℕ)) (clock_of : R → ℕ) (images_of : R → ℕ → Image → List ℕ → Type 0)
    (faults_of : R → ℕ → ℕ) (old : R) where
  abbrev Placed : R → ℕ → Type 0
  Placed now p = ArePlaced is_here reads_of clock_of images_of faults_of old now p

  pub placed_none : Placed old 0
  placed_none = record {
    placed = λ q below. absurd (omega (arith, below));
    stays = λ s h. h;
    reads = λ s a. refl;
    faults = λ s. refl;
    moments = started clock_of images_of old (λ image said. images_of old (clock_of old) image said) (λ image said now. now);
  }

  module _ (now next : R) (p : ℕ) (f : Placed now p) (run : During clock_of images_of now next (λ image said. images_of now (clock_of now) image said)) where
    pub placed_run : During clock_of images_of old next (λ image said. images_of old (clock_of old) image said)
    placed_run = goes_on clock_of images_of old now next (λ image said. images_of old (clock_of old) image said) (λ image said. images_of now (clock_of now) image said) f.moments run
        (λ image said was. at_end clock_of images_of old now (λ image said. images_of old (clock_of old) image said) f.moments image said was)

    pub placed_on : is_here next p → ((s : ℕ) → is_here now s → is_here next s) → ((s a : ℕ) → reads_of next s a ≡ reads_of now s a)
        → faults_of next p ≡ faults_of now p → ((s : ℕ) → s ≢ p → faults_of next s ≡ faults_of now s) → Placed next (p + 1)
    placed_on here stays reads own others = record {
      placed = λ q below. elim (cases_eq q p) [
        | inl e ↦ rw e here
        | inr ne ↦ stays q (f.placed q (omega (arith, below, ne)))
      ];
      stays = λ s h. stays s (f.stays s h);
      reads = λ s a. reads s a ∙ f.reads s a;
      faults = λ s. same_counts (faults_of next) (faults_of now) p own others s ∙ f.faults s;
      moments = placed_run;
    }

  module _ (l : Layout) where
    abbrev Made : R → ℕ → Type 0
    Made now p = AreMade l is_here reads_of clock_of images_of faults_of old now p

    pub made_none : Made old 0
    made_none = record {
      stays = λ s h. h;
      reads = λ s a le. refl;
      faults = λ s. refl;
      shards = λ q below. absurd (omega (arith, below));
      moments = λ none. started clock_of images_of old (λ image said. IsNoPool (text_in_use 16 (image 16))) none;
    }

    module _ (now next : R) (p : ℕ) (below_16 : p < 16) (Step : Areas → Areas → Type 0) (f : Made now p)
        (run : During clock_of images_of now next (InSlot (images_of now (clock_of now)) p Step)) where
      pub made_run : HaveNoPool (images_of old (clock_of old)) → During clock_of images_of old next (λ image said. IsNoPool (text_in_use 16 (image 16)))
      made_run none = goes_on clock_of images_of old now next (λ image said. IsNoPool (text_in_use 16 (image 16))) (InSlot (images_of now (clock_of now)) p Step) (f.moments none) run
          (λ image said one. subst (λ t. IsNoPool t) (sym (same_text 16 (image 16) (one.source 16) (one.others 16 (λ e. far e))))
          (at_end clock_of images_of old now (λ image said. IsNoPool (text_in_use 16 (image 16))) (f.moments none) one.source said one.was))
        where
          far : 16 ≡ p → ⊥
          far e = omega (arith, e, below_16)

      pub made_on : (store : Store) → IsNew store p l.geometry l.n
          → ((text : List ℕ) → told_text p (reads_of now p) ≡ Some text
          → (after : List ℕ) × IsStored (reads_of next) (images_of next (clock_of next)) store after (first_steps false) [])
          → ((s : ℕ) → is_here now s → is_here next s) → ((s a : ℕ) → s ≢ p → reads_of next s a ≡ reads_of now s a)
          → faults_of next p ≡ faults_of now p → ((s : ℕ) → s ≢ p → faults_of next s ≡ faults_of now s) → Made next (p + 1)
      made_on store fresh stored stays reads own others = record {
        stays = λ s h. stays s (f.stays s h);
        reads = λ s a le. reads s a (λ e. omega (arith, e, le)) ∙ f.reads s a (omega (arith, le));
        faults = λ s. same_counts (faults_of next) (faults_of now) p own others s ∙ f.faults s;
        shards = λ q below text told image said there. elim (cases_eq q p) [
          | inl e ↦
              let same : told_text p (reads_of now p) ≡ Some text = same_told p (reads_of now p) (reads_of old p) (λ a. f.reads p a (omega arith)) ∙ (ap (λ s. told_text s (reads_of old s)) (sym e) ∙ told) in
              let is = stored text same in
              subst (λ s. HasShard l.geometry (shard_head s l.geometry l.n) (text_in_use s (image s)) (first_steps false)) (sym e)
              (own_shard store p l.geometry l.n image fresh (has_flushed (reads_of next) (images_of next (clock_of next)) store is.0 (first_steps false) image said is.1 there))
          | inr ne ↦
              let one = at_end clock_of images_of now next (InSlot (images_of now (clock_of now)) p Step) run image said there in
              subst (λ t. HasShard l.geometry (shard_head q l.geometry l.n) t (first_steps false)) (sym (same_text q (image q) (one.source q) (one.others q ne)))
              (f.shards q (omega (arith, below, ne)) text told one.source said one.was)
        ];
        moments = made_run;
      }

-- ---- the stages

module _ {R : Type 0} (is_here : R → ℕ → Type 0) (reads_of : R → ℕ → ℕ → Option (List ℕ)) (clock_of : R → ℕ) (images_of : R → ℕ → Image → List ℕ → Type 0)
    (faults_of : R → ℕ → ℕ) (old : R) where
  -- the map is made behind the shards
  pub filled : (l : Layout) → l.n < 17 → (p : Profile) (k : ℕ) (mid new : R) → Made is_here reads_of clock_of images_of faults_of old l mid l.n
      → AllAreTold (reads_of old) → HaveNoPool (images_of old (clock_of old))
      → During clock_of images_of mid new (InSlot (images_of mid (clock_of mid)) 16 (MakesMap (reads_of mid 16) p k l.n))
      → During clock_of images_of old new (λ image said. HasNoneOrFirst l p k image)
  filled l few p k mid new f told none run =
      let none_then = at_end clock_of images_of old mid (λ image said. IsNoPool (text_in_use 16 (image 16))) (f.moments none) in
      let text = told 16 (omega arith) in
      goes_on clock_of images_of old mid new (λ image said. HasNoneOrFirst l p k image) (λ image said. HasNoneOrFirst l p k image)
      (weaker clock_of images_of old mid (λ image said. IsNoPool (text_in_use 16 (image 16))) (λ image said. HasNoneOrFirst l p k image) (f.moments none) (λ image said no_pool. inl no_pool))
      (map_made clock_of images_of l few p k mid new none_then (reads_of mid 16) text.0 (same_told 16 (reads_of mid 16) (reads_of old 16) (λ a. f.reads 16 a (omega (arith, few))) ∙ text.1)
      (replay_after l.geometry fresh_replay (Control (Started 1))) refl
      (λ image said there u below. let its = told u (omega (arith, below, few)) in f.shards u below its.0 its.1 image said there) run)
      (λ image said is. is)

  -- and once it is made, each image of now has the whole pool
  pub filled_whole : (l : Layout) → l.n < 17 → (p : Profile) (k : ℕ) (mid new : R) → Made is_here reads_of clock_of images_of faults_of old l mid l.n
      → AllAreTold (reads_of old) → (map : PoolMap) → IsMade reads_of clock_of images_of p k l.n mid new map
      → During clock_of images_of mid new (InSlot (images_of mid (clock_of mid)) 16 (MakesMap (reads_of mid 16) p k l.n))
      → (image : Image) (said : List ℕ) → images_of new (clock_of new) image said → IsCreated l p k image
  filled_whole l few p k mid new f told map made run image said now =
      let text = told 16 (omega arith) in
      let held = made.held text.0 (same_told 16 (reads_of mid 16) (reads_of old 16) (λ a. f.reads 16 a (omega (arith, few))) ∙ text.1) in
      let one = at_end clock_of images_of mid new (InSlot (images_of mid (clock_of mid)) 16 (MakesMap (reads_of mid 16) p k l.n)) run image said now in
      created l few p k one.source image (map_of map) (replay_after l.geometry fresh_replay (Control (Started 1))) refl made.is_new
      (has_map (reads_of new) (images_of new (clock_of new)) map held.0 held.1 image said now) one.others
      (λ u below. let its = told u (omega (arith, below, few)) in f.shards u below its.0 its.1 one.source said one.was)
