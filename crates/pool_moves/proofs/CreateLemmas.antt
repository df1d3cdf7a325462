-- The instants of the making of a pool: its shards are made first, and its map last.
use Rattle.std.proofs.Common.{◌≡◌, ◌≢◌, ◌<◌, inl, inr, ⊎_elim, ◌≤◌, nat_lt, if◌then◌else◌, ℕ, Bool, true, false, List, Option, Some, None, sym, ap, subst, arith}
use Rattle.std.proofs.lemmas.Bool.Decides.{nat_tests}
use Rattle.ec_code.specs.declared.profile.Profile.{Profile}
use Rattle.rig_disk.specs.Disk.{Image}
use Rattle.rig_disk.specs.During.{During}
use Rattle.rig_disk.proofs.Moments.{weaker}
use Rattle.shard_model.specs.Replays.{Replay, replay_of}
use Rattle.shard_store.specs.Stories.{HasShard, shard_head, first_steps}
use Rattle.slot_journal.specs.InUse.{text_in_use, told_text}
use Rattle.slot_journal.specs.Journal.{InSlot}
use Rattle.pool_map.specs.Maps.{PoolImage, HasMap, IsNoPool}
use Rattle.pool_map.specs.Pool.{IsNewMap, MakesMap}
use Rattle.pool_moves.specs.Contents.{Layout, SlotHasShard}
use Rattle.pool_moves.specs.Creating.{IsCreated, HasNoneOrFirst}
use Rattle.pool_moves.proofs.ContentLemmas.{below_16, same_text}

is_below : (u n : ℕ) → u < n → nat_lt u n ≡ true
is_below u n below = grind (arith, nat_tests, below)

is_past : (u n : ℕ) → n ≤ u → nat_lt u n ≡ false
is_past u n past = grind (arith, nat_tests, past)

-- a choice by the place
chosen_below : {X : Type 0} (u n : ℕ) (x y : X) → u < n → (if nat_lt u n then x else y) ≡ x
chosen_below u n x y below = ap (λ (b : Bool). if b then x else y) (is_below u n below)

chosen_past : {X : Type 0} (u n : ℕ) (x y : X) → n ≤ u → (if nat_lt u n then x else y) ≡ y
chosen_past u n x y past = ap (λ (b : Bool). if b then x else y) (is_past u n past)

-- an image whose map is a new one, and whose shards are those of an image in which they were made
pub created : (l : Layout) → l.n < 17 → (p : Profile) (k : ℕ) (source image : Image) (m : PoolImage) (first : Replay) → replay_of l.geometry (first_steps false) ≡ Some first
    → IsNewMap m p k l.n → HasMap (image 16) m → ((s : ℕ) → s ≢ 16 → (a : ℕ) → image s a ≡ source s a)
    → ((u : ℕ) → u < l.n → HasShard l.geometry (shard_head u l.geometry l.n) (text_in_use u (source u)) (first_steps false)) → IsCreated l p k image
created l few p k source image m first led new_map has_map others shards = record {
  contents = record { map = m; shards = λ u. if nat_lt u l.n then Some first else None };
  has = record {
    map = has_map;
    same_n = ap (λ (x : PoolImage). x.n) new_map.is;
    shards = λ u below. subst (λ s. SlotHasShard l image u s) (sym (chosen_below u l.n (Some first) None below)) (record {
      steps = first_steps false;
      has = subst (λ t. HasShard l.geometry (shard_head u l.geometry l.n) t (first_steps false)) (sym (same_text u (image u) (source u) (others u (λ e. below_16 u l.n e below few))))
          (shards u below);
      led = led;
    });
  };
  is_first = record {
    map = new_map;
    none = λ u past. chosen_past u l.n (Some first) None past;
    shards = λ u below. (first, chosen_below u l.n (Some first) None below, led);
  };
}

module _ {R : Type 0} (clock : R → ℕ) (images : R → ℕ → Image → List ℕ → Type 0) (l : Layout) (few : l.n < 17) (p : Profile) (k : ℕ) (old new : R)
    (none : (image : Image) (said : List ℕ) → images old (clock old) image said → IsNoPool (text_in_use 16 (image 16))) where
  -- the making of the map leaves no pool, or the whole one
  pub map_made : (reads : ℕ → Option (List ℕ)) (text : List ℕ) → told_text 16 reads ≡ Some text → (first : Replay) → replay_of l.geometry (first_steps false) ≡ Some first
      → ((image : Image) (said : List ℕ) → images old (clock old) image said → (u : ℕ) → u < l.n
      → HasShard l.geometry (shard_head u l.geometry l.n) (text_in_use u (image u)) (first_steps false))
      → During clock images old new (InSlot (images old (clock old)) 16 (MakesMap reads p k l.n)) → During clock images old new (λ image said. HasNoneOrFirst l p k image)
  map_made reads text told first led shards run = weaker clock images old new (InSlot (images old (clock old)) 16 (MakesMap reads p k l.n)) (λ image said. HasNoneOrFirst l p k image) run
      (λ image said one. ⊎_elim
      (λ same. inl (subst (λ t. IsNoPool t) (sym same) (none one.source said one.was)))
      (λ more. ⊎_elim
      (λ short. inl short)
      (λ made. inr (created l few p k one.source image made.0 first led made.1.0 made.1.1 one.others (shards one.source said one.was))) more)
      (one.stepped.texts text told))
