-- How far the making of a pool's slots has come. Source: this project.
use Rattle.std.specs.Prelude.{◌≡◌, ◌<◌, ◌≤◌, ℕ, false, List, Option, Some}
use Rattle.rig_disk.specs.Disk.{Image}
use Rattle.rig_disk.specs.During.{During}
use Rattle.shard_store.specs.Stories.{HasShard, shard_head, first_steps}
use Rattle.slot_journal.specs.InUse.{text_in_use, told_text}
use Rattle.pool_map.specs.Maps.{IsNoPool, map_slot}
use Rattle.pool_moves.specs.Contents.{Layout}

-- the slots below p were placed, and no image was changed
pub record ArePlaced {R : Type 0} (is_here : R → ℕ → Type 0) (reads_of : R → ℕ → ℕ → Option (List ℕ)) (clock_of : R → ℕ)
    (images_of : R → ℕ → Image → List ℕ → Type 0) (faults_of : R → ℕ → ℕ) (old now : R) (p : ℕ) : Type 0 where
  pub placed : (q : ℕ) → q < p → is_here now q
  pub stays : (s : ℕ) → is_here old s → is_here now s
  pub reads : (s a : ℕ) → reads_of now s a ≡ reads_of old s a
  pub faults : (s : ℕ) → faults_of now s ≡ faults_of old s
  pub moments : During clock_of images_of old now (λ image said. images_of old (clock_of old) image said)

-- the rig tells each slot of a pool, that of the map too
abbrev pub AllAreTold : (ℕ → ℕ → Option (List ℕ)) → Type 0
AllAreTold reads = (s : ℕ) → s < 17 → (text : List ℕ) × (told_text s (reads s) ≡ Some text)

-- in these images there is no pool
abbrev pub HaveNoPool : (Image → List ℕ → Type 0) → Type 0
HaveNoPool images = (image : Image) (said : List ℕ) → images image said → IsNoPool (text_in_use map_slot (image map_slot))

-- the shards of the slots below p were made, and there is no pool since
pub record AreMade {R : Type 0} (l : Layout) (is_here : R → ℕ → Type 0) (reads_of : R → ℕ → ℕ → Option (List ℕ)) (clock_of : R → ℕ)
    (images_of : R → ℕ → Image → List ℕ → Type 0) (faults_of : R → ℕ → ℕ) (old now : R) (p : ℕ) : Type 0 where
  pub stays : (s : ℕ) → is_here old s → is_here now s
  pub reads : (s a : ℕ) → p ≤ s → reads_of now s a ≡ reads_of old s a
  pub faults : (s : ℕ) → faults_of now s ≡ faults_of old s
  pub shards : (q : ℕ) → q < p → (text : List ℕ) → told_text q (reads_of old q) ≡ Some text → (image : Image) (said : List ℕ)
      → images_of now (clock_of now) image said
      → HasShard l.geometry (shard_head q l.geometry l.n) (text_in_use q (image q)) (first_steps false)
  pub moments : HaveNoPool (images_of old (clock_of old))
      → During clock_of images_of old now (λ image said. IsNoPool (text_in_use map_slot (image map_slot)))
