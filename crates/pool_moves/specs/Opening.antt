-- How far the reading of a pool's slots has come. Source: this project.
use Rattle.std.specs.Prelude.{◌≡◌, ◌↔◌, ◌<◌, ◌≤◌, ℕ, List, Option, Some}
use Rattle.rig_disk.specs.Disk.{Image}
use Rattle.rig_disk.specs.During.{During}
use Rattle.shard_store.specs.Shelved.{Shelved}
use Rattle.slot_journal.specs.InUse.{told_text}
use Rattle.pool_map.specs.declared.map.PoolMap.{PoolMap}
use Rattle.pool_moves.specs.Contents.{Layout}
use Rattle.pool_moves.specs.Ready.{IsReady, IsHeld}

-- the rig tells each of the first slots that is here
abbrev pub AreTold : (ℕ → Type 0) → (ℕ → ℕ → Option (List ℕ)) → ℕ → Type 0
AreTold is_here reads n = (p : ℕ) → p < n → is_here p → (text : List ℕ) × (told_text p (reads p) ≡ Some text)

-- the stores of the slots below p that were read are ready, the slots from p on read as before, and no image was changed
pub record AreLoaded {R : Type 0} (l : Layout) (is_here : R → ℕ → Type 0) (reads_of : R → ℕ → ℕ → Option (List ℕ)) (clock_of : R → ℕ)
    (images_of : R → ℕ → Image → List ℕ → Type 0) (old now : R) (map : PoolMap) (shelf shelf_now : Shelved) (p : ℕ) : Type 0 where
  pub ready : IsReady l (is_here now) (reads_of now) (images_of now (clock_of now)) map shelf_now
  pub here : (s : ℕ) → is_here now s ↔ is_here old s
  pub reads : (s a : ℕ) → p ≤ s → reads_of now s a ≡ reads_of old s a
  pub held : AreTold (is_here old) (reads_of old) l.n → IsHeld (reads_of old) (images_of old (clock_of old)) map shelf
      → IsHeld (reads_of now) (images_of now (clock_of now)) map shelf_now
  pub moments : During clock_of images_of old now (λ image said. images_of old (clock_of old) image said)
