-- Which slots may lose their stores. Source: this project.
use Rattle.std.specs.Prelude.{◌≡◌, ◌⊎◌, ◌<◌, ℕ, true, is_some}
use Rattle.rig_disk.specs.Faults.{Rose}
use Rattle.shard_store.specs.Shelved.{Shelved}
use Rattle.shard_store.specs.Shelves.{store_at}

-- the slots that have a store are the same
abbrev pub HaveSameSlots : Shelved → Shelved → Type 0
HaveSameSlots shelf later = (p : ℕ) → is_some (store_at later p) ≡ is_some (store_at shelf p)

-- the count of faults of each slot is as it was or rose, and a slot lost its store only if its count rose
pub record LosesFailed (before now : ℕ → ℕ) (shelf later : Shelved) : Type 0 where
  pub counts : (p : ℕ) → p < 16 → (now p ≡ before p) ⊎ Rose (before p) (now p)
  pub lost : (p : ℕ) → p < 16 → is_some (store_at shelf p) ≡ true
      → (is_some (store_at later p) ≡ true) ⊎ Rose (before p) (now p)
