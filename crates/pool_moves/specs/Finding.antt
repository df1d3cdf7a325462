-- Which slots get a store as a pool is opened. Source: this project.
use Rattle.std.specs.Prelude.{◌≡◌, ◌⊎◌, ◌<◌, ◌≤◌, ℕ, true, List, Option, Some, None, is_some}
use Rattle.ec_model.specs.Codes.{HasPosition}
use Rattle.rig_disk.specs.Faults.{Rose}
use Rattle.slot_journal.specs.InUse.{told_text}
use Rattle.shard_store.specs.Shelved.{Shelved}
use Rattle.shard_store.specs.Shelves.{store_at}
use Rattle.shard_store.specs.Stories.{shard_head}
use Rattle.shard_store.specs.declared.store.Store.{Store}
use Rattle.pool_moves.specs.Contents.{Layout, IsShardOf}

-- a slot is lost: its count of faults rose, or its text in use is that of no shard
abbrev pub IsLost : Layout → (ℕ → ℕ → Option (List ℕ)) → (ℕ → ℕ) → (ℕ → ℕ) → ℕ → Type 0
IsLost l reads before now p =
    Rose (before p) (now p)
    ⊎ ((text : List ℕ) → told_text p (reads p) ≡ Some text → IsShardOf l.geometry (shard_head p l.geometry l.n) text None)

-- of the slots below p those that are here and not marked have a store, but for those that are lost; no other slot has one
pub record AreFound (l : Layout) (marks : ℕ) (is_here : ℕ → Type 0) (reads : ℕ → ℕ → Option (List ℕ)) (before now : ℕ → ℕ)
    (shelf : Shelved) (p : ℕ) : Type 0 where
  pub counts : (s : ℕ) → p ≤ s → now s ≡ before s
  pub found : (s : ℕ) → s < p → is_here s → (HasPosition marks s → ⊥)
      → (is_some (store_at shelf s) ≡ true) ⊎ IsLost l reads before now s
  pub none : (s : ℕ) (store : Store) → store_at shelf s ≡ Some store → (s < p) × (is_here s × (HasPosition marks s → ⊥))
