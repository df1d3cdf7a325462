-- What the making of a pool leaves as it was, and what it costs each slot. Source: this project.
use Rattle.std.specs.Prelude.{◌≡◌, ◌<◌, ◌+◌, ◌⊎◌, ℕ, List, Option}
use Rattle.rig_disk.specs.Frame.{Adds, Spends}
use Rattle.slot_journal.specs.Limits.{make_reads, make_syncs}
use Rattle.shard_store.specs.Limits.{store_bytes}
use Rattle.pool_map.specs.Maps.{map_slot}

-- a slot of a pool: one of its n positions, or that of the map
abbrev pub IsOfPool : ℕ → ℕ → Type 0
IsOfPool n slot = (slot < n) ⊎ (slot ≡ map_slot)

-- nothing is said, a slot that is here stays here, and every slot that is not among these is as it was
pub record KeepsOutside {R : Type 0} (among : ℕ → Type 0) (is_here : R → ℕ → Type 0) (reads_of : R → ℕ → ℕ → Option (List ℕ))
    (said_of : R → Option (List ℕ)) (syncs_of written_of read_of : R → ℕ → Option ℕ) (old new : R) : Type 0 where
  pub said : said_of new ≡ said_of old
  pub stays : (s : ℕ) → is_here old s → is_here new s
  pub only_here : (s : ℕ) → (among s → ⊥) → is_here new s → is_here old s
  pub reads : (s a : ℕ) → (among s → ⊥) → reads_of new s a ≡ reads_of old s a
  pub syncs : (s : ℕ) → (among s → ⊥) → syncs_of new s ≡ syncs_of old s
  pub written : (s : ℕ) → (among s → ⊥) → written_of new s ≡ written_of old s
  pub read : (s : ℕ) → (among s → ⊥) → read_of new s ≡ read_of old s

-- each slot below n has at most these numbers of syncs, bytes written and bytes read
abbrev pub SpendsBelow : {R : Type 0} → (R → ℕ → Option ℕ) → (R → ℕ → Option ℕ) → (R → ℕ → Option ℕ) → ℕ → ℕ → ℕ → ℕ → R → R → Type 0
SpendsBelow syncs_of written_of read_of n sync_count written_count read_count old new =
    (s : ℕ) → s < n → Spends syncs_of written_of read_of s sync_count written_count read_count old new

-- and that of the map has at most these numbers of syncs and bytes written
pub record Costs {R : Type 0} (syncs_of written_of read_of : R → ℕ → Option ℕ) (n sync_count written_count read_count map_syncs map_written : ℕ) (old new : R) : Type 0 where
  pub shards : SpendsBelow syncs_of written_of read_of n sync_count written_count read_count old new
  pub syncs : Adds map_syncs (syncs_of old map_slot) (syncs_of new map_slot)
  pub written : Adds map_written (written_of old map_slot) (written_of new map_slot)

-- what the making of a pool costs at most: the slots have what their stores cost, and that of the map what the map costs and one
-- sync to ask whether there is a pool
abbrev pub CostsOfPool : {R : Type 0} → (R → ℕ → Option ℕ) → (R → ℕ → Option ℕ) → (R → ℕ → Option ℕ) → ℕ → R → R → Type 0
CostsOfPool syncs_of written_of read_of n old new = Costs syncs_of written_of read_of n make_syncs store_bytes make_reads (1 + make_syncs) 4062 old new
