-- What taking back in place, without memory, rests on. Source: this project.
use Rattle.std.specs.Prelude.{◌≡◌, ◌⊎◌, ◌<◌, ◌≤◌, ◌+◌, ℕ, List, [], ◌∷◌, length, map, Option, Some, None, IsSome, is_some, true, false}
use Rattle.std.specs.List.{AllByRecursion}
use Rattle.std.specs.FinMap as fin
use Rattle.ec_model.specs.Versions.{Version, is_up_to}
use Rattle.shard_model.specs.Limits.{max_size, max_value, max_attrs}
use Rattle.shard_model.specs.Objects.{ShardObject, ShardObjects, Geometry, Named, shard_len, IsHeld, AreHeld}
use Rattle.shard_model.specs.Changes.{Undo, Fresh, Extent, Kept, Attr, Settled}
use Rattle.shard_model.specs.States.{State, Logged, undone, settled}

-- an entry of the log, and for how many attributes its spare has room
pub record Recorded : Type 0 where
  pub logged : Logged
  pub room : ℕ

abbrev pub logged_in : Recorded → Logged
logged_in r = r.logged

-- the old bytes lie in what there is now; an attribute that is put back has a short value, and is there, or there is room
-- for it
abbrev pub IsSound : Geometry → ℕ → Undo → Option ShardObject → Type 0
IsSound g room Fresh o = Unit {0}
IsSound g room (Extent size at before) None = Unit {0}
IsSound g room (Extent size at before) (Some o) =
    (size ≤ max_size) × ((shard_len g size ≤ length o.bytes) × ((at + length before ≤ shard_len g size) ⊎ (length before ≡ 0)))
IsSound g room (Kept before) o = IsHeld g before
IsSound g room (Attr attr before) None = Unit {0}
IsSound g room (Attr attr None) (Some o) = Unit {0}
IsSound g room (Attr attr (Some value)) (Some o) =
    (length value ≤ max_value) × ((IsSome (fin.get o.attrs attr)) ⊎ ((fin.len o.attrs < max_attrs) × (fin.len o.attrs < room)))
IsSound g room Settled o = Unit {0}

-- each entry is sound on the objects that taking back the newer ones leaves
abbrev pub AreSound : Geometry → ShardObjects → List Recorded → Type 0
AreSound g m [] = Unit {0}
AreSound g m (r ∷ rs) =
    IsSound g r.room r.logged.undo (fin.get (undone g m (map logged_in rs)) r.logged.name) × AreSound g m rs

-- a name has a place
abbrev pub HasPlace : Named (Option ShardObject) → List ℕ → Type 0
HasPlace places name = is_some (fin.get places name) ≡ true

-- what the state of a shard keeps, in its places and its log
pub record IsKept (g : Geometry) (places : Named (Option ShardObject)) (objects : ShardObjects) (log : List Recorded) : Type 0 where
  pub held : AreHeld g objects
  pub sound : AreSound g objects log
  pub placed : AllByRecursion (λ r. HasPlace places r.logged.name) log

-- each version is above all before it
abbrev pub AreRising : List Logged → Type 0
AreRising [] = Unit {0}
AreRising (n ∷ ns) = AllByRecursion (λ m. is_up_to m.version n.version ≡ false) ns × AreRising ns

-- the log's versions rise up to the head; a shard that is being filled has no log
pub record IsOrdered (s : State) : Type 0 where
  pub below : AllByRecursion (λ n. is_up_to n.version s.head ≡ true) s.log
  pub rising : AreRising s.log
  pub alone : s.partial ≡ true → s.log ≡ []

-- an entry up to v is never taken back again
abbrev pub settled_in : Version → Recorded → Recorded
settled_in v r = record { logged = settled v r.logged; room = r.room }
