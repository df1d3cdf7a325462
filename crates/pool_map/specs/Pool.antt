-- What a contract sees of a pool's map. Source: this project.
use Rattle.std.specs.Prelude.{Bool, ◌≤◌, ◌≡◌, ◌⊎◌, ◌<◌, ◌^◌, ◌+◌, ◌-◌, ◌∷◌, [], ℕ, List, Option, Some, Ok}
use Rattle.ec_model.specs.Versions.{zero_version}
use Rattle.ec_code.specs.declared.profile.Profile.{Profile}
use Rattle.ec_code.specs.JsonProfiles.{profile_of_bytes}
use Rattle.plugin_reg.specs.Canonical.{canonical_lines}
use Rattle.ec_words.specs.Intervals.{Interval}
use Rattle.rig_disk.specs.Disk.{Image}
use Rattle.ec_words.specs.Readers.{IsWord}
use Rattle.slot_journal.specs.InUse.{Areas, text_in_use, told_text}
use Rattle.slot_journal.specs.Journal.{Holds, area_of, room_of}
use Rattle.slot_journal.specs.declared.journal.Journal.{Journal}
use Rattle.map_model.specs.States.{last_epoch, epoch_limit, state_after}
use Rattle.pool_map.specs.Maps.{PoolImage, map_slot, map_format, format_in, with_state, map_head, IsMapOf, IsNoPool, HasMap}
use Rattle.pool_map.specs.Meanings.{image_of}
use Rattle.map_model.specs.States.{new_state, with_intervals}
use Rattle.map_model.specs.Steps.{MapStep}
use Rattle.pool_map.specs.declared.map.PoolMap.{PoolMap}

abbrev pub journal_of : PoolMap → Journal
journal_of map = map.journal

-- the map that it is
abbrev pub map_of : PoolMap → PoolImage
map_of map = image_of map.profile map.state

-- the map's slot reads as a text of the map, and each image of now has just that text in use
pub record HoldsMap (reads : ℕ → ℕ → Option (List ℕ)) (images : Image → List ℕ → Type 0) (journal : Journal) (m : PoolImage)
    (text : List ℕ) : Type 0 where
  pub k : ℕ
  pub unit : ℕ
  pub word : IsWord unit
  pub bodies : List (List ℕ)
  pub holds : Holds reads images journal (map_head k m.n unit) bodies text
  pub gives : IsMapOf k unit (format_in text) bodies m

-- the map after one step more
abbrev pub map_after : PoolImage → MapStep → PoolImage
map_after m step = with_state m (state_after m.state step)

-- a step on the map at each of its instants: one area alone changes, and if the map was held, the slot has the map of
-- before, or the one with the step
pub record Steps (reads : ℕ → ℕ → Option (List ℕ)) (images : Image → List ℕ → Type 0) (journal : Journal) (m : PoolImage) (step : MapStep)
    (before after : Areas) : Type 0 where
  pub others : (a : ℕ) → (a ≡ area_of journal → ⊥) → after a ≡ before a
  pub maps : (text : List ℕ) → HoldsMap reads images journal m text → HasMap after m ⊎ HasMap after (map_after m step)

-- this value has begun an interval
abbrev pub has_begun : PoolMap → Bool
has_begun map = map.began

-- a call wrote nothing: the rig, the map's journal and whether an interval was begun are as before
pub record IsUntouched {R : Type 0} (old new : R) (before after : PoolMap) : Type 0 where
  pub rig : new ≡ old
  pub journal : journal_of after ≡ journal_of before
  pub began : has_begun after ≡ has_begun before

-- no further interval may begin: its epoch would reach the limit, or its text has too little room
abbrev pub IsWorn : PoolMap → Type 0
IsWorn map = (epoch_limit ≤ last_epoch map.state.intervals + 1) ⊎ (room_of map.journal < 2 ^ 27)

-- the mask of all of n positions
abbrev pub all_of : ℕ → ℕ
all_of n = 2 ^ n - 1

-- the first interval of a pool of n positions: all slots are up and joined it, and it began with no change
abbrev pub first_interval : ℕ → Interval
first_interval n = record { epoch = 1; up = all_of n; alive = Some (all_of n, zero_version) }

-- the map of a new pool with this profile
abbrev pub new_map : Profile → ℕ → PoolImage
new_map p n = record { profile = p; n = n; state = with_intervals (new_state map_format) (first_interval n ∷ []) }

-- a map is that of a new pool: its profile is the one that the canonical lines of the given one are read as
pub record IsNewMap (m : PoolImage) (p : Profile) (k n : ℕ) : Type 0 where
  pub own : Profile
  pub read : profile_of_bytes (canonical_lines p k n) ≡ Ok own
  pub is : m ≡ new_map own n

-- the making of a map at each of its instants: the slot has in use the text that it had, one that is no pool's, or that of a
-- new pool's map
pub record MakesMap (reads : ℕ → Option (List ℕ)) (p : Profile) (k n : ℕ) (before after : Areas) : Type 0 where
  pub texts : (text : List ℕ) → told_text map_slot reads ≡ Some text
      → (text_in_use map_slot after ≡ text_in_use map_slot before)
      ⊎ (IsNoPool (text_in_use map_slot after) ⊎ ((m : PoolImage) × (IsNewMap m p k n × HasMap after m)))
