-- What the calls on a pool's map ask for, and what they give. Source: this project.
use Rattle.std.specs.Prelude.{◌≡◌, ◌⊎◌, ◌≤◌, ℕ, List, length, Option, Some, Result, Err, OnOk, OnErr, IfErr, false}
use Rattle.ec_model.specs.Codes.{CodeRows}
use Rattle.ec_code.specs.declared.profile.Profile.{Profile}
use Rattle.ec_code.specs.Refusals.{IsAccepted, IsCodeOf}
use Rattle.ec_code.specs.Shapes.{HasShape}
use Rattle.ec_words.specs.Readers.{IsWord}
use Rattle.plugin_reg.specs.Canonical.{IsWritable}
use Rattle.rig_disk.specs.Disk.{Image}
use Rattle.rig_disk.specs.During.{During}
use Rattle.slot_journal.specs.InUse.{told_text}
use Rattle.slot_journal.specs.Journal.{Holds, InSlot, IsFresh, IsSettledWhereTold, HaveInUse, is_spent}
use Rattle.slot_journal.specs.Text.{IsText}
use Rattle.slot_journal.specs.declared.journal.Journal.{Journal}
use Rattle.map_model.specs.Steps.{MapStep}
use Rattle.pool_map.specs.Faults.{HasMapCause}
use Rattle.pool_map.specs.Maps.{PoolImage, IsMapText, IsNoPool, map_head}
use Rattle.pool_map.specs.Pool.{HoldsMap, IsNewMap, IsUntouched, Steps, has_begun, journal_of, map_after, map_of}
use Rattle.pool_map.specs.declared.fault.MapFault.{MapFault}
use Rattle.pool_map.specs.declared.fault.MapFault.TheVariants as map
use Rattle.pool_map.specs.declared.map.PoolMap.{PoolMap}

-- a step may be added to a map: its slot is here, no call of its journal has failed, and the journal is settled if the slot's
-- text is told
pub record IsReady (is_here : ℕ → Type 0) (reads : ℕ → ℕ → Option (List ℕ)) (images : Image → List ℕ → Type 0) (map : PoolMap) : Type 0 where
  pub here : is_here 16
  pub unspent : is_spent (journal_of map) ≡ false
  pub settled : IsSettledWhereTold reads images (journal_of map)

-- a call that adds this step. After Ok the map with the step is held if the map was, its journal is settled if the slot's text
-- is told, and no call of it has failed. After a refusal the map is as before; only `Failed` may have written
pub record HasStepped {R T : Type 0} (reads_of : R → ℕ → ℕ → Option (List ℕ)) (clock_of : R → ℕ) (images_of : R → ℕ → Image → List ℕ → Type 0)
    (faults_of : R → ℕ → ℕ) (added : MapStep) (old new : R) (before after : PoolMap) (result : Result T MapFault) : Type 0 where
  pub ok : OnOk result ((text : List ℕ) → HoldsMap (reads_of old) (images_of old (clock_of old)) (journal_of before) (map_of before) text
      → (later : List ℕ) × HoldsMap (reads_of new) (images_of new (clock_of new)) (journal_of after) (map_of after) later)
  pub step : OnOk result (map_of after ≡ map_after (map_of before) added)
  pub settled : OnOk result (IsSettledWhereTold (reads_of new) (images_of new (clock_of new)) (journal_of after))
  pub unspent : OnOk result (is_spent (journal_of after) ≡ false)
  pub unchanged : OnErr result (map_of after ≡ map_of before)
  pub refused : IfErr result (λ fault. (fault ≡ map.Failed) ⊎ IsUntouched old new before after)
  pub only_if_fault : HasMapCause (faults_of old 16) (faults_of new 16) result
  pub any_moment : During clock_of images_of old new (InSlot (images_of old (clock_of old)) 16
      (Steps (reads_of old) (images_of old (clock_of old)) (journal_of before) (map_of before) added))

-- a pool may be made with a profile: it is accepted, can be written, and these numbers are the shape of its code
pub record MayBeMade (p : Profile) (k n lead : ℕ) : Type 0 where
  pub accepted : IsAccepted p
  pub writable : IsWritable p
  pub shape : (code : CodeRows) × IsCodeOf p code × HasShape code k n lead

-- a map that was made: it is that of a new pool, held if the slot's text was told; no step was added to it
pub record IsMade {R : Type 0} (reads_of : R → ℕ → ℕ → Option (List ℕ)) (clock_of : R → ℕ) (images_of : R → ℕ → Image → List ℕ → Type 0)
    (p : Profile) (k n : ℕ) (old new : R) (map : PoolMap) : Type 0 where
  pub held : (text : List ℕ) → told_text 16 (reads_of old 16) ≡ Some text
      → (after : List ℕ) × HoldsMap (reads_of new) (images_of new (clock_of new)) (journal_of map) (map_of map) after
  pub is_new : IsNewMap (map_of map) p k n
  pub settled : IsSettledWhereTold (reads_of new) (images_of new (clock_of new)) (journal_of map)
  pub unspent : is_spent (journal_of map) ≡ false
  pub unbegun : has_begun map ≡ false

-- a map that was loaded: it is that of the slot's text in use; that text is no shorter than a header; its profile is an accepted one;
-- it has begun no interval
pub record IsLoaded {R : Type 0} (reads_of : R → ℕ → ℕ → Option (List ℕ)) (clock_of : R → ℕ) (images_of : R → ℕ → Image → List ℕ → Type 0)
    (old new : R) (map : PoolMap) : Type 0 where
  pub held : (text : List ℕ) → told_text 16 (reads_of old 16) ≡ Some text
      → HoldsMap (reads_of new) (images_of new (clock_of new)) (journal_of map) (map_of map) text
  pub long : (text : List ℕ) → told_text 16 (reads_of old 16) ≡ Some text → 24 ≤ length text
  pub accepted : IsAccepted (map_of map).profile
  pub settled : IsSettledWhereTold (reads_of new) (images_of new (clock_of new)) (journal_of map)
  pub unspent : is_spent (journal_of map) ≡ false
  pub unbegun : has_begun map ≡ false

-- why no map was loaded: `BadMap` says that the text in use is no shorter than a header, is no map's and stays in use; `NoPool`
-- that there is no pool, and it comes if the slot is not here, and if there is no pool and no call failed
pub record IsNotLoaded {R T : Type 0} (is_here_of : R → ℕ → Type 0) (reads_of : R → ℕ → ℕ → Option (List ℕ)) (clock_of : R → ℕ)
    (images_of : R → ℕ → Image → List ℕ → Type 0) (old new : R) (result : Result T MapFault) : Type 0 where
  pub bad_map : result ≡ Err map.BadMap → (text : List ℕ) → told_text 16 (reads_of old 16) ≡ Some text
      → (24 ≤ length text) × ((m : PoolImage) → IsMapText text m → ⊥)
  pub bad_durable : result ≡ Err map.BadMap → (text : List ℕ) → told_text 16 (reads_of old 16) ≡ Some text
      → HaveInUse (images_of new (clock_of new)) 16 text
  pub no_pool : result ≡ Err map.NoPool → is_here_of old 16 → (text : List ℕ) → told_text 16 (reads_of old 16) ≡ Some text → IsNoPool text
  pub nowhere : (is_here_of old 16 → ⊥) → result ≡ Err map.NoPool
  pub short : is_here_of old 16 → (text : List ℕ) → told_text 16 (reads_of old 16) ≡ Some text → IsNoPool text
      → (result ≡ Err map.NoPool) ⊎ (result ≡ Err map.Failed)
  pub plain : IfErr result (λ fault. (fault ≡ map.Worn) → ⊥)

-- a text that was read: records behind a header with these numbers, and no other numbers make the text's header
pub record IsRead {R : Type 0} (reads_of : R → ℕ → ℕ → Option (List ℕ)) (clock_of : R → ℕ) (images_of : R → ℕ → Image → List ℕ → Type 0)
    (old new : R) (journal : Journal) (records : List (List ℕ)) (own_k own_n own_unit : ℕ) : Type 0 where
  pub held : (text : List ℕ) → told_text 16 (reads_of old 16) ≡ Some text
      → Holds (reads_of new) (images_of new (clock_of new)) journal (map_head own_k own_n own_unit) records text
  pub numbers : (text : List ℕ) → told_text 16 (reads_of old 16) ≡ Some text
      → (k n unit : ℕ) (bodies : List (List ℕ)) (place : ℕ) → IsWord unit → IsText (map_head k n unit) bodies place text
      → (k ≡ own_k) × ((n ≡ own_n) × (unit ≡ own_unit))
  pub long : (text : List ℕ) → told_text 16 (reads_of old 16) ≡ Some text → 24 ≤ length text
  pub settled : IsSettledWhereTold (reads_of new) (images_of new (clock_of new)) journal
  pub fresh : IsFresh journal 16

-- why no text was read
pub record IsNotRead {R T : Type 0} (reads_of : R → ℕ → ℕ → Option (List ℕ)) (clock_of : R → ℕ) (images_of : R → ℕ → Image → List ℕ → Type 0)
    (old new : R) (result : Result T MapFault) : Type 0 where
  pub bad : result ≡ Err map.BadMap → (text : List ℕ) → told_text 16 (reads_of old 16) ≡ Some text → (24 ≤ length text)
      × ((k n unit : ℕ) (bodies : List (List ℕ)) (place : ℕ) → IsWord unit → IsText (map_head k n unit) bodies place text → ⊥)
  pub bad_durable : result ≡ Err map.BadMap → (text : List ℕ) → told_text 16 (reads_of old 16) ≡ Some text
      → HaveInUse (images_of new (clock_of new)) 16 text
  pub no_pool : result ≡ Err map.NoPool → (text : List ℕ) → told_text 16 (reads_of old 16) ≡ Some text → IsNoPool text
  pub no_memory : result ≡ Err map.NoMemory → (text : List ℕ) → told_text 16 (reads_of old 16) ≡ Some text → 24 ≤ length text
  pub plain : IfErr result (λ fault. (fault ≡ map.Worn) → ⊥)
