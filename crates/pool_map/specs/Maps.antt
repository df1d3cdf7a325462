-- The map of a pool: what its text comes to. Source: this project; epochs, up sets and intervals after Ceph's past intervals.
use Rattle.std.specs.Prelude.{◌≡◌, ◌≢◌, ◌⊎◌, ◌<◌, ℕ, List, [], ◌∷◌, ◌++◌, length, get_or, Ok, Some}
use Rattle.std.specs.List.{AllByRecursion}
use Rattle.ec_model.specs.Codes.{CodeRows}
use Rattle.ec_code.specs.declared.profile.Profile.{Profile}
use Rattle.ec_code.specs.JsonProfiles.{profile_of_bytes}
use Rattle.ec_code.specs.Refusals.{IsAccepted, IsCodeOf}
use Rattle.ec_code.specs.Shapes.{HasShape}
use Rattle.plugin_reg.specs.Canonical.{canonical_lines}
use Rattle.ec_words.specs.Readers.{IsCounted, IsWord}
use Rattle.slot_journal.specs.Header.{head_of, open_gate}
use Rattle.slot_journal.specs.declared.header.Owner.TheVariants.{Map}
use Rattle.slot_journal.specs.InUse.{Areas, text_in_use}
use Rattle.slot_journal.specs.Text.{IsText}
use Rattle.map_model.specs.States.{MapState, MapImage, new_state, replay}
use Rattle.map_model.specs.Steps.{MapStep}
use Rattle.pool_map.specs.Steps.{step_bytes, steps_bytes, IsWritable}
use Rattle.map_model.specs.Steps as step

-- the slot of the map
abbrev pub map_slot : ℕ
map_slot = 16

-- the format that a map's text is written in
abbrev pub map_format : ℕ
map_format = 1

-- the format that a text says in its header
abbrev pub format_in : List ℕ → ℕ
format_in text = get_or text 8 0

-- a body is steps that lead from one state to another
pub record Leads (n : ℕ) (before : MapState) (body : List ℕ) (later : MapState) : Type 0 where
  pub steps : List MapStep
  pub writable : AllByRecursion IsWritable steps
  pub bytes : body ≡ steps_bytes steps
  pub done : replay n steps before ≡ Some later

-- so do bodies, one after another
abbrev pub LeadAll : ℕ → MapState → List (List ℕ) → MapState → Type 0
LeadAll n before [] later = before ≡ later
LeadAll n before (body ∷ bodies) later = (mid : MapState) × (Leads n before body mid × LeadAll n mid bodies later)

-- the map of a pool: its profile, the positions of the profile's code, and the state that the steps behind the profile come to
pub record PoolImage : Type 0 where
  pub profile : Profile
  pub n : ℕ
  pub state : MapState

-- the same map with another state
abbrev pub with_state : PoolImage → MapState → PoolImage
with_state m state = record { profile = m.profile; n = m.n; state = state }

-- the map without its profile
abbrev pub without_profile : PoolImage → MapImage
without_profile m = record { n = m.n; state = m.state }

-- lines are read as an accepted profile and are its canonical lines; its code has these numbers
pub record IsCanonical (lines : List ℕ) (p : Profile) (k n unit : ℕ) : Type 0 where
  pub lead : ℕ
  pub code : CodeRows
  pub read : profile_of_bytes lines ≡ Ok p
  pub accepted : IsAccepted p
  pub code_of : IsCodeOf p code
  pub shape : HasShape code k n lead
  pub same : canonical_lines p k n ≡ lines
  pub same_unit : p.stripe_unit ≡ unit

-- the bodies of the records of a text of this format are a map: the profile is the first step, and each further step fits
pub record IsMapOf (k unit format : ℕ) (bodies : List (List ℕ)) (m : PoolImage) : Type 0 where
  pub lines : List ℕ
  pub rest : List ℕ
  pub more : List (List ℕ)
  pub counted : IsCounted lines
  pub bytes : bodies ≡ (step_bytes (step.Profile lines) ++ rest) ∷ more
  pub canonical : IsCanonical lines m.profile k m.n unit
  pub lead : LeadAll m.n (new_state format) (rest ∷ more) m.state

-- bytes 1 to 23 of a map's text, by its numbers
abbrev pub map_head : ℕ → ℕ → ℕ → List ℕ
map_head k n unit = head_of (record { owner = Map; format = map_format; slot = map_slot; k = k; n = n; unit = unit; serial = 0 })

-- a text is that of a map: in the grammar for a head that agrees with the profile, and its records are the map in the format
-- that its header says
pub record IsMapText (text : List ℕ) (m : PoolImage) : Type 0 where
  pub k : ℕ
  pub unit : ℕ
  pub word : IsWord unit
  pub bodies : List (List ℕ)
  pub place : ℕ
  pub is_text : IsText (map_head k m.n unit) bodies place text
  pub gives : IsMapOf k unit (format_in text) bodies m

-- the map of a slot, by its text in use
abbrev pub HasMap : Areas → PoolImage → Type 0
HasMap areas m = IsMapText (text_in_use map_slot areas) m

-- there is no pool: the slot has no text in use, or one that is shorter than a header
abbrev pub IsNoPool : List ℕ → Type 0
IsNoPool text = length text < 24

-- an area is shorter than a header, or its first byte is no open gate
abbrev pub HasNoText : List ℕ → Type 0
HasNoText there = (length there < 24) ⊎ (get_or there 0 0 ≢ open_gate)

-- a profile's code has these numbers, and these lines are printed of it
pub record HasNumbers (p : Profile) (own_k own_n : ℕ) (printed lines : List ℕ) (k n unit : ℕ) : Type 0 where
  pub same_k : own_k ≡ k
  pub same_n : own_n ≡ n
  pub same_unit : p.stripe_unit ≡ unit
  pub same : printed ≡ lines
