-- What a run leaves of the counts of faults, by the status in which it ends. Source: this project.
use Rattle.std.specs.Prelude.{◌≡◌, ◌≢◌, ◌<◌, ℕ, [], ◌∷◌}
use Rattle.rig_disk.specs.Faults.{Rose}
use Rattle.rig_disk.specs.declared.limits.TheConstants.{VOICE}
use Rattle.pool_run.specs.Texts.{OneOf}

-- of a rig, by the number of a slot or of the output: the output's count rose with status 9, and stands still with status 0 or 1; that
-- of a slot never changes
pub record CountsOfRig (status : ℕ) (before now : ℕ → ℕ) : Type 0 where
  pub voice : status ≡ 9 → Rose (before VOICE) (now VOICE)
  pub quiet : OneOf status (0 ∷ 1 ∷ []) → now VOICE ≡ before VOICE
  pub slots : (slot : ℕ) → slot ≢ VOICE → now slot ≡ before slot

-- of a rig on which a pool was to be made: the output's count as above; with status 0 no count rose, with status 5 that of a slot
-- below 16, with status 10 that of the slot of the map, and none of a slot if nothing of a pool failed
pub record CountsOfMaking (status : ℕ) (before now : ℕ → ℕ) : Type 0 where
  pub voice : status ≡ 9 → Rose (before VOICE) (now VOICE)
  pub quiet : status ≡ 0 → (slot : ℕ) → now slot ≡ before slot
  pub slot : status ≡ 5 → (slot : ℕ) × (slot < 16) × Rose (before slot) (now slot)
  pub map : status ≡ 10 → Rose (before 16) (now 16)
  pub others : OneOf status (3 ∷ 4 ∷ 8 ∷ 12 ∷ []) → (slot : ℕ) → slot ≢ VOICE → now slot ≡ before slot

-- of an input: its count rose with status 8, and stands still with status 0 or 1
pub record CountsOfInput (status before now : ℕ) : Type 0 where
  pub failed : status ≡ 8 → Rose before now
  pub quiet : OneOf status (0 ∷ 1 ∷ []) → now ≡ before

-- of both
pub record Counts (status input_before input_now : ℕ) (rig_before rig_now : ℕ → ℕ) : Type 0 where
  pub input : CountsOfInput status input_before input_now
  pub rig : CountsOfRig status rig_before rig_now
