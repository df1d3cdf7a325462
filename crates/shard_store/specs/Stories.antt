-- What steps come to, one after another, and which steps a text has. Source: this project.
use Rattle.std.specs.Prelude.{◌≡◌, ◌⊎◌, ◌+◌, ◌-◌, ◌^◌, ◌++◌, ◌∷◌, [], ℕ, Bool, List, length, min, true, if◌then◌else◌}
use Rattle.byteorder.specs.Endian.{big_bytes}
use Rattle.shard_model.specs.Objects.{Geometry}
use Rattle.shard_model.specs.Shards.{Shard, stepped}
use Rattle.shard_model.specs.States.{fits}
use Rattle.shard_model.specs.StepBytes.{AreSteps, IsFirstBad}
use Rattle.shard_model.specs.Steps.{Step, Control, Started, Partial}
use Rattle.shard_state.specs.Doing.{fresh_state}
use Rattle.slot_journal.specs.Text.{IsText, records}

-- before any step
abbrev pub fresh_shard : Geometry → Shard
fresh_shard g = record { geometry = g; state = fresh_state }

-- the shard after these steps, the first of them first
abbrev pub shard_after : Shard → List Step → Shard
shard_after s [] = s
shard_after s (step ∷ steps) = shard_after (stepped s step) steps

-- each step fits the shard that those before it lead to
abbrev pub AreFitting : Shard → List Step → Type 0
AreFitting s [] = Unit {0}
AreFitting s (step ∷ steps) = (fits s.geometry s.state step ≡ true) × AreFitting (stepped s step) steps

-- each body is steps, and these are all of them in order
abbrev pub AreSpelled : List (List ℕ) → List Step → Type 0
AreSpelled [] steps = steps ≡ []
AreSpelled (body ∷ bodies) steps =
    (front : List Step) × (rest : List Step) × AreSteps body front × (steps ≡ front ++ rest) × AreSpelled bodies rest

-- the head of a shard's text: `ECSHARD`, format 1, the slot, k and n, the unit in four bytes, and a serial of 0 in eight
abbrev pub shard_head : ℕ → Geometry → ℕ → List ℕ
shard_head slot g n =
    (69 ∷ 67 ∷ 83 ∷ 72 ∷ 65 ∷ 82 ∷ 68 ∷ []) ++ 1 ∷ slot ∷ g.k ∷ n ∷ [] ++ big_bytes 4 g.unit ++ big_bytes 8 0

-- a text has a shard: it is a text of the grammar for the head, its bodies are these steps, and each of them fits
pub record HasShard (g : Geometry) (head text : List ℕ) (steps : List Step) : Type 0 where
  pub bodies : List (List ℕ)
  pub place : ℕ
  pub is_text : IsText head bodies place text
  pub spelled : AreSpelled bodies steps
  pub fitting : AreFitting (fresh_shard g) steps

-- a body adds nothing to a shard: it is no list of steps, or one of them does not fit
abbrev pub IsBadBody : Shard → List ℕ → Type 0
IsBadBody s body =
    ((at : ℕ) × IsFirstBad body at) ⊎ ((steps : List Step) × AreSteps body steps × (AreFitting s steps → ⊥))

-- of a text of the grammar the record whose gate is at this place is the first that does not fit
pub record IsBadStory (g : Geometry) (head text : List ℕ) (at : ℕ) : Type 0 where
  pub front : List (List ℕ)
  pub body : List ℕ
  pub back : List (List ℕ)
  pub place : ℕ
  pub steps : List Step
  pub is_text : IsText head (front ++ body ∷ back) place text
  pub spelled : AreSpelled front steps
  pub fitting : AreFitting (fresh_shard g) steps
  pub at_is : at ≡ 24 + length (records front)
  pub bad : IsBadBody (shard_after (fresh_shard g) steps) body

-- the bodies tell these steps, and each of them fits
pub record AreTold (g : Geometry) (bodies : List (List ℕ)) (steps : List Step) : Type 0 where
  pub spelled : AreSpelled bodies steps
  pub fitting : AreFitting (fresh_shard g) steps

-- one of the bodies is the first that adds nothing; `at` is how many bytes of a text its record stands behind, or the largest
-- number of a word
pub record IsBadAmong (g : Geometry) (bodies : List (List ℕ)) (at : ℕ) : Type 0 where
  pub front : List (List ℕ)
  pub body : List ℕ
  pub back : List (List ℕ)
  pub steps : List Step
  pub parts : bodies ≡ front ++ body ∷ back
  pub told : AreTold g front steps
  pub at_is : at ≡ min (24 + length (records front)) (2 ^ 64 - 1)
  pub bad : IsBadBody (shard_after (fresh_shard g) steps) body

-- the steps of a new store
abbrev pub first_steps : Bool → List Step
first_steps partial = if partial then Control Partial ∷ [] else Control (Started 1) ∷ []
