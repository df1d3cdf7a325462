-- The steps of a pool's map. Source: this project.
use Rattle.std.specs.Prelude.{ℕ, List}
use Rattle.ec_model.specs.Versions.{Version}

-- the canonical lines of the pool's profile; an interval begins, with the slots that are up; it goes alive, with the slots that
-- joined it and the version that it begins with; an operator marks a slot as down (1) or takes the mark away (0)
pub data MapStep : Type 0 where
  Profile : (lines : List ℕ) → MapStep
  Begin : (epoch up : ℕ) → MapStep
  Alive : (epoch joined : ℕ) (base : Version) → MapStep
  Mark : (slot down : ℕ) → MapStep
