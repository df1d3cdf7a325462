-- Laws about the definitions of this crate. Source: this project.
use Rattle.std.specs.Prelude.{◌≡◌, ◌≤◌, ℕ, List, true, Some, None}
use Rattle.std.specs.FinMap as fin
use Rattle.ec_model.specs.Codes.{CodeRows, IsPositionList}
use Rattle.shard_model.specs.Changes.{fits_change, changed}
use Rattle.shard_model.specs.Objects.{Geometry, put}
use Rattle.ec_positions.specs.Objects.{Objects}
use Rattle.ec_positions.specs.Updates.{Update, name_of, after}
use Rattle.ec_positions.specs.Refusals.{Refusal, refusal_of}
use Rattle.ec_positions.specs.Commands.{Command, Refused, apply_command, refusal_of_command, reply_to}
use Rattle.ec_positions.specs.Positions.{position_list, shard_of, position_change}

-- a refused command leaves the objects, and its reply names the refusal
abbrev pub RefusalChangesNothing : Type 0
RefusalChangesNothing = (objects : Objects) (command : Command) (why : Refusal)
    → refusal_of_command objects command ≡ Some why → (apply_command objects command ≡ objects) × (reply_to objects command ≡ Refused why)

-- the numbers of a code by which a shard lies: data chunks in a stripe, and bytes in a chunk of it
abbrev pub geometry : CodeRows → ℕ → Geometry
geometry code unit = record { k = code.k; unit = unit }

-- what position p gets of an update fits what it holds, and makes of it what position p holds of the objects after the update
pub record IsKept (code : CodeRows) (unit p : ℕ) (update : Update) (objects : Objects) : Type 0 where
  pub fit : fits_change (geometry code unit) (position_change code unit p update objects)
      (fin.get (shard_of code unit p objects) (name_of update)) ≡ true
  pub leads : put (shard_of code unit p objects) (name_of update)
      (changed (geometry code unit) (position_change code unit p update objects)
      (fin.get (shard_of code unit p objects) (name_of update))) ≡ shard_of code unit p (after objects update)

-- an update that is not refused keeps each position
abbrev pub ChangesKeepPositions : Type 0
ChangesKeepPositions = (code : CodeRows) (unit p : ℕ) (update : Update) (objects : Objects) → 1 ≤ code.k → 1 ≤ unit
    → refusal_of objects update ≡ None → IsKept code unit p update objects

-- a position has one list of an object: the relation and the function say the same
abbrev pub ListsAreOne : Type 0
ListsAreOne = (code : CodeRows) (unit p : ℕ) (bytes list : List ℕ) → 1 ≤ code.k → 1 ≤ unit
    → IsPositionList code unit bytes p list → list ≡ position_list code unit bytes p
