-- The steps of a shard. Source: this project; entries, rolling back and the last epoch started after Ceph developer guide,
-- "Erasure Coded pool" and "Peering".
-- There are three parts: an entry changes an object under a version and goes to the log; a control step moves the bounds of
-- the log; a recovery step fills a partial shard.
use Rattle.std.specs.Prelude.{ℕ, List}
use Rattle.ec_model.specs.Versions.{Version}
use Rattle.shard_model.specs.Changes.{Change}

-- a change of one object; `prior` is the version before it
pub record Entry : Type 0 where
  pub version : Version
  pub prior : Version
  pub name : List ℕ
  pub change : Change

-- roll back to a version; nothing up to it is rolled back again; the log begins after it; an epoch started; from now on
-- the shard is filled anew
pub data ControlStep : Type 0 where
  Back Firm Trim : (version : Version) → ControlStep
  Started : (epoch : ℕ) → ControlStep
  Partial : ControlStep

-- an object is as it is elsewhere, with its attributes in the order of their names; no object has this name; there are no
-- objects; the shard is whole, at this version and epoch
pub data RecoveryStep : Type 0 where
  Put : (name : List ℕ) (size : ℕ) (bytes : List ℕ) (attrs : List (List ℕ × List ℕ)) → RecoveryStep
  Drop : (name : List ℕ) → RecoveryStep
  Clear : RecoveryStep
  Reset : (version : Version) (epoch : ℕ) → RecoveryStep

pub data Step : Type 0 where
  Log : (entry : Entry) → Step
  Control : (control : ControlStep) → Step
  Recover : (recovery : RecoveryStep) → Step
