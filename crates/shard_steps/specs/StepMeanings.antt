-- What the code's steps stand for. Source: this project.
use Rattle.std.specs.Prelude.{Bool, true, false}
use Rattle.shard_model.specs.Changes as changes
use Rattle.shard_model.specs.Steps as steps
use Rattle.shard_steps.specs.declared.kind.Kind.TheVariants as kinds
use Rattle.shard_steps.specs.declared.kind.Kind.{Kind}
use Rattle.shard_steps.specs.declared.step.Step.TheVariants as plain
use Rattle.shard_steps.specs.declared.step.Step.{Step}

-- the step of the definitions that a step of the code is
abbrev pub step_of : Step → steps.Step
step_of (plain.Write version prior name fresh size at bytes) =
    steps.Log (record { version = version; prior = prior; name = name; change = changes.Write fresh size at bytes })
step_of (plain.Replace version prior name size bytes) =
    steps.Log (record { version = version; prior = prior; name = name; change = changes.Replace size bytes })
step_of (plain.Remove version prior name) =
    steps.Log (record { version = version; prior = prior; name = name; change = changes.Remove })
step_of (plain.SetAttr version prior name attr value) =
    steps.Log (record { version = version; prior = prior; name = name; change = changes.SetAttr attr value })
step_of (plain.RemoveAttr version prior name attr) =
    steps.Log (record { version = version; prior = prior; name = name; change = changes.RemoveAttr attr })
step_of (plain.Back version) = steps.Control (steps.Back version)
step_of (plain.Started epoch) = steps.Control (steps.Started epoch)
step_of (plain.Firm version) = steps.Control (steps.Firm version)
step_of (plain.Trim version) = steps.Control (steps.Trim version)
step_of plain.Partial = steps.Control steps.Partial
step_of (plain.Put name size bytes attrs) = steps.Recover (steps.Put name size bytes attrs)
step_of (plain.Drop name) = steps.Recover (steps.Drop name)
step_of plain.Clear = steps.Recover steps.Clear
step_of (plain.Reset version epoch) = steps.Recover (steps.Reset version epoch)

-- the change of an entry; of another step none that counts
abbrev pub change_in : steps.Step → changes.Change
change_in (steps.Log e) = e.change
change_in (steps.Control control) = changes.Remove
change_in (steps.Recover recovery) = changes.Remove

-- the step is an entry
abbrev pub is_entry : steps.Step → Bool
is_entry (steps.Log e) = true
is_entry (steps.Control control) = false
is_entry (steps.Recover recovery) = false

-- what an entry of this kind does
abbrev pub kind_of : Kind → changes.Kind
kind_of kinds.Write = changes.OfWrite
kind_of kinds.Replace = changes.OfReplace
kind_of kinds.Remove = changes.OfRemove
kind_of kinds.SetAttr = changes.OfSetAttr
kind_of kinds.RemoveAttr = changes.OfRemoveAttr
