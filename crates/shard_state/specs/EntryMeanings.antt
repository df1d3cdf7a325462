-- What the code's entries stand for. Source: this project.
use Rattle.shard_model.specs.Changes as model
use Rattle.shard_model.specs.States as states
use Rattle.shard_steps.specs.StepMeanings.{kind_of}
use Rattle.shard_state.specs.declared.entry.Undo.TheVariants as undos
use Rattle.shard_state.specs.declared.entry.Undo.{Undo}
use Rattle.shard_state.specs.declared.entry.Logged.{Logged}
use Rattle.shard_state.specs.declared.entry.Entry.{Entry}

abbrev pub undo_of : Undo → model.Undo
undo_of undos.Fresh = model.Fresh
undo_of (undos.Extent size at before) = model.Extent size at before
undo_of (undos.Kept before) = model.Kept before
undo_of (undos.Attr attr before) = model.Attr attr before
undo_of undos.Firm = model.Settled

-- an entry that this undo takes back
abbrev pub logged_of : Logged → model.Undo → states.Logged
logged_of what undo = record { version = what.version; prior = what.prior; name = what.name; kind = kind_of what.kind; undo = undo }

abbrev pub entry_of : Entry → states.Logged
entry_of e = logged_of e.what (undo_of e.undo)
