-- What the state's records stand for. Source: this project.
use Rattle.std.specs.Prelude.{List, map}
use Rattle.shard_model.specs.States.{Logged}
use Rattle.shard_state.specs.EntryMeanings.{entry_of}
use Rattle.shard_state.specs.Sound.{Recorded}
use Rattle.shard_state.specs.declared.record.Record.{Record}

abbrev pub recorded : Record → Recorded
recorded r = record { logged = entry_of r.entry; room = r.spare }

abbrev pub entry_in : Record → Logged
entry_in r = entry_of r.entry

-- the log that records are
abbrev pub log_of : List Record → List Logged
log_of records = map entry_in records
