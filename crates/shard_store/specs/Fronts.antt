-- What every entry's step begins with. Source: this project.
use Rattle.shard_model.specs.StepBytes.{HasWords, IsName}
use Rattle.shard_model.specs.Steps.{Step, Log, Control, Recover}

-- version, version before it and name of an entry have their place in the bytes
abbrev pub HasFront : Step → Type 0
HasFront (Log e) = HasWords e.version × (HasWords e.prior × IsName e.name)
HasFront (Control control) = Unit {0}
HasFront (Recover recovery) = Unit {0}
