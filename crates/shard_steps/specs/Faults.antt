-- What a fault of reading steps says. Source: this project.
use Rattle.std.specs.Prelude.{ℕ, List}
use Rattle.shard_model.specs.StepBytes.{IsFirstBad}
use Rattle.shard_steps.specs.declared.fault.StepsFault.TheVariants.{BadStep, NoMemory}
use Rattle.shard_steps.specs.declared.fault.StepsFault.{StepsFault}

-- the text's first bad place; or memory ran out, and nothing is said
abbrev pub SaysOf : List ℕ → StepsFault → Type 0
SaysOf text (BadStep at) = IsFirstBad text at
SaysOf text NoMemory = Unit {0}
