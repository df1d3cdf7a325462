-- What a command shows, and the reasons to stop that its job gives. Source: this project.
use Rattle.std.specs.Prelude.{⊤, ℕ, List, [], string_bytes, Result, Ok, Err}
use Rattle.ec_files.specs.declared.stop.Stop.{Stop}
use Rattle.ec_files.specs.declared.stop.Stop.TheVariants.{Profile, NoMemory}
use Rattle.profile_texts.specs.declared.reading.RegFault.TheVariants as reg
use Rattle.ec_tool.specs.Jobs.{IsRefusedJob}
use Rattle.ec_files.specs.Jobs.{Job}
use Rattle.ec_files.specs.Stops.{line_of}

-- the line that a command shows, or the line of the reason why it stopped
abbrev pub shown_after : Result (List ℕ) Stop → List ℕ
shown_after (Ok text) = text
shown_after (Err stop) = line_of stop

-- a job's profile or its unit is refused, or memory ran out
abbrev pub StopsByJob : Job → Stop → Type 0
StopsByJob job (Profile f) = IsRefusedJob job f
StopsByJob job NoMemory = ⊤
StopsByJob job _ = ⊥
