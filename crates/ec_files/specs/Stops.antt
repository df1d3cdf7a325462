-- The status and the line of each reason to stop. Source: this project.
use Rattle.std.specs.Prelude.{⊤, ℕ, List, [], string_bytes, Result, Ok, Err}
use Rattle.plugin_reg.specs.Opening.{fault_line}
use Rattle.ec_files.specs.declared.stop.Stop.{Stop}
use Rattle.ec_files.specs.declared.stop.Stop.TheVariants.{Usage, Profile, Missing, Failed, NotDecided, Lengths, TooLong, NoMemory}
use Rattle.profile_texts.specs.declared.reading.RegFault.{RegFault}
use Rattle.profile_texts.specs.declared.reading.RegFault.TheVariants as reg
use Rattle.ec_files.specs.Texts.{usage_line, missing_line, failed_line, not_decided_line, lengths_line, too_long_line}

abbrev pub status_of : Stop → ℕ
status_of Usage = 2
status_of (Profile fault) = 3
status_of (Missing name) = 4
status_of (Failed name) = 5
status_of NotDecided = 6
status_of Lengths = 7
status_of (TooLong name) = 8
status_of NoMemory = 13

-- the line that it says; none if memory ran out
abbrev pub line_of : Stop → List ℕ
line_of Usage = usage_line
line_of (Profile fault) = fault_line fault
line_of (Missing name) = missing_line (string_bytes name)
line_of (Failed name) = failed_line (string_bytes name)
line_of NotDecided = not_decided_line
line_of Lengths = lengths_line
line_of (TooLong name) = too_long_line (string_bytes name)
line_of NoMemory = []

-- the status of a command's outcome, and its line; a command that says nothing has no line if it did what it was asked for
abbrev pub status_after : {T : Type 0} → Result T Stop → ℕ
status_after {T} (Ok done) = 0
status_after {T} (Err stop) = status_of stop

abbrev pub line_after : {T : Type 0} → Result T Stop → List ℕ
line_after {T} (Ok done) = []
line_after {T} (Err stop) = line_of stop

-- the reason to stop if a profile cannot be opened
abbrev pub stop_of_registry : RegFault → Stop
stop_of_registry (reg.Profile f) = Profile f
stop_of_registry reg.NoMemory = NoMemory
