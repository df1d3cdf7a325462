-- The lines that are served so far, and the lines that the code's type stands for. Source: this project.
-- Read first: run_model's Scripts.antt, which has all forms of lines.
use Rattle.std.specs.Prelude.{ℕ, Bool, true, false, if◌then◌else◌, List, map, Option, Some, None}
use Rattle.ec_positions.specs.Commands.{Command, Updates, Get, GetAttr, Stat, ListObjects, Flush, Scrub}
use Rattle.ec_positions.specs.Updates.{Append, WriteAt, Full, Delete, SetAttr, RemoveAttr}
use Rattle.ec_words.specs.Fields.{fields}
use Rattle.pool_run.specs.declared.line.Line.{Line}
use Rattle.pool_run.specs.declared.line.Line.TheVariants as code
pub use Rattle.run_model.specs.Scripts.{ScriptLine, BadLine, Client, Operator, AskState, MarkUp, MarkDown, Recover, Rebuild, is_kept, kept_lines, line_of_fields}

-- the lines that are served so far
abbrev pub is_served : ScriptLine → Bool
is_served (Client (Updates (Append name bytes))) = true
is_served (Client (Updates (WriteAt name off bytes))) = true
is_served (Client (Updates (Full name bytes))) = true
is_served (Client (Updates (Delete name))) = true
is_served (Client (Get name)) = true
is_served (Client (Stat name)) = true
is_served (Client ListObjects) = true
is_served (Client Flush) = true
is_served others = false

-- a line if it is served; one that is not served yet has no form
abbrev pub if_served : ScriptLine → ScriptLine
if_served line = if is_served line then line else BadLine

-- the line that a text is. A script of `try` has no line that is too long, since it is shorter as a whole
abbrev pub script_line : List ℕ → ScriptLine
script_line text = if_served (line_of_fields (fields text))

-- the command of a line, if it is a client's
abbrev pub command_in : ScriptLine → Option Command
command_in (Client command) = Some command
command_in others = None

abbrev pub command_of : List ℕ → Option Command
command_of text = command_in (script_line text)

-- those of a script's lines
abbrev pub commands_of : List (List ℕ) → List (Option Command)
commands_of lines = map command_of lines

-- the line that the code's type stands for
abbrev pub line_shown : Line → ScriptLine
line_shown (code.Append name bytes) = Client (Updates (Append name bytes))
line_shown (code.Write name off bytes) = Client (Updates (WriteAt name off bytes))
line_shown (code.Full name bytes) = Client (Updates (Full name bytes))
line_shown (code.Delete name) = Client (Updates (Delete name))
line_shown (code.SetAttr name attr value) = Client (Updates (SetAttr name attr value))
line_shown (code.RemoveAttr name attr) = Client (Updates (RemoveAttr name attr))
line_shown (code.Get name) = Client (Get name)
line_shown (code.GetAttr name attr) = Client (GetAttr name attr)
line_shown (code.Stat name) = Client (Stat name)
line_shown code.ListObjects = Client ListObjects
line_shown code.Flush = Client Flush
line_shown (code.Scrub name) = Client (Scrub name)
line_shown (code.Up slot) = Operator (MarkUp slot)
line_shown (code.Down slot) = Operator (MarkDown slot)
line_shown code.Recover = Operator Recover
line_shown (code.Rebuild slot) = Operator (Rebuild slot)
line_shown code.Status = AskState
