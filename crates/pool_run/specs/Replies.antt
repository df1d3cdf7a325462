-- The replies of `try` to a script. Source: this project.
-- What a line is answered, and the texts of the answers, are run_model's: the same fold answers the lines of a run.
use Rattle.std.specs.Prelude.{ℕ, List, [], map, length}
use Rattle.std.specs.Fmt.{decimal}
use Rattle.std.specs.FinMap as finite
use Rattle.ec_positions.specs.Objects.{Objects}
use Rattle.ec_positions.specs.Refusals.{Absent, TooLarge, TooManyObjects, TooFull}
use Rattle.ec_positions.specs.Commands.{Reply, Done, Refused, Bad, apply_line, reply_to_line}
use Rattle.run_model.specs.Replies.{Answer, Standing, in_memory, replies_in}
use Rattle.pool_run.specs.Lines.{ScriptLine, command_of, kept_lines, script_line}
use Rattle.pool_run.specs.declared.reply.Reply.{Reply as CodeReply}
use Rattle.pool_run.specs.declared.reply.Reply.TheVariants.{Done as CodeDone, Listing as CodeListing, Absent as CodeAbsent, TooLarge as CodeTooLarge, TooManyObjects as CodeTooManyObjects, TooFull as CodeTooFull, Bad as CodeBad}
pub use Rattle.run_model.specs.Replies.{answers_text, is_done, is_good, replies_text, reply_text}

-- the reply that the code's type stands for
abbrev pub shown : CodeReply → Reply
shown (CodeDone text) = Done text []
shown (CodeListing entries) = Done (decimal (length entries.items)) entries.items
shown CodeAbsent = Refused Absent
shown CodeTooLarge = Refused TooLarge
shown CodeTooManyObjects = Refused TooManyObjects
shown CodeTooFull = Refused TooFull
shown CodeBad = Bad

-- the reply to the text of a line
abbrev pub reply_of : Objects → List ℕ → Reply
reply_of objects text = reply_to_line objects (command_of text)

-- the objects after it
abbrev pub objects_after : Objects → List ℕ → Objects
objects_after objects text = apply_line objects (command_of text)

-- a line for objects in memory
abbrev pub served_line : List ℕ → Standing × ScriptLine
served_line text = (in_memory, script_line text)

-- the answers of `try` to a script, from no objects
abbrev pub replies_to : List ℕ → List Answer
replies_to script = replies_in (map served_line (kept_lines script)) finite.empty
