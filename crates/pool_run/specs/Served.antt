-- What it is to serve a line on objects that are kept. Source: this project.
-- Read first: ec_positions' Commands.antt (`reply_to_line`, `apply_line`), and Stored.antt beside this.
use Rattle.std.specs.Prelude.{◌≡◌, ℕ, Option}
use Rattle.ec_model.specs.Codes.{CodeRows}
use Rattle.ec_positions.specs.Commands.{Command, apply_line, reply_to_line}
use Rattle.ec_positions.specs.Objects.{Objects}
use Rattle.pool_run.specs.Replies.{shown}
use Rattle.pool_run.specs.Stored.{AreStored, Kept, OfKept}
use Rattle.pool_run.specs.declared.reply.Reply.{Reply as CodeReply}

-- on these objects a line's command has this reply, and the objects after it are kept so
pub record IsServed (code : CodeRows) (unit : ℕ) (command : Option Command) (after : Kept) (answer : CodeReply) (objects : Objects) : Type 0 where
  pub reply : shown answer ≡ reply_to_line objects command
  pub kept : AreStored code unit (apply_line objects command) after

-- whichever objects are kept, it is so on them
abbrev pub Serves : CodeRows → ℕ → Option Command → Kept → Kept → CodeReply → Type 0
Serves code unit command before after answer = OfKept code unit before (IsServed code unit command after answer)
