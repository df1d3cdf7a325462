-- What a planner keeps. Source: this project.
use Rattle.std.specs.Prelude.{⊤, ℕ}
use Rattle.ec_model.specs.Codes.{CodeRows}

-- what a planner keeps: how many answers it has room for
pub record Kept : Type 0 where
  pub entries : ℕ

-- the kept answers are right for a code. No answer is kept yet, so this always holds, but callers must not rely on that
unfoldable pub FitsCode : Kept → CodeRows → Type 0
FitsCode kept code = ⊤
