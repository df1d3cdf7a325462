-- How an input is read and a script answered. Source: this project.
use Rattle.std.specs.Prelude.{◌≡◌, ◌<◌, ℕ, true, false, List, [], ◌∷◌, length, Option}
use Rattle.std.specs.List.{list_all}
use Rattle.std.specs.Io.KnownBytes.{Appends, Consumes, IsAtEnd}
use Rattle.rig_disk.specs.Said.{SaysFront}
use Rattle.pool_run.specs.Replies.{replies_to, answers_text, is_good}
use Rattle.pool_run.specs.Texts.{OneOf, max_input}

-- all that was left of an input was taken
pub record ReadsAll (before now : Option (List ℕ)) (input : List ℕ) : Type 0 where
  pub taken : Consumes before now input
  pub at_end : IsAtEnd now

-- more was left of an input than its limit
abbrev pub HadMore : Option (List ℕ) → Option (List ℕ) → Type 0
HadMore before now = (bytes : List ℕ) × Consumes before now bytes × (max_input < length bytes)

-- a script's lines were answered, all of them with status 0 or 1, and else some first bytes of the replies were said
pub record IsRun (script : List ℕ) (status : ℕ) (before now : Option (List ℕ)) : Type 0 where
  pub front : SaysFront before now (answers_text (replies_to script))
  pub whole : OneOf status (0 ∷ 1 ∷ []) → Appends before now (answers_text (replies_to script))
  pub all_done : status ≡ 0 → list_all is_good (replies_to script) ≡ true
  pub some_refused : status ≡ 1 → list_all is_good (replies_to script) ≡ false
