-- The promise of `ecpool try`: what it says is a prefix of the replies of a map of objects, in the order of the
-- script's lines, and then the line that belongs to its status. Source: this project.
-- Read first: ec_positions' Commands.antt (`reply_to`, `apply_command`) and run_model's Replies.antt (`replies_in`), then Lines.antt,
-- Replies.antt and Texts.antt beside this.
use Rattle.std.specs.Prelude.{◌≡◌, ◌≢◌, ◌<◌, ◌≤◌, nat_lt, if◌then◌else◌, ℕ, true, false, List, [], ◌∷◌, ◌++◌, length, take, Option}
use Rattle.std.specs.List.{list_all}
use Rattle.std.specs.Io.KnownBytes.{Appends, IsAtEnd}
use Rattle.pool_run.specs.Replies.{replies_to, answers_text, is_good}
use Rattle.pool_run.specs.Texts.{OneOf, line_of, max_input}

-- the status of a run in which nothing fails
abbrev pub status_of : List ℕ → ℕ
status_of script =
    if nat_lt max_input (length script) then 12
    else if list_all is_good (replies_to script) then 0
    else 1

-- some first bytes of the replies were said, and then the line of the status. Where the output failed, it is some first
-- bytes of the line of the status that the run would have had. A script that is too long has no replies.
pub record SaysInOrder (script : List ℕ) (status : ℕ) (before now : Option (List ℕ)) : Type 0 where
  pub count : ℕ
  pub line : List ℕ
  pub said : Appends before now (take count (answers_text (replies_to script)) ++ line)
  pub whole_line : status ≢ 9 → line ≡ line_of status
  pub cut_line : status ≡ 9 → (bytes : ℕ) × (line ≡ take bytes (line_of (status_of script)))
  pub no_reply : max_input < length script → count ≡ 0

-- a script was answered, to its end or in part
pub record IsAnswered (script : List ℕ) (status : ℕ) (before now left : Option (List ℕ)) : Type 0 where
  -- a prefix of the replies of the map from no objects, and then the line that belongs to the status
  pub in_order : SaysInOrder script status before now
  -- with status 0 or 1 all the replies, to a script within the limit that was read to its end
  pub whole : OneOf status (0 ∷ 1 ∷ []) → Appends before now (answers_text (replies_to script))
  pub within : OneOf status (0 ∷ 1 ∷ []) → length script ≤ max_input
  pub at_end : OneOf status (0 ∷ 1 ∷ []) → IsAtEnd left
  -- status 0 if each reply begins with `ok`, and status 1 if some reply does not
  pub all_done : status ≡ 0 → list_all is_good (replies_to script) ≡ true
  pub some_refused : status ≡ 1 → list_all is_good (replies_to script) ≡ false
  -- status 8 before any reply, and status 12 with its line alone
  pub unread : status ≡ 8 → Appends before now []
  pub too_long : status ≡ 12 → (max_input < length script) × Appends before now (line_of 12)
