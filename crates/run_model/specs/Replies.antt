-- What a pool answers to each line of a script, and the texts of the answers. Source: this project.
-- Read first: ec_positions' Commands.antt (`reply_to`, `apply_command`), then Scripts.antt beside this.
use Rattle.std.specs.Prelude.{ℕ, Bool, true, false, if◌then◌else◌, List, [], ◌∷◌, ◌++◌, codes, Option, Some, None}
use Rattle.std.specs.Fmt.{decimal}
use Rattle.std.specs.List.{flat_map}
use Rattle.ec_words.specs.Fields.{optional_field}
use Rattle.ec_words.specs.Masks.{mask_text}
use Rattle.ec_positions.specs.Objects.{Objects}
use Rattle.ec_positions.specs.Updates.{Update, after}
use Rattle.ec_positions.specs.Refusals.{Refusal, Absent, NoAttr, TooLarge, TooManyObjects, TooFull, TooManyAttrs}
use Rattle.ec_positions.specs.Commands.{Command, Updates, Reply, Done, Clean, Refused, Bad, apply_command, reply_to}
use Rattle.run_model.specs.Scripts.{Operation, MarkUp, MarkDown, Recover, Rebuild, ScriptLine, LongLine, BadLine, Client, Operator, AskState}

-- how a pool serves clients: it does, in the interval of this epoch, with these slots joined; it does not, since too few slots
-- joined; it does not, since of an interval too few slots are left
pub data Serving : Type 0 where
  Serves : (epoch joined : ℕ) → Serving
  IsShort : (joined min : ℕ) → Serving
  IsDown : (epoch slots : ℕ) → Serving

-- what a line is answered: the reply of the objects; that positions of an object differ, with those that may be wrong; that the
-- line is too long; how the pool does not serve; how it serves; that a slot failed; that what became of a change is not known
pub data Answer : Type 0 where
  Replied : (reply : Reply) → Answer
  Differs : (suspects : ℕ) → Answer
  TooLong : Answer
  Short : (joined min : ℕ) → Answer
  Down : (epoch slots : ℕ) → Answer
  State : (serving : Serving) → Answer
  Failed : (slot : ℕ) → Answer
  Unsure : Answer

-- what a pool is to a line, beside its objects: how it serves; by slot, how it serves after a rebuild of that, and whether it
-- failed in this run
pub record Standing : Type 0 where
  pub serving : Serving
  pub rebuilt : ℕ → Serving
  pub failed : ℕ → Bool

-- an answer if the pool serves, and else that it does not
abbrev pub if_serving : Serving → Answer → Answer
if_serving (Serves epoch joined) answer = answer
if_serving (IsShort joined min) answer = Short joined min
if_serving (IsDown epoch slots) answer = Down epoch slots

-- the answer to an operator
abbrev pub answer_to_operator : Standing → Operation → Answer
answer_to_operator pool (MarkUp slot) = if_serving pool.serving (Replied (Done [] []))
answer_to_operator pool (MarkDown slot) = if_serving pool.serving (Replied (Done [] []))
answer_to_operator pool Recover = if_serving pool.serving (Replied (Done [] []))
answer_to_operator pool (Rebuild slot) = if pool.failed slot then Failed slot else if_serving (pool.rebuilt slot) (Replied (Done [] []))

-- the answer to a line
abbrev pub answer_to_line : Standing → Objects → ScriptLine → Answer
answer_to_line pool objects LongLine = TooLong
answer_to_line pool objects BadLine = Replied Bad
answer_to_line pool objects (Client command) = if_serving pool.serving (Replied (reply_to objects command))
answer_to_line pool objects (Operator operation) = answer_to_operator pool operation
answer_to_line pool objects AskState = State pool.serving

-- the objects after a client's command: they change only if the pool serves
abbrev pub objects_after_client : Serving → Objects → Command → Objects
objects_after_client (Serves epoch joined) objects command = apply_command objects command
objects_after_client (IsShort joined min) objects command = objects
objects_after_client (IsDown epoch slots) objects command = objects

-- the objects after a line
abbrev pub objects_after_line : Standing → Objects → ScriptLine → Objects
objects_after_line pool objects (Client command) = objects_after_client pool.serving objects command
objects_after_line pool objects others = objects

-- the answers to lines, each with what the pool is when it comes, from these objects on
abbrev pub replies_in : List (Standing × ScriptLine) → Objects → List Answer
replies_in [] objects = []
replies_in (line ∷ lines) objects = answer_to_line line.0 objects line.1 ∷ replies_in lines (objects_after_line line.0 objects line.1)

-- ---- the update that a line makes

-- the update of a line that was answered with `ok`, if it is one
abbrev pub update_in : ScriptLine → Answer → Option Update
update_in (Client (Updates update)) (Replied (Done text listing)) = Some update
update_in line answer = None

-- the objects after it
abbrev pub objects_with : Objects → Option Update → Objects
objects_with objects None = objects
objects_with objects (Some update) = after objects update

-- ---- objects in memory

-- objects in memory always serve
abbrev pub in_memory : Standing
in_memory = record { serving = Serves 0 0; rebuilt = λ slot. Serves 0 0; failed = λ slot. false }

-- ---- texts

-- the word of a refusal
abbrev pub refusal_word : Refusal → List ℕ
refusal_word Absent = codes "absent"
refusal_word NoAttr = codes "noattr"
refusal_word TooLarge = codes "toolarge"
refusal_word TooManyObjects = codes "objects"
refusal_word TooFull = codes "full"
refusal_word TooManyAttrs = codes "attrs"

-- a name with its object's size, under the line of a listing
abbrev pub listed_text : List ℕ × ℕ → List ℕ
listed_text listed = 32 ∷ 32 ∷ (listed.0 ++ 32 ∷ (decimal listed.1 ++ 10 ∷ []))

-- the line of a reply and the lines under it, each with its line feed
abbrev pub reply_text : Reply → List ℕ
reply_text (Done text listing) = (codes "ok" ++ optional_field text) ++ 10 ∷ flat_map listed_text listing
reply_text Clean = codes "clean\n"
reply_text (Refused why) = refusal_word why ++ 10 ∷ []
reply_text Bad = codes "bad" ++ 10 ∷ []

-- the lines of some replies, one after another
abbrev pub replies_text : List Reply → List ℕ
replies_text replies = flat_map reply_text replies

-- a word, a number, and a number or a mask
abbrev pub short_line : ℕ → ℕ → List ℕ
short_line joined min = codes "short " ++ (decimal joined ++ 32 ∷ (decimal min ++ 10 ∷ []))

abbrev pub down_line : ℕ → ℕ → List ℕ
down_line epoch slots = codes "down " ++ (decimal epoch ++ 32 ∷ (mask_text slots ++ 10 ∷ []))

abbrev pub serving_line : Serving → List ℕ
serving_line (Serves epoch joined) = codes "active " ++ (decimal epoch ++ 32 ∷ (mask_text joined ++ 10 ∷ []))
serving_line (IsShort joined min) = short_line joined min
serving_line (IsDown epoch slots) = down_line epoch slots

-- an answer as it is said, with its line feeds
abbrev pub answer_text : Answer → List ℕ
answer_text (Replied reply) = reply_text reply
answer_text (Differs suspects) = codes "differs " ++ (mask_text suspects ++ 10 ∷ [])
answer_text TooLong = codes "long\n"
answer_text (Short joined min) = short_line joined min
answer_text (Down epoch slots) = down_line epoch slots
answer_text (State serving) = codes "state " ++ serving_line serving
answer_text (Failed slot) = codes "failed " ++ (decimal slot ++ 10 ∷ [])
answer_text Unsure = codes "unsure\n"

-- some answers, one after another
abbrev pub answers_text : List Answer → List ℕ
answers_text answers = flat_map answer_text answers

-- a reply begins with `ok` or is `clean`, so it is no refusal
abbrev pub is_done : Reply → Bool
is_done (Done text listing) = true
is_done Clean = true
is_done (Refused why) = false
is_done Bad = false

-- an answer begins with `ok`, `clean` or `state`, so a run in which all do ends with status 0
abbrev pub is_good : Answer → Bool
is_good (Replied reply) = is_done reply
is_good (State serving) = true
is_good others = false
