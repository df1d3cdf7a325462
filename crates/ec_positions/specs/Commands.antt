-- What a client asks of the objects, and what it is answered. Source: this project.
-- Nothing here knows of chunks, logs or epochs.
use Rattle.std.specs.Prelude.{ℕ, List, [], ◌∷◌, map, length, Option, Some, None, is_none}
use Rattle.std.specs.FinMap as fin
use Rattle.std.specs.Fmt.{decimal}
use Rattle.hex.specs.Hex.{encode_lower}
use Rattle.ec_positions.specs.Objects.{Object, Objects, bytes_in, attrs_in}
use Rattle.ec_positions.specs.Updates.{Update, after}
use Rattle.ec_positions.specs.Refusals.{Refusal, Absent, NoAttr, first_of, refusal_of}

-- an update; `get` asks for an object's bytes, `getattr` for an attribute's value, `stat` for an object's size, `list` for all names
-- with their sizes; `flush` asks that what was acknowledged be kept; `scrub` asks whether the positions of an object agree
pub data Command : Type 0 where
  Updates : (update : Update) → Command
  Get : (name : List ℕ) → Command
  GetAttr : (name attr : List ℕ) → Command
  Stat : (name : List ℕ) → Command
  ListObjects : Command
  Flush : Command
  Scrub : (name : List ℕ) → Command

-- `ok` with the text of its second field, and under it names with sizes (both may be empty); `clean`; a refusal; `bad`, the answer
-- to a line that spells no command
pub data Reply : Type 0 where
  Done : (text : List ℕ) (listing : List (List ℕ × ℕ)) → Reply
  Clean : Reply
  Refused : (why : Refusal) → Reply
  Bad : Reply

-- an attribute's value, if it is there
abbrev pub value_in : Option (List ℕ) → List ℕ
value_in None = []
value_in (Some value) = value

-- the names in ascending order, each with its object's size
abbrev pub listing_of : Objects → List (List ℕ × ℕ)
listing_of objects = map (λ entry. (entry.0, length entry.1.bytes)) (fin.entries objects)

-- refused if no object is there
abbrev pub refused_if_absent : Option Object → Option Refusal
refused_if_absent object = first_of ((is_none object, Absent) ∷ [])

-- the refusal of a command on these objects, if there is one
abbrev pub refusal_of_command : Objects → Command → Option Refusal
refusal_of_command objects (Updates update) = refusal_of objects update
refusal_of_command objects (Get name) = refused_if_absent (fin.get objects name)
refusal_of_command objects (GetAttr name attr) =
    let object = fin.get objects name in
    first_of ((is_none object, Absent) ∷ (is_none (fin.get (attrs_in object) attr), NoAttr) ∷ [])
refusal_of_command objects (Stat name) = refused_if_absent (fin.get objects name)
refusal_of_command objects ListObjects = None
refusal_of_command objects Flush = None
refusal_of_command objects (Scrub name) = refused_if_absent (fin.get objects name)

-- the objects after a command that is not refused
abbrev pub effect_of : Objects → Command → Objects
effect_of objects (Updates update) = after objects update
effect_of objects others = objects

-- the answer to a command that is not refused
abbrev pub answer_to : Objects → Command → Reply
answer_to objects (Updates update) = Done [] []
answer_to objects (Get name) = Done (encode_lower (bytes_in (fin.get objects name))) []
answer_to objects (GetAttr name attr) = Done (encode_lower (value_in (fin.get (attrs_in (fin.get objects name)) attr))) []
answer_to objects (Stat name) = Done (decimal (length (bytes_in (fin.get objects name)))) []
answer_to objects ListObjects = Done (decimal (fin.len objects)) (listing_of objects)
answer_to objects Flush = Done [] []
answer_to objects (Scrub name) = Clean

-- the first if there is no refusal, and else what the second makes of it
abbrev pub unless_refused : {X : Type 0} → Option Refusal → X → (Refusal → X) → X
unless_refused None accepted refused = accepted
unless_refused (Some refusal) accepted refused = refused refusal

-- the objects after a command: a refused one leaves them
abbrev pub apply_command : Objects → Command → Objects
apply_command objects command =
    unless_refused (refusal_of_command objects command) (effect_of objects command) (λ _. objects)

-- the reply to a command
abbrev pub reply_to : Objects → Command → Reply
reply_to objects command =
    unless_refused (refusal_of_command objects command) (answer_to objects command) (λ refusal. Refused refusal)

-- a line that spells no command leaves the objects, and is answered `bad`
abbrev pub apply_line : Objects → Option Command → Objects
apply_line objects (Some command) = apply_command objects command
apply_line objects None = objects

abbrev pub reply_to_line : Objects → Option Command → Reply
reply_to_line objects (Some command) = reply_to objects command
reply_to_line objects None = Bad

-- the objects after the lines of a script
abbrev pub apply_lines : Objects → List (Option Command) → Objects
apply_lines objects [] = objects
apply_lines objects (line ∷ lines) = apply_lines (apply_line objects line) lines

-- the replies to the lines of a script, each on the objects after the lines before it
abbrev pub replies_to_lines : Objects → List (Option Command) → List Reply
replies_to_lines objects [] = []
replies_to_lines objects (line ∷ lines) =
    reply_to_line objects line ∷ replies_to_lines (apply_line objects line) lines
