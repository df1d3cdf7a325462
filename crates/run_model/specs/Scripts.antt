-- The lines of a script as values, and the line that a text is. Source: this project.
-- A further line is a constructor and its form below, and a case of what it is answered in Replies.antt.
use Rattle.std.specs.Prelude.{ℕ, ◌^◌, Bool, true, false, ◌&&◌, ◌==◌, not, nat_lt, if◌then◌else◌, List, [], ◌∷◌, length, filter, map, codes, bytes_eq, Option, Some, None, Result, Ok, Err}
use Rattle.std.specs.List.{slice_split}
use Rattle.std.specs.Fmt.{decimal}
use Rattle.std.specs.Str.Parse.{digits_value}
use Rattle.hex.specs.Hex.{decode_of}
use Rattle.hex.specs.declared.error.FromHexError.{FromHexError}
use Rattle.ec_words.specs.Fields.{fields}
use Rattle.ec_words.specs.Names.{is_name}
use Rattle.ec_positions.specs.Commands.{Command, Updates, Get, GetAttr, Stat, ListObjects, Flush, Scrub}
use Rattle.ec_positions.specs.Updates.{Update, Append, WriteAt, Full, Delete, SetAttr, RemoveAttr}

-- what an operator asks for: to take a slot in again or out, to fill the slots that lag behind, to empty a slot and fill it
pub data Operation : Type 0 where
  MarkUp : (slot : ℕ) → Operation
  MarkDown : (slot : ℕ) → Operation
  Recover : Operation
  Rebuild : (slot : ℕ) → Operation

-- a line of a script: longer than a line may be, of no form, a client's command, an operator's, or a question for the pool's state
pub data ScriptLine : Type 0 where
  LongLine : ScriptLine
  BadLine : ScriptLine
  Client : (command : Command) → ScriptLine
  Operator : (operation : Operation) → ScriptLine
  AskState : ScriptLine

-- the bytes of the longest line, without its line feed
abbrev pub max_line : ℕ
max_line = 2200000

-- ---- the fields of a line

-- the number below 2^64 that a field prints
abbrev pub number_in : List ℕ → Option ℕ
number_in text =
    let value = digits_value 10 text in
    if bytes_eq text (decimal value) && nat_lt value (2 ^ 64) then Some value else None

abbrev pub bytes_of_digits : Result (List ℕ) FromHexError → Option (List ℕ)
bytes_of_digits (Ok bytes) = Some bytes
bytes_of_digits (Err fault) = None

-- the bytes that a field of hexadecimal digits spells, if there are any digits
abbrev pub bytes_in : List ℕ → Option (List ℕ)
bytes_in digits = if length digits == 0 then None else bytes_of_digits (decode_of digits)

-- ---- the forms, by the number of fields

-- an update, if its bytes are spelled
abbrev pub update_with : (List ℕ → Update) → Option (List ℕ) → ScriptLine
update_with update None = BadLine
update_with update (Some bytes) = Client (Updates (update bytes))

-- a write, if its place is a number
abbrev pub write_at : List ℕ → Option ℕ → Option (List ℕ) → ScriptLine
write_at name None bytes = BadLine
write_at name (Some off) bytes = update_with (WriteAt name off) bytes

-- an operator's line about a slot, if that is a number
abbrev pub about_slot : (ℕ → Operation) → Option ℕ → ScriptLine
about_slot operation None = BadLine
about_slot operation (Some slot) = Operator (operation slot)

-- `flush`, `list`, `recover`, `status`
abbrev pub one_field : List ℕ → ScriptLine
one_field word =
    if bytes_eq word (codes "flush") then Client Flush
    else if bytes_eq word (codes "list") then Client ListObjects
    else if bytes_eq word (codes "recover") then Operator Recover
    else if bytes_eq word (codes "status") then AskState
    else BadLine

-- a word and an object's name; of the updates that put bytes it is the one without any
abbrev pub word_and_name : List ℕ → List ℕ → ScriptLine
word_and_name word name =
    if bytes_eq word (codes "get") then Client (Get name)
    else if bytes_eq word (codes "stat") then Client (Stat name)
    else if bytes_eq word (codes "scrub") then Client (Scrub name)
    else if bytes_eq word (codes "delete") then Client (Updates (Delete name))
    else if bytes_eq word (codes "append") then Client (Updates (Append name []))
    else if bytes_eq word (codes "full") then Client (Updates (Full name []))
    else BadLine

-- `up`, `down` and `rebuild` of a slot; of other words the second field is an object's name
abbrev pub two_fields : List ℕ → List ℕ → ScriptLine
two_fields word field =
    if bytes_eq word (codes "up") then about_slot MarkUp (number_in field)
    else if bytes_eq word (codes "down") then about_slot MarkDown (number_in field)
    else if bytes_eq word (codes "rebuild") then about_slot Rebuild (number_in field)
    else if is_name field then word_and_name word field
    else BadLine

-- a word and the names of an object and of an attribute
abbrev pub word_and_names : List ℕ → List ℕ → List ℕ → ScriptLine
word_and_names word name attr =
    if bytes_eq word (codes "getattr") then Client (GetAttr name attr)
    else if bytes_eq word (codes "rmattr") then Client (Updates (RemoveAttr name attr))
    else if bytes_eq word (codes "setattr") then Client (Updates (SetAttr name attr []))
    else BadLine

-- a word, an object's name, and digits, a place or an attribute's name
abbrev pub three_fields : List ℕ → List ℕ → List ℕ → ScriptLine
three_fields word name field =
    if not (is_name name) then BadLine
    else if bytes_eq word (codes "append") then update_with (Append name) (bytes_in field)
    else if bytes_eq word (codes "full") then update_with (Full name) (bytes_in field)
    else if bytes_eq word (codes "write") then write_at name (number_in field) (Some [])
    else if is_name field then word_and_names word name field
    else BadLine

-- a word, an object's name, a place or an attribute's name, and digits
abbrev pub four_fields : List ℕ → List ℕ → List ℕ → List ℕ → ScriptLine
four_fields word name field digits =
    if not (is_name name) then BadLine
    else if bytes_eq word (codes "write") then write_at name (number_in field) (bytes_in digits)
    else if bytes_eq word (codes "setattr") && is_name field then update_with (SetAttr name field) (bytes_in digits)
    else BadLine

-- the line that some fields are
abbrev pub line_of_fields : List (List ℕ) → ScriptLine
line_of_fields (word ∷ []) = one_field word
line_of_fields (word ∷ field ∷ []) = two_fields word field
line_of_fields (word ∷ name ∷ field ∷ []) = three_fields word name field
line_of_fields (word ∷ name ∷ field ∷ digits ∷ []) = four_fields word name field digits
line_of_fields others = BadLine

-- the line that a text between two line feeds is
abbrev pub line_of : List ℕ → ScriptLine
line_of text = if nat_lt max_line (length text) then LongLine else line_of_fields (fields text)

-- ---- a script for a pool

-- a slot below n, or none at all, is named
abbrev pub names_slot_below : ℕ → Operation → Bool
names_slot_below n (MarkUp slot) = nat_lt slot n
names_slot_below n (MarkDown slot) = nat_lt slot n
names_slot_below n Recover = true
names_slot_below n (Rebuild slot) = nat_lt slot n

-- a line for a pool of n slots: one about another slot is of no form
abbrev pub for_slots : ℕ → ScriptLine → ScriptLine
for_slots n (Operator operation) = if names_slot_below n operation then Operator operation else BadLine
for_slots n line = line

-- an empty line, and one that begins with `#`, is skipped
abbrev pub is_kept : List ℕ → Bool
is_kept [] = false
is_kept (first ∷ rest) = not (first == 35)

-- the lines that count, without their line feeds; a last one needs none
abbrev pub kept_lines : List ℕ → List (List ℕ)
kept_lines script = filter is_kept (slice_split (λ b. b == 10) script)

-- the lines of a script for a pool of n slots, in order
abbrev pub lines_of : ℕ → List ℕ → List ScriptLine
lines_of n script = map (λ text. for_slots n (line_of text)) (kept_lines script)
