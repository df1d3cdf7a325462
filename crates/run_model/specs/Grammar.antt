-- The script language as it is written: words, names, numbers and digits, one space apart. Source: this project.
use Rattle.std.specs.Prelude.{◌≡◌, ◌≤◌, ℕ, List, [], ◌∷◌, ◌++◌, length, codes, IsTrue}
use Rattle.std.specs.List.{join_with_byte}
use Rattle.ec_words.specs.HexText.{SpellsBytes}
use Rattle.ec_words.specs.Names.{is_name}
use Rattle.ec_words.specs.Numbers.{IsNumberText}
use Rattle.ec_positions.specs.Commands.{Updates, Get, GetAttr, Stat, ListObjects, Flush, Scrub}
use Rattle.ec_positions.specs.Updates.{Append, WriteAt, Full, Delete, SetAttr, RemoveAttr}
use Rattle.run_model.specs.Scripts.{ScriptLine, LongLine, BadLine, Client, Operator, AskState, MarkUp, MarkDown, Recover, Rebuild}

-- some fields, and then one of hexadecimal digits that spell some bytes; that one is left out if there are no bytes
pub data EndWithBytes (front : List (List ℕ)) : List ℕ → List (List ℕ) → Type 0 where
  NoBytes : EndWithBytes front [] front
  SomeBytes : (digits bytes : List ℕ) → 1 ≤ length digits → SpellsBytes digits bytes → EndWithBytes front bytes (front ++ digits ∷ [])

-- a word and a number
pub record IsAboutNumber (word : List ℕ) (n : ℕ) (fields : List (List ℕ)) : Type 0 where
  pub digits : List ℕ
  pub number : IsNumberText digits n
  pub are : fields ≡ word ∷ digits ∷ []

-- `write`, a name, a number, and bytes
pub record IsWrite (name : List ℕ) (off : ℕ) (bytes : List ℕ) (fields : List (List ℕ)) : Type 0 where
  pub place : List ℕ
  pub number : IsNumberText place off
  pub ends : EndWithBytes (codes "write" ∷ name ∷ place ∷ []) bytes fields

-- a text is an object's or an attribute's name
abbrev pub IsName : List ℕ → Type 0
IsName name = IsTrue (is_name name)

-- some fields are those of a line. A line that is too long or of no form has none
abbrev pub AreFieldsOf : ScriptLine → List (List ℕ) → Type 0
AreFieldsOf LongLine fields = ⊥
AreFieldsOf BadLine fields = ⊥
AreFieldsOf (Client (Updates (Append name bytes))) fields = IsName name × EndWithBytes (codes "append" ∷ name ∷ []) bytes fields
AreFieldsOf (Client (Updates (WriteAt name off bytes))) fields = IsName name × IsWrite name off bytes fields
AreFieldsOf (Client (Updates (Full name bytes))) fields = IsName name × EndWithBytes (codes "full" ∷ name ∷ []) bytes fields
AreFieldsOf (Client (Updates (Delete name))) fields = IsName name × (fields ≡ codes "delete" ∷ name ∷ [])
AreFieldsOf (Client (Updates (SetAttr name attr value))) fields =
    IsName name × (IsName attr × EndWithBytes (codes "setattr" ∷ name ∷ attr ∷ []) value fields)
AreFieldsOf (Client (Updates (RemoveAttr name attr))) fields = IsName name × (IsName attr × (fields ≡ codes "rmattr" ∷ name ∷ attr ∷ []))
AreFieldsOf (Client (Get name)) fields = IsName name × (fields ≡ codes "get" ∷ name ∷ [])
AreFieldsOf (Client (GetAttr name attr)) fields = IsName name × (IsName attr × (fields ≡ codes "getattr" ∷ name ∷ attr ∷ []))
AreFieldsOf (Client (Stat name)) fields = IsName name × (fields ≡ codes "stat" ∷ name ∷ [])
AreFieldsOf (Client ListObjects) fields = fields ≡ codes "list" ∷ []
AreFieldsOf (Client Flush) fields = fields ≡ codes "flush" ∷ []
AreFieldsOf (Client (Scrub name)) fields = IsName name × (fields ≡ codes "scrub" ∷ name ∷ [])
AreFieldsOf (Operator (MarkUp slot)) fields = IsAboutNumber (codes "up") slot fields
AreFieldsOf (Operator (MarkDown slot)) fields = IsAboutNumber (codes "down") slot fields
AreFieldsOf (Operator Recover) fields = fields ≡ codes "recover" ∷ []
AreFieldsOf (Operator (Rebuild slot)) fields = IsAboutNumber (codes "rebuild") slot fields
AreFieldsOf AskState fields = fields ≡ codes "status" ∷ []

-- a line has a form: it is neither too long nor bad
abbrev pub IsForm : ScriptLine → Type 0
IsForm LongLine = ⊥
IsForm BadLine = ⊥
IsForm others = Unit {0}

-- a text spells a line: it is the line's fields with a space between each two
pub record Spells (text : List ℕ) (line : ScriptLine) : Type 0 where
  pub pieces : List (List ℕ)
  pub are : AreFieldsOf line pieces
  pub joined : text ≡ join_with_byte 32 pieces
