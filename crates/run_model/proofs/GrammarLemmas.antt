-- A text spells a line exactly if its fields are read as that line.
use Rattle.std.proofs.Common.{◌≡◌, ◌≢◌, ◌⊎◌, ℕ, ◌^◌, ◌%◌, ◌≤◌, ◌<◌, ◌==◌, ◌&&◌, Bool, true, false, not, inl, inr, refl, sym, ap, subst, ◌∙◌, List, [], ◌∷◌, ◌++◌, length, length-append, Option, Some, None, Result, Ok, Err, if◌then◌else◌, arith}
use Rattle.std.specs.Prelude.{codes, nat_le, nat_lt, bytes_eq, IsTrue}
use Rattle.std.specs.Fmt.{decimal}
use Rattle.std.specs.List.{list_all, AllByRecursion}
use Rattle.std.specs.Str.Parse.{AllDigits, digits_value}
use Rattle.std.proofs.lemmas.Bool.{and_parts, leb-true, lt-ltb, ltb-true, ne_eqb}
use Rattle.std.proofs.lemmas.Fmt.{decimal_is_IsNumeral}
use Rattle.std.proofs.lemmas.List.Elements.{All-from_recursion}
use Rattle.std.proofs.lemmas.Slice.Eq.{bytes_eq-Decides}
use Rattle.std.proofs.lemmas.Str.Parse.{digit_from_value}
use Rattle.hex.specs.Hex.{decode_of}
use Rattle.hex.specs.declared.error.FromHexError.{FromHexError}
use Rattle.ec_positions.specs.Commands.{Updates, Get, GetAttr, Stat, ListObjects, Flush, Scrub}
use Rattle.ec_positions.specs.Updates.{Update, Append, WriteAt, Full, Delete, SetAttr, RemoveAttr}
use Rattle.ec_words.specs.Fields.{fields, HasNoSpace}
use Rattle.ec_words.specs.HexText.{SpellsBytes, is_digit}
use Rattle.ec_words.specs.Names.{is_name, is_name_byte, max_name}
use Rattle.ec_words.specs.Numbers.{IsNumberText}
use Rattle.ec_words.proofs.CallerLemmas.{fields-joined, fields_stand_apart, is_hex_text_of_spelled, decode_of-spelled, spelled-decode_of}
use Rattle.run_model.specs.Grammar.{AreFieldsOf, EndWithBytes, NoBytes, SomeBytes, IsAboutNumber, IsForm, IsName, IsWrite, Spells}
use Rattle.run_model.specs.Scripts.{ScriptLine, LongLine, BadLine, Client, Operator, AskState, Operation, MarkUp, MarkDown, Recover, Rebuild, about_slot, bytes_in, bytes_of_digits, four_fields, line_of_fields, number_in, one_field, three_fields, two_fields, update_with, word_and_name, word_and_names, write_at}

-- ---- fields without a space

-- a text of which each byte passes a test that a space does not pass has no space
unbroken : (test : ℕ → Bool) → ((b : ℕ) → test b ≡ true → b ≢ 32) → (text : List ℕ) → list_all test text ≡ true → HasNoSpace text
unbroken test no_space text all = All-from_recursion (λ b. b ≢ 32) text (each text all) where
  each : (bytes : List ℕ) → list_all test bytes ≡ true → AllByRecursion (λ b. b ≢ 32) bytes
  each [] passed = tt
  each (b ∷ bytes) passed = let parts = and_parts (test b) (list_all test bytes) passed in (no_space b parts.0, each bytes parts.1)

no_space_in_names : (b : ℕ) → is_name_byte b ≡ true → b ≢ 32
no_space_in_names b is e = let low : 33 ≤ b = leb-true 33 b (and_parts (nat_le 33 b) (nat_le b 126) is).0 in omega arith

digit_no_space : (b : ℕ) → b ≡ 32 → is_digit b ≡ false
digit_no_space b e = ap is_digit e

no_space_in_digits : (b : ℕ) → is_digit b ≡ true → b ≢ 32
no_space_in_digits b is e = let both : true ≡ false = sym is ∙ digit_no_space b e in cc

name_unbroken : (name : List ℕ) → IsTrue (is_name name) → HasNoSpace name
name_unbroken name is =
    let parts = and_parts (nat_le 1 (length name)) (nat_le (length name) max_name && list_all is_name_byte name) is in
    unbroken is_name_byte no_space_in_names name (and_parts (nat_le (length name) max_name) (list_all is_name_byte name) parts.1).1

digits_unbroken : (digits bytes : List ℕ) → SpellsBytes digits bytes → HasNoSpace digits
digits_unbroken digits bytes spells =
    unbroken is_digit no_space_in_digits digits (and_parts (length digits % 2 == 0) (list_all is_digit digits) (is_hex_text_of_spelled digits bytes spells)).1

no_space_in_numerals : (ds : List ℕ) → AllDigits 10 ds → AllByRecursion (λ b. b ≢ 32) ds
no_space_in_numerals [] all = tt
no_space_in_numerals (d ∷ ds) all = (λ e. omega (arith, (digit_from_value d all.0).0, e), no_space_in_numerals ds all.1)

number_unbroken : (text : List ℕ) (n : ℕ) → IsNumberText text n → HasNoSpace text
number_unbroken text n is =
    subst HasNoSpace (sym is.1) (All-from_recursion (λ b. b ≢ 32) (decimal n) (no_space_in_numerals (decimal n) (decimal_is_IsNumeral n is.0).0.1))

-- there is a field, and none has a space
abbrev StandAlone : List (List ℕ) → Type 0
StandAlone pieces = (1 ≤ length pieces) × AllByRecursion HasNoSpace pieces

one_more : (front : List (List ℕ)) (last : List ℕ) → AllByRecursion HasNoSpace front → HasNoSpace last → AllByRecursion HasNoSpace (front ++ last ∷ [])
one_more [] last all is = (is, tt)
one_more (first ∷ front) last all is = (all.0, one_more front last all.1 is)

ends_alone : (front : List (List ℕ)) (bytes : List ℕ) (pieces : List (List ℕ)) → StandAlone front → EndWithBytes front bytes pieces → StandAlone pieces
ends_alone front bytes pieces alone NoBytes = alone
ends_alone front bytes pieces alone (SomeBytes digits its some spells) =
    (omega (arith, length-append front (digits ∷ []), alone.0), one_more front digits alone.1 (digits_unbroken digits its spells))

one_alone : (word : List ℕ) → IsName word → StandAlone (word ∷ [])
one_alone word is = (omega arith, (name_unbroken word is, tt))

two_alone : (word name : List ℕ) → IsName word → IsName name → StandAlone (word ∷ name ∷ [])
two_alone word name is named = (omega arith, (name_unbroken word is, (name_unbroken name named, tt)))

three_alone : (word name attr : List ℕ) → IsName word → IsName name → IsName attr → StandAlone (word ∷ name ∷ attr ∷ [])
three_alone word name attr is named other = (omega arith, (name_unbroken word is, (name_unbroken name named, (name_unbroken attr other, tt))))

number_alone : (word : List ℕ) (n : ℕ) (pieces : List (List ℕ)) → IsName word → IsAboutNumber word n pieces → StandAlone pieces
number_alone word n pieces is about =
    subst StandAlone (sym about.are) (omega arith, (name_unbroken word is, (number_unbroken about.digits n about.number, tt)))

write_alone : (name : List ℕ) (off : ℕ) (bytes : List ℕ) (pieces : List (List ℕ)) → IsName name → IsWrite name off bytes pieces → StandAlone pieces
write_alone name off bytes pieces named write =
    ends_alone (codes "write" ∷ name ∷ write.place ∷ []) bytes pieces
    (omega arith, (name_unbroken (codes "write") refl, (name_unbroken name named, (number_unbroken write.place off write.number, tt))))
    write.ends

fields_alone : (line : ScriptLine) (pieces : List (List ℕ)) → AreFieldsOf line pieces → StandAlone pieces
fields_alone LongLine pieces are = absurd are
fields_alone BadLine pieces are = absurd are
fields_alone (Client (Updates (Append name bytes))) pieces are =
    ends_alone (codes "append" ∷ name ∷ []) bytes pieces (two_alone (codes "append") name refl are.0) are.1
fields_alone (Client (Updates (WriteAt name off bytes))) pieces are = write_alone name off bytes pieces are.0 are.1
fields_alone (Client (Updates (Full name bytes))) pieces are =
    ends_alone (codes "full" ∷ name ∷ []) bytes pieces (two_alone (codes "full") name refl are.0) are.1
fields_alone (Client (Updates (Delete name))) pieces are = subst StandAlone (sym are.1) (two_alone (codes "delete") name refl are.0)
fields_alone (Client (Updates (SetAttr name attr value))) pieces are =
    ends_alone (codes "setattr" ∷ name ∷ attr ∷ []) value pieces (three_alone (codes "setattr") name attr refl are.0 are.1.0) are.1.1
fields_alone (Client (Updates (RemoveAttr name attr))) pieces are = subst StandAlone (sym are.1.1) (three_alone (codes "rmattr") name attr refl are.0 are.1.0)
fields_alone (Client (Get name)) pieces are = subst StandAlone (sym are.1) (two_alone (codes "get") name refl are.0)
fields_alone (Client (GetAttr name attr)) pieces are = subst StandAlone (sym are.1.1) (three_alone (codes "getattr") name attr refl are.0 are.1.0)
fields_alone (Client (Stat name)) pieces are = subst StandAlone (sym are.1) (two_alone (codes "stat") name refl are.0)
fields_alone (Client ListObjects) pieces are = subst StandAlone (sym are) (one_alone (codes "list") refl)
fields_alone (Client Flush) pieces are = subst StandAlone (sym are) (one_alone (codes "flush") refl)
fields_alone (Client (Scrub name)) pieces are = subst StandAlone (sym are.1) (two_alone (codes "scrub") name refl are.0)
fields_alone (Operator (MarkUp slot)) pieces are = number_alone (codes "up") slot pieces refl are
fields_alone (Operator (MarkDown slot)) pieces are = number_alone (codes "down") slot pieces refl are
fields_alone (Operator Recover) pieces are = subst StandAlone (sym are) (one_alone (codes "recover") refl)
fields_alone (Operator (Rebuild slot)) pieces are = number_alone (codes "rebuild") slot pieces refl are
fields_alone AskState pieces are = subst StandAlone (sym are) (one_alone (codes "status") refl)

-- ---- what is spelled is read

pub number_read : (text : List ℕ) (n : ℕ) → IsNumberText text n → number_in text ≡ Some n
number_read text n is =
    let value : digits_value 10 text ≡ n = ap (digits_value 10) is.1 ∙ (decimal_is_IsNumeral n is.0).1 in
    let same : bytes_eq text (decimal n) ≡ true = (bytes_eq-Decides text (decimal n)).1 is.1 in
    ap (λ (v : ℕ). if bytes_eq text (decimal v) && nat_lt v (2 ^ 64) then Some v else None) value
    ∙ ap (λ (b : Bool). if b && nat_lt n (2 ^ 64) then Some n else None) same
    ∙ ap (λ b. if b then Some n else None) (lt-ltb n (2 ^ 64) is.0)

pub bytes_spelled : (digits bytes : List ℕ) → SpellsBytes digits bytes → bytes_of_digits (decode_of digits) ≡ Some bytes
bytes_spelled digits bytes spells = ap bytes_of_digits (decode_of-spelled digits bytes spells)

not_empty : (digits : List ℕ) → 1 ≤ length digits → (length digits == 0) ≡ false
not_empty digits some = ne_eqb (length digits) 0 (λ e. omega (arith, some, e))

bytes_read : (digits bytes : List ℕ) → 1 ≤ length digits → SpellsBytes digits bytes → bytes_in digits ≡ Some bytes
bytes_read digits bytes some spells =
    ap (λ b. if b then None else bytes_of_digits (decode_of digits)) (not_empty digits some) ∙ bytes_spelled digits bytes spells

append_read : (name bytes : List ℕ) (pieces : List (List ℕ)) → IsName name → EndWithBytes (codes "append" ∷ name ∷ []) bytes pieces
    → line_of_fields pieces ≡ Client (Updates (Append name bytes))
append_read name bytes pieces is NoBytes = ap (λ b. if b then word_and_name (codes "append") name else BadLine) is
append_read name bytes pieces is (SomeBytes digits its some spells) =
    ap (λ b. if not b then BadLine else update_with (Append name) (bytes_in digits)) is
    ∙ ap (update_with (Append name)) (bytes_read digits its some spells)

full_read : (name bytes : List ℕ) (pieces : List (List ℕ)) → IsName name → EndWithBytes (codes "full" ∷ name ∷ []) bytes pieces
    → line_of_fields pieces ≡ Client (Updates (Full name bytes))
full_read name bytes pieces is NoBytes = ap (λ b. if b then word_and_name (codes "full") name else BadLine) is
full_read name bytes pieces is (SomeBytes digits its some spells) =
    ap (λ b. if not b then BadLine else update_with (Full name) (bytes_in digits)) is
    ∙ ap (update_with (Full name)) (bytes_read digits its some spells)

write_read : (name place bytes : List ℕ) (off : ℕ) (pieces : List (List ℕ)) → IsName name → IsNumberText place off
    → EndWithBytes (codes "write" ∷ name ∷ place ∷ []) bytes pieces → line_of_fields pieces ≡ Client (Updates (WriteAt name off bytes))
write_read name place bytes off pieces is number NoBytes =
    ap (λ b. if not b then BadLine else write_at name (number_in place) (Some [])) is
    ∙ ap (λ n. write_at name n (Some [])) (number_read place off number)
write_read name place bytes off pieces is number (SomeBytes digits its some spells) =
    ap (λ b. if not b then BadLine else write_at name (number_in place) (bytes_in digits)) is
    ∙ ap (λ n. write_at name n (bytes_in digits)) (number_read place off number)
    ∙ ap (update_with (WriteAt name off)) (bytes_read digits its some spells)

setattr_read : (name attr value : List ℕ) (pieces : List (List ℕ)) → IsName name → IsName attr
    → EndWithBytes (codes "setattr" ∷ name ∷ attr ∷ []) value pieces → line_of_fields pieces ≡ Client (Updates (SetAttr name attr value))
setattr_read name attr value pieces is other NoBytes =
    ap (λ b. if not b then BadLine else (if is_name attr then word_and_names (codes "setattr") name attr else BadLine)) is
    ∙ ap (λ b. if b then word_and_names (codes "setattr") name attr else BadLine) other
setattr_read name attr value pieces is other (SomeBytes digits its some spells) =
    ap (λ b. if not b then BadLine else (if is_name attr then update_with (SetAttr name attr) (bytes_in digits) else BadLine)) is
    ∙ ap (λ b. if b then update_with (SetAttr name attr) (bytes_in digits) else BadLine) other
    ∙ ap (update_with (SetAttr name attr)) (bytes_read digits its some spells)

-- a word and a name
named_read : (word name : List ℕ) → IsName name → two_fields word name ≡ (if is_name name then word_and_name word name else BadLine)
    → two_fields word name ≡ word_and_name word name
named_read word name is e = e ∙ ap (λ b. if b then word_and_name word name else BadLine) is

-- a word and two names
names_read : (word name attr : List ℕ) → IsName name → IsName attr
    → three_fields word name attr ≡ (if not (is_name name) then BadLine else (if is_name attr then word_and_names word name attr else BadLine))
    → three_fields word name attr ≡ word_and_names word name attr
names_read word name attr is other e =
    e ∙ ap (λ b. if not b then BadLine else (if is_name attr then word_and_names word name attr else BadLine)) is
    ∙ ap (λ b. if b then word_and_names word name attr else BadLine) other

-- a word and a number
about_read : (operation : ℕ → Operation) (word : List ℕ) (n : ℕ) (pieces : List (List ℕ))
    → ((digits : List ℕ) → two_fields word digits ≡ about_slot operation (number_in digits)) → IsAboutNumber word n pieces
    → line_of_fields pieces ≡ Operator (operation n)
about_read operation word n pieces is about =
    ap line_of_fields about.are ∙ is about.digits ∙ ap (about_slot operation) (number_read about.digits n about.number)

fields_read : (line : ScriptLine) (pieces : List (List ℕ)) → AreFieldsOf line pieces → line_of_fields pieces ≡ line
fields_read LongLine pieces are = absurd are
fields_read BadLine pieces are = absurd are
fields_read (Client (Updates (Append name bytes))) pieces are = append_read name bytes pieces are.0 are.1
fields_read (Client (Updates (WriteAt name off bytes))) pieces are = write_read name are.1.place bytes off pieces are.0 are.1.number are.1.ends
fields_read (Client (Updates (Full name bytes))) pieces are = full_read name bytes pieces are.0 are.1
fields_read (Client (Updates (Delete name))) pieces are = ap line_of_fields are.1 ∙ named_read (codes "delete") name are.0 refl
fields_read (Client (Updates (SetAttr name attr value))) pieces are = setattr_read name attr value pieces are.0 are.1.0 are.1.1
fields_read (Client (Updates (RemoveAttr name attr))) pieces are = ap line_of_fields are.1.1 ∙ names_read (codes "rmattr") name attr are.0 are.1.0 refl
fields_read (Client (Get name)) pieces are = ap line_of_fields are.1 ∙ named_read (codes "get") name are.0 refl
fields_read (Client (GetAttr name attr)) pieces are = ap line_of_fields are.1.1 ∙ names_read (codes "getattr") name attr are.0 are.1.0 refl
fields_read (Client (Stat name)) pieces are = ap line_of_fields are.1 ∙ named_read (codes "stat") name are.0 refl
fields_read (Client ListObjects) pieces are = ap line_of_fields are
fields_read (Client Flush) pieces are = ap line_of_fields are
fields_read (Client (Scrub name)) pieces are = ap line_of_fields are.1 ∙ named_read (codes "scrub") name are.0 refl
fields_read (Operator (MarkUp slot)) pieces are = about_read MarkUp (codes "up") slot pieces (λ digits. refl) are
fields_read (Operator (MarkDown slot)) pieces are = about_read MarkDown (codes "down") slot pieces (λ digits. refl) are
fields_read (Operator Recover) pieces are = ap line_of_fields are
fields_read (Operator (Rebuild slot)) pieces are = about_read Rebuild (codes "rebuild") slot pieces (λ digits. refl) are
fields_read AskState pieces are = ap line_of_fields are

pub spelled_is_read : (text : List ℕ) (line : ScriptLine) → Spells text line → line_of_fields (fields text) ≡ line
spelled_is_read text line spells =
    let alone = fields_alone line spells.pieces spells.are in
    ap (λ t. line_of_fields (fields t)) spells.joined
    ∙ ap line_of_fields (fields-joined spells.pieces alone.0 alone.1)
    ∙ fields_read line spells.pieces spells.are

-- ---- what is read is spelled

-- of two lines, by a test
pick : {A : Type 0} {x y : A} (b : Bool) (z : A) → (if b then x else y) ≡ z → ((b ≡ true) × (x ≡ z)) ⊎ ((b ≡ false) × (y ≡ z))
pick true z e = inl (refl, e)
pick false z e = inr (refl, e)

not_false : (b : Bool) → not b ≡ false → b ≡ true
not_false true e = refl
not_false false e = let both : true ≡ false = e in absurd (cc)

no_form : {X : Type 0} (line : ScriptLine) → BadLine ≡ line → IsForm line → X
no_form line e form = absurd (subst IsForm (sym e) form)

same_word : (word its : List ℕ) → bytes_eq word its ≡ true → word ≡ its
same_word word its e = (bytes_eq-Decides word its).0 e

some_is : {A : Type 0} (x y : A) → ◌≡◌ {A = Option A} (Some x) (Some y) → x ≡ y
some_is x y e = cc

none_is : {A X : Type 0} (y : A) → ◌≡◌ {A = Option A} None (Some y) → X
none_is y e = absurd (cc)

pub number_is : (text : List ℕ) (n : ℕ) → number_in text ≡ Some n → IsNumberText text n
number_is text n e =
    let value = digits_value 10 text in
    elim (pick (bytes_eq text (decimal value) && nat_lt value (2 ^ 64)) (Some n) e) [
      | inl fits ↦
          let parts = and_parts (bytes_eq text (decimal value)) (nat_lt value (2 ^ 64)) fits.0 in
          let is : value ≡ n = some_is value n fits.1 in
          subst (λ (v : ℕ). (v < 2 ^ 64) × (text ≡ decimal v)) is (ltb-true value (2 ^ 64) parts.1, same_word text (decimal value) parts.0)
      | inr other ↦ none_is n other.1
    ]

decoded_is : (digits bytes : List ℕ) (decoded : Result (List ℕ) FromHexError) → decode_of digits ≡ decoded → bytes_of_digits decoded ≡ Some bytes → SpellsBytes digits bytes
decoded_is digits bytes (Ok its) e is = subst (SpellsBytes digits) (some_is its bytes is) (spelled-decode_of digits its e)
decoded_is digits bytes (Err fault) e is = none_is bytes is

bytes_are : (digits bytes : List ℕ) → bytes_in digits ≡ Some bytes → (1 ≤ length digits) × SpellsBytes digits bytes
bytes_are [] bytes e = none_is bytes e
bytes_are (d ∷ digits) bytes e =
    let some : 1 ≤ length (d ∷ digits) = omega arith in (
      some,
      decoded_is (d ∷ digits) bytes (decode_of (d ∷ digits)) refl
          (sym (ap (λ b. if b then None else bytes_of_digits (decode_of (d ∷ digits))) (not_empty (d ∷ digits) some)) ∙ e),
    )

no_bytes : (front pieces : List (List ℕ)) → pieces ≡ front → EndWithBytes front [] pieces
no_bytes front pieces e = subst (EndWithBytes front []) (sym e) NoBytes

some_bytes : (front : List (List ℕ)) (digits bytes : List ℕ) (pieces : List (List ℕ)) → (1 ≤ length digits) × SpellsBytes digits bytes → pieces ≡ front ++ digits ∷ []
    → EndWithBytes front bytes pieces
some_bytes front digits bytes pieces is e = subst (EndWithBytes front bytes) (sym e) (SomeBytes digits bytes is.0 is.1)

-- an operator's line, by its number
about_is : (operation : ℕ → Operation) (digits : List ℕ) (pieces : List (List ℕ)) (line : ScriptLine) (found : Option ℕ)
    → ((n : ℕ) → IsNumberText digits n → AreFieldsOf (Operator (operation n)) pieces)
    → number_in digits ≡ found → about_slot operation found ≡ line → IsForm line → AreFieldsOf line pieces
about_is operation digits pieces line None is read e form = no_form line e form
about_is operation digits pieces line (Some n) is read e form = subst (λ (l : ScriptLine). AreFieldsOf l pieces) e (is n (number_is digits n read))

-- an update, by its bytes
update_is : (update : List ℕ → Update) (digits : List ℕ) (pieces : List (List ℕ)) (line : ScriptLine) (found : Option (List ℕ))
    → ((bytes : List ℕ) → (1 ≤ length digits) × SpellsBytes digits bytes → AreFieldsOf (Client (Updates (update bytes))) pieces)
    → bytes_in digits ≡ found → update_with update found ≡ line → IsForm line → AreFieldsOf line pieces
update_is update digits pieces line None is read e form = no_form line e form
update_is update digits pieces line (Some bytes) is read e form = subst (λ (l : ScriptLine). AreFieldsOf l pieces) e (is bytes (bytes_are digits bytes read))

-- a write, by its place
write_is : (name place : List ℕ) (bytes : Option (List ℕ)) (pieces : List (List ℕ)) (line : ScriptLine) (found : Option ℕ)
    → ((off : ℕ) → IsNumberText place off → update_with (WriteAt name off) bytes ≡ line → AreFieldsOf line pieces)
    → number_in place ≡ found → write_at name found bytes ≡ line → IsForm line → AreFieldsOf line pieces
write_is name place bytes pieces line None is read e form = no_form line e form
write_is name place bytes pieces line (Some off) is read e form = is off (number_is place off read) e

one_is : (word : List ℕ) (line : ScriptLine) → one_field word ≡ line → IsForm line → AreFieldsOf line (word ∷ [])
one_is word line e form = elim (pick (bytes_eq word (codes "flush")) line e) [
  | inl is ↦ subst (λ (l : ScriptLine). AreFieldsOf l (word ∷ [])) is.1 (ap (λ w. w ∷ []) (same_word word (codes "flush") is.0))
  | inr a ↦ elim (pick (bytes_eq word (codes "list")) line a.1) [
    | inl is ↦ subst (λ (l : ScriptLine). AreFieldsOf l (word ∷ [])) is.1 (ap (λ w. w ∷ []) (same_word word (codes "list") is.0))
    | inr b ↦ elim (pick (bytes_eq word (codes "recover")) line b.1) [
      | inl is ↦ subst (λ (l : ScriptLine). AreFieldsOf l (word ∷ [])) is.1 (ap (λ w. w ∷ []) (same_word word (codes "recover") is.0))
      | inr c ↦ elim (pick (bytes_eq word (codes "status")) line c.1) [
        | inl is ↦ subst (λ (l : ScriptLine). AreFieldsOf l (word ∷ [])) is.1 (ap (λ w. w ∷ []) (same_word word (codes "status") is.0))
        | inr d ↦ no_form line d.1 form
      ]
    ]
  ]
]

-- a word and a name
named_is : (word name : List ℕ) (line : ScriptLine) → IsName name → word_and_name word name ≡ line → IsForm line → AreFieldsOf line (word ∷ name ∷ [])
named_is word name line named e form = elim (pick (bytes_eq word (codes "get")) line e) [
  | inl is ↦ subst (λ (l : ScriptLine). AreFieldsOf l (word ∷ name ∷ [])) is.1 (named, ap (λ w. w ∷ name ∷ []) (same_word word (codes "get") is.0))
  | inr a ↦ elim (pick (bytes_eq word (codes "stat")) line a.1) [
    | inl is ↦ subst (λ (l : ScriptLine). AreFieldsOf l (word ∷ name ∷ [])) is.1 (named, ap (λ w. w ∷ name ∷ []) (same_word word (codes "stat") is.0))
    | inr b ↦ elim (pick (bytes_eq word (codes "scrub")) line b.1) [
      | inl is ↦ subst (λ (l : ScriptLine). AreFieldsOf l (word ∷ name ∷ [])) is.1 (named, ap (λ w. w ∷ name ∷ []) (same_word word (codes "scrub") is.0))
      | inr c ↦ elim (pick (bytes_eq word (codes "delete")) line c.1) [
        | inl is ↦ subst (λ (l : ScriptLine). AreFieldsOf l (word ∷ name ∷ [])) is.1 (named, ap (λ w. w ∷ name ∷ []) (same_word word (codes "delete") is.0))
        | inr d ↦ elim (pick (bytes_eq word (codes "append")) line d.1) [
          | inl is ↦
              let its = no_bytes (codes "append" ∷ name ∷ []) (word ∷ name ∷ []) (ap (λ w. w ∷ name ∷ []) (same_word word (codes "append") is.0)) in
              subst (λ (l : ScriptLine). AreFieldsOf l (word ∷ name ∷ [])) is.1 (named, its)
          | inr f ↦ elim (pick (bytes_eq word (codes "full")) line f.1) [
            | inl is ↦
                let its = no_bytes (codes "full" ∷ name ∷ []) (word ∷ name ∷ []) (ap (λ w. w ∷ name ∷ []) (same_word word (codes "full") is.0)) in
                subst (λ (l : ScriptLine). AreFieldsOf l (word ∷ name ∷ [])) is.1 (named, its)
            | inr g ↦ no_form line g.1 form
          ]
        ]
      ]
    ]
  ]
]

number_fields : (word its digits : List ℕ) (n : ℕ) → bytes_eq word its ≡ true → IsNumberText digits n → IsAboutNumber its n (word ∷ digits ∷ [])
number_fields word its digits n is number = record { digits = digits; number = number; are = ap (λ w. w ∷ digits ∷ []) (same_word word its is) }

two_is : (word field : List ℕ) (line : ScriptLine) → two_fields word field ≡ line → IsForm line → AreFieldsOf line (word ∷ field ∷ [])
two_is word field line e form = elim (pick (bytes_eq word (codes "up")) line e) [
  | inl is ↦ about_is MarkUp field (word ∷ field ∷ []) line (number_in field) (λ n. number_fields word (codes "up") field n is.0) refl is.1 form
  | inr a ↦ elim (pick (bytes_eq word (codes "down")) line a.1) [
    | inl is ↦ about_is MarkDown field (word ∷ field ∷ []) line (number_in field) (λ n. number_fields word (codes "down") field n is.0) refl is.1 form
    | inr b ↦ elim (pick (bytes_eq word (codes "rebuild")) line b.1) [
      | inl is ↦ about_is Rebuild field (word ∷ field ∷ []) line (number_in field) (λ n. number_fields word (codes "rebuild") field n is.0) refl is.1 form
      | inr c ↦ elim (pick (is_name field) line c.1) [
        | inl is ↦ named_is word field line is.0 is.1 form
        | inr d ↦ no_form line d.1 form
      ]
    ]
  ]
]

-- a word and two names
names_are : (word name attr : List ℕ) (line : ScriptLine) → IsName name → IsName attr → word_and_names word name attr ≡ line → IsForm line
    → AreFieldsOf line (word ∷ name ∷ attr ∷ [])
names_are word name attr line named other e form = elim (pick (bytes_eq word (codes "getattr")) line e) [
  | inl is ↦ subst (λ (l : ScriptLine). AreFieldsOf l (word ∷ name ∷ attr ∷ [])) is.1 (named, (other, ap (λ w. w ∷ name ∷ attr ∷ []) (same_word word (codes "getattr") is.0)))
  | inr a ↦ elim (pick (bytes_eq word (codes "rmattr")) line a.1) [
    | inl is ↦ subst (λ (l : ScriptLine). AreFieldsOf l (word ∷ name ∷ attr ∷ [])) is.1 (named, (other, ap (λ w. w ∷ name ∷ attr ∷ []) (same_word word (codes "rmattr") is.0)))
    | inr b ↦ elim (pick (bytes_eq word (codes "setattr")) line b.1) [
      | inl is ↦
          let its = no_bytes (codes "setattr" ∷ name ∷ attr ∷ []) (word ∷ name ∷ attr ∷ []) (ap (λ w. w ∷ name ∷ attr ∷ []) (same_word word (codes "setattr") is.0)) in
          subst (λ (l : ScriptLine). AreFieldsOf l (word ∷ name ∷ attr ∷ [])) is.1 (named, (other, its))
      | inr c ↦ no_form line c.1 form
    ]
  ]
]

three_named : (word name field : List ℕ) (line : ScriptLine) → IsName name
    → (if bytes_eq word (codes "append") then update_with (Append name) (bytes_in field)
    else if bytes_eq word (codes "full") then update_with (Full name) (bytes_in field)
    else if bytes_eq word (codes "write") then write_at name (number_in field) (Some [])
    else if is_name field then word_and_names word name field
    else BadLine) ≡ line
    → IsForm line → AreFieldsOf line (word ∷ name ∷ field ∷ [])
three_named word name field line named e form = elim (pick (bytes_eq word (codes "append")) line e) [
  | inl is ↦
      update_is (Append name) field (word ∷ name ∷ field ∷ []) line (bytes_in field)
      (λ bytes its. (named, some_bytes (codes "append" ∷ name ∷ []) field bytes (word ∷ name ∷ field ∷ []) its (ap (λ w. w ∷ name ∷ field ∷ []) (same_word word (codes "append") is.0))))
      refl is.1 form
  | inr a ↦ elim (pick (bytes_eq word (codes "full")) line a.1) [
    | inl is ↦
        update_is (Full name) field (word ∷ name ∷ field ∷ []) line (bytes_in field)
        (λ bytes its. (named, some_bytes (codes "full" ∷ name ∷ []) field bytes (word ∷ name ∷ field ∷ []) its (ap (λ w. w ∷ name ∷ field ∷ []) (same_word word (codes "full") is.0))))
        refl is.1 form
    | inr b ↦ elim (pick (bytes_eq word (codes "write")) line b.1) [
      | inl is ↦
          write_is name field (Some []) (word ∷ name ∷ field ∷ []) line (number_in field)
          (λ off number its. subst (λ (l : ScriptLine). AreFieldsOf l (word ∷ name ∷ field ∷ [])) its (
            named,
            record {
              place = field;
              number = number;
              ends = no_bytes (codes "write" ∷ name ∷ field ∷ []) (word ∷ name ∷ field ∷ []) (ap (λ w. w ∷ name ∷ field ∷ []) (same_word word (codes "write") is.0));
            },
          ))
          refl is.1 form
      | inr c ↦ elim (pick (is_name field) line c.1) [
        | inl is ↦ names_are word name field line named is.0 is.1 form
        | inr d ↦ no_form line d.1 form
      ]
    ]
  ]
]

three_is : (word name field : List ℕ) (line : ScriptLine) → three_fields word name field ≡ line → IsForm line → AreFieldsOf line (word ∷ name ∷ field ∷ [])
three_is word name field line e form = elim (pick (not (is_name name)) line e) [
  | inl bad ↦ no_form line bad.1 form
  | inr is ↦ three_named word name field line (not_false (is_name name) is.0) is.1 form
]

write_with_bytes : (word name place digits : List ℕ) (off : ℕ) (line : ScriptLine) → IsName name → bytes_eq word (codes "write") ≡ true → IsNumberText place off
    → update_with (WriteAt name off) (bytes_in digits) ≡ line → IsForm line → AreFieldsOf line (word ∷ name ∷ place ∷ digits ∷ [])
write_with_bytes word name place digits off line named is number e form =
    update_is (WriteAt name off) digits (word ∷ name ∷ place ∷ digits ∷ []) line (bytes_in digits)
    (λ bytes its. (
      named,
      record {
        place = place;
        number = number;
        ends = some_bytes (codes "write" ∷ name ∷ place ∷ []) digits bytes (word ∷ name ∷ place ∷ digits ∷ []) its
            (ap (λ w. w ∷ name ∷ place ∷ digits ∷ []) (same_word word (codes "write") is));
      },
    ))
    refl e form

four_named : (word name field digits : List ℕ) (line : ScriptLine) → IsName name
    → (if bytes_eq word (codes "write") then write_at name (number_in field) (bytes_in digits)
    else if bytes_eq word (codes "setattr") && is_name field then update_with (SetAttr name field) (bytes_in digits)
    else BadLine) ≡ line
    → IsForm line → AreFieldsOf line (word ∷ name ∷ field ∷ digits ∷ [])
four_named word name field digits line named e form = elim (pick (bytes_eq word (codes "write")) line e) [
  | inl is ↦
      write_is name field (bytes_in digits) (word ∷ name ∷ field ∷ digits ∷ []) line (number_in field)
      (λ off number its. write_with_bytes word name field digits off line named is.0 number its form) refl is.1 form
  | inr a ↦ elim (pick (bytes_eq word (codes "setattr") && is_name field) line a.1) [
    | inl is ↦
        let parts = and_parts (bytes_eq word (codes "setattr")) (is_name field) is.0 in
        update_is (SetAttr name field) digits (word ∷ name ∷ field ∷ digits ∷ []) line (bytes_in digits)
        (λ bytes its. (
          named,
          (
            parts.1,
            some_bytes (codes "setattr" ∷ name ∷ field ∷ []) digits bytes (word ∷ name ∷ field ∷ digits ∷ []) its
                (ap (λ w. w ∷ name ∷ field ∷ digits ∷ []) (same_word word (codes "setattr") parts.0)),
          ),
        ))
        refl is.1 form
    | inr b ↦ no_form line b.1 form
  ]
]

four_is : (word name field digits : List ℕ) (line : ScriptLine) → four_fields word name field digits ≡ line → IsForm line
    → AreFieldsOf line (word ∷ name ∷ field ∷ digits ∷ [])
four_is word name field digits line e form = elim (pick (not (is_name name)) line e) [
  | inl bad ↦ no_form line bad.1 form
  | inr is ↦ four_named word name field digits line (not_false (is_name name) is.0) is.1 form
]

fields_are : (pieces : List (List ℕ)) (line : ScriptLine) → line_of_fields pieces ≡ line → IsForm line → AreFieldsOf line pieces
fields_are [] line e form = no_form line e form
fields_are (word ∷ []) line e form = one_is word line e form
fields_are (word ∷ field ∷ []) line e form = two_is word field line e form
fields_are (word ∷ name ∷ field ∷ []) line e form = three_is word name field line e form
fields_are (word ∷ name ∷ field ∷ digits ∷ []) line e form = four_is word name field digits line e form
fields_are (word ∷ name ∷ field ∷ digits ∷ more ∷ rest) line e form = no_form line e form

pub read_is_spelled : (text : List ℕ) (line : ScriptLine) → line_of_fields (fields text) ≡ line → IsForm line → Spells text line
read_is_spelled text line e form = record {
  pieces = fields text;
  are = fields_are (fields text) line e form;
  joined = sym (fields_stand_apart text).whole;
}
