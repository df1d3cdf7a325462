-- Lines by what their fields spell, and those that are served.
use Rattle.std.proofs.Common.{◌≡◌, ◌≢◌, ◌<◌, ℕ, zero, suc, true, false, refl, ap, ◌∙◌, List, [], ◌∷◌, length, Option, Some, None, Result, Ok, Err, if◌then◌else◌, arith}
use Rattle.std.specs.Prelude.{slice_get}
use Rattle.std.proofs.lemmas.Bool.{both_ways}
use Rattle.hex.specs.Hex.{decode_of}
use Rattle.hex.specs.declared.error.FromHexError.{FromHexError}
use Rattle.ec_words.specs.HexText.{SpellsBytes, is_hex_text}
use Rattle.ec_words.specs.Numbers.{IsNumberText}
use Rattle.ec_words.proofs.CallerLemmas.{spelled-decode_of, is_hex_text_of_spelled}
use Rattle.run_model.specs.Scripts.{bytes_of_digits, number_in, line_of_fields, one_field, two_fields, three_fields, four_fields}
use Rattle.run_model.proofs.GrammarLemmas.{number_is, number_read}
use Rattle.run_model.proofs.GrammarLemmas as grammar
use Rattle.pool_run.specs.Lines.{ScriptLine, BadLine, if_served, is_served}

-- ---- fields

pub bytes_spelled : (digits bytes : List ℕ) → SpellsBytes digits bytes → bytes_of_digits (decode_of digits) ≡ Some bytes
bytes_spelled digits bytes spells = grammar.bytes_spelled digits bytes spells

no_bytes : (digits : List ℕ) (decoded : Result (List ℕ) FromHexError) → decode_of digits ≡ decoded → is_hex_text digits ≡ false → bytes_of_digits decoded ≡ None
no_bytes digits (Ok bytes) e bad = absurd (both_ways (is_hex_text digits) bad (is_hex_text_of_spelled digits bytes (spelled-decode_of digits bytes e)))
no_bytes digits (Err fault) e bad = refl

pub bytes_bad : (digits : List ℕ) → is_hex_text digits ≡ false → bytes_of_digits (decode_of digits) ≡ None
bytes_bad digits bad = no_bytes digits (decode_of digits) refl bad

pub number_found : (text : List ℕ) (n : ℕ) → IsNumberText text n → number_in text ≡ Some n
number_found text n is = number_read text n is

none_found : (text : List ℕ) (found : Option ℕ) → number_in text ≡ found → ((n : ℕ) → IsNumberText text n → ⊥) → found ≡ None
none_found text None read other = refl
none_found text (Some n) read other = absurd (other n (number_is text n read))

pub no_number : (text : List ℕ) → ((n : ℕ) → IsNumberText text n → ⊥) → number_in text ≡ None
no_number text other = none_found text (number_in text) refl other

-- ---- lines

pub served_is : (its line : ScriptLine) → its ≡ line → is_served line ≡ true → if_served its ≡ line
served_is its line same served = ap if_served same ∙ ap (λ b. if b then line else BadLine) served

pub unserved_is : (its line : ScriptLine) → its ≡ line → is_served line ≡ false → if_served its ≡ BadLine
unserved_is its line same other = ap if_served same ∙ ap (λ b. if b then line else BadLine) other

pub bad_is : (its : ScriptLine) → its ≡ BadLine → if_served its ≡ BadLine
bad_is its bad = ap if_served bad

-- ---- a line by the number of its fields

same_some : {A : Type 0} (x y : A) → ◌≡◌ {A = Option A} (Some x) (Some y) → x ≡ y
same_some x y e = cc

pub one_piece : (pieces : List (List ℕ)) (a : List ℕ) → length pieces ≡ 1 → slice_get pieces 0 ≡ Some a → line_of_fields pieces ≡ one_field a
one_piece [] a count first = absurd (omega (arith, count))
one_piece (x ∷ []) a count first = ap one_field (same_some x a first)
one_piece (x ∷ y ∷ pieces) a count first = absurd (omega (arith, count))

pub two_pieces : (pieces : List (List ℕ)) (a b : List ℕ) → length pieces ≡ 2 → slice_get pieces 0 ≡ Some a → slice_get pieces 1 ≡ Some b
    → line_of_fields pieces ≡ two_fields a b
two_pieces [] a b count first second = absurd (omega (arith, count))
two_pieces (x ∷ []) a b count first second = absurd (omega (arith, count))
two_pieces (x ∷ y ∷ []) a b count first second = ap (two_fields x) (same_some y b second) ∙ ap (λ (w : List ℕ). two_fields w b) (same_some x a first)
two_pieces (x ∷ y ∷ z ∷ pieces) a b count first second = absurd (omega (arith, count))

pub three_pieces : (pieces : List (List ℕ)) (a b c : List ℕ) → length pieces ≡ 3 → slice_get pieces 0 ≡ Some a → slice_get pieces 1 ≡ Some b
    → slice_get pieces 2 ≡ Some c → line_of_fields pieces ≡ three_fields a b c
three_pieces [] a b c count first second third = absurd (omega (arith, count))
three_pieces (x ∷ []) a b c count first second third = absurd (omega (arith, count))
three_pieces (x ∷ y ∷ []) a b c count first second third = absurd (omega (arith, count))
three_pieces (x ∷ y ∷ z ∷ []) a b c count first second third =
    ap (three_fields x y) (same_some z c third)
    ∙ ap (λ (w : List ℕ). three_fields x w c) (same_some y b second)
    ∙ ap (λ (w : List ℕ). three_fields w b c) (same_some x a first)
three_pieces (x ∷ y ∷ z ∷ u ∷ pieces) a b c count first second third = absurd (omega (arith, count))

pub four_pieces : (pieces : List (List ℕ)) (a b c d : List ℕ) → length pieces ≡ 4 → slice_get pieces 0 ≡ Some a → slice_get pieces 1 ≡ Some b
    → slice_get pieces 2 ≡ Some c → slice_get pieces 3 ≡ Some d → line_of_fields pieces ≡ four_fields a b c d
four_pieces [] a b c d count first second third fourth = absurd (omega (arith, count))
four_pieces (x ∷ []) a b c d count first second third fourth = absurd (omega (arith, count))
four_pieces (x ∷ y ∷ []) a b c d count first second third fourth = absurd (omega (arith, count))
four_pieces (x ∷ y ∷ z ∷ []) a b c d count first second third fourth = absurd (omega (arith, count))
four_pieces (x ∷ y ∷ z ∷ u ∷ []) a b c d count first second third fourth =
    ap (four_fields x y z) (same_some u d fourth)
    ∙ ap (λ (w : List ℕ). four_fields x y w d) (same_some z c third)
    ∙ ap (λ (w : List ℕ). four_fields x w c d) (same_some y b second)
    ∙ ap (λ (w : List ℕ). four_fields w b c d) (same_some x a first)
four_pieces (x ∷ y ∷ z ∷ u ∷ v ∷ pieces) a b c d count first second third fourth = absurd (omega (arith, count))

-- a list has the members below its length
pub no_piece : (pieces : List (List ℕ)) (i n : ℕ) → length pieces ≡ n → i < n → slice_get pieces i ≡ None → ⊥
no_piece [] i n count less none = omega (arith, count, less)
no_piece (x ∷ pieces) zero n count less none = absurd (let both : ◌≡◌ {A = Option (List ℕ)} (Some x) None = none in cc)
no_piece (x ∷ pieces) (suc i) n count less none = no_piece pieces i (length pieces) refl (omega (arith, count, less)) none

pub other_count : (pieces : List (List ℕ)) → length pieces ≢ 1 → length pieces ≢ 2 → length pieces ≢ 3 → length pieces ≢ 4 → line_of_fields pieces ≡ BadLine
other_count [] one two three four = refl
other_count (x ∷ []) one two three four = absurd (one refl)
other_count (x ∷ y ∷ []) one two three four = absurd (two refl)
other_count (x ∷ y ∷ z ∷ []) one two three four = absurd (three refl)
other_count (x ∷ y ∷ z ∷ u ∷ []) one two three four = absurd (four refl)
other_count (x ∷ y ∷ z ∷ u ∷ v ∷ pieces) one two three four = refl
