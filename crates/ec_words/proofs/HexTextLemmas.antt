-- What hexadecimal digits spell is what the crate `hex` decodes.
use Rattle.std.proofs.Common.{◌≡◌, ℕ, ◌+◌, ◌-◌, ◌*◌, ◌%◌, ◌^◌, ◌<◌, ◌≤◌, ◌==◌, ◌&&◌, inl, inr, refl, sym, subst, ◌∙◌, List, [], ◌∷◌, length, Option, Some, None, Result, Ok, Err, Bool, true, false, cond, arith}
use Rattle.std.specs.List.{list_all, All}
use Rattle.std.proofs.lemmas.Bool.{cases_lt, both_ways, and_from, and_parts, eq-eqb, eqb-true}
use Rattle.std.proofs.lemmas.Bool.Decides.{nat_tests}
use Rattle.std.proofs.lemmas.List.{get_or_past}
use Rattle.hex.specs.Hex.{IsBytes, hex_digit_value, digit_or_error, decode_pairs, decode_of, encode_lower, ◌>>=◌}
use Rattle.hex.specs.declared.error.FromHexError.{FromHexError}
use Rattle.hex.specs.declared.error.FromHexError.TheVariants.{OddLength}
use Rattle.hex.proofs.HexLemmas.{decode_of-even, decode_of-encode_lower}
use Rattle.ec_words.specs.HexText.{HasValue, SpellsBytes, is_digit, is_hex_text}

below_digits : (d : ℕ) → d < 48 → hex_digit_value d ≡ None
below_digits d h = grind (arith, nat_tests)

figure : (d v : ℕ) → v < 10 → d ≡ 48 + v → hex_digit_value d ≡ Some v
figure d v h e = grind (arith, nat_tests)

lower : (d v : ℕ) → 10 ≤ v → v < 16 → d ≡ 87 + v → hex_digit_value d ≡ Some v
lower d v low high e = grind (arith, nat_tests)

upper : (d v : ℕ) → 10 ≤ v → v < 16 → d ≡ 55 + v → hex_digit_value d ≡ Some v
upper d v low high e = grind (arith, nat_tests)

pub value_of_digit : (d v : ℕ) → HasValue d v → hex_digit_value d ≡ Some v
value_of_digit d v (inl h) = figure d v h.0 h.1
value_of_digit d v (inr h) = elim h.2 [ inl e ↦ lower d v h.0 h.1 e | inr e ↦ upper d v h.0 h.1 e ]

-- the three ranges of digits, and what lies between
digit_cases : (d : ℕ) (P : Type 0) → (d < 48 → P) → (48 ≤ d → d < 58 → P) → (58 ≤ d → d < 65 → P) → (65 ≤ d → d < 71 → P)
    → (71 ≤ d → d < 97 → P) → (97 ≤ d → d < 103 → P) → (103 ≤ d → P) → P
digit_cases d P below figures between uppers middle lowers above =
    elim (cases_lt d 48) [
      | inl a ↦ below a
      | inr a ↦ elim (cases_lt d 58) [
        | inl b ↦ figures a b
        | inr b ↦ elim (cases_lt d 65) [
          | inl e ↦ between b e
          | inr e ↦ elim (cases_lt d 71) [
            | inl f ↦ uppers e f
            | inr f ↦ elim (cases_lt d 97) [
              | inl g ↦ middle f g
              | inr g ↦ elim (cases_lt d 103) [ inl h ↦ lowers g h | inr h ↦ above h ]
            ]
          ]
        ]
      ]
    ]

none_between : (d : ℕ) → 58 ≤ d → d < 65 → hex_digit_value d ≡ None
none_between d low high = grind (arith, nat_tests)

none_in_middle : (d : ℕ) → 71 ≤ d → d < 97 → hex_digit_value d ≡ None
none_in_middle d low high = grind (arith, nat_tests)

none_above : (d : ℕ) → 103 ≤ d → hex_digit_value d ≡ None
none_above d low = grind (arith, nat_tests)

not_both : {X : Type 0} (o : Option ℕ) (v : ℕ) → o ≡ None → o ≡ Some v → X
not_both o v none some = absurd (let e : ◌≡◌ {A = Option ℕ} None (Some v) = sym none ∙ some in cc)

some_same : (o : Option ℕ) (a b : ℕ) → o ≡ Some a → o ≡ Some b → b ≡ a
some_same o a b p q = cc

pub digit_of_value : (d v : ℕ) → hex_digit_value d ≡ Some v → HasValue d v
digit_of_value d v e =
    digit_cases d (HasValue d v)
    (λ below. not_both (hex_digit_value d) v (below_digits d below) e)
    (λ low high. let is : v ≡ d - 48 = some_same (hex_digit_value d) (d - 48) v (figure d (d - 48) (omega arith) (omega arith)) e in inl (omega arith, omega arith))
    (λ low high. not_both (hex_digit_value d) v (none_between d low high) e)
    (λ low high. let is : v ≡ d - 55 = some_same (hex_digit_value d) (d - 55) v (upper d (d - 55) (omega arith) (omega arith) (omega arith)) e in inr (omega arith, omega arith, inr (omega arith)))
    (λ low high. not_both (hex_digit_value d) v (none_in_middle d low high) e)
    (λ low high. let is : v ≡ d - 87 = some_same (hex_digit_value d) (d - 87) v (lower d (d - 87) (omega arith) (omega arith) (omega arith)) e in inr (omega arith, omega arith, inl (omega arith)))
    (λ low. not_both (hex_digit_value d) v (none_above d low) e)

is_digit_figure : (d v : ℕ) → v < 10 → d ≡ 48 + v → is_digit d ≡ true
is_digit_figure d v h e = grind (arith, nat_tests)

is_digit_lower : (d v : ℕ) → 10 ≤ v → v < 16 → d ≡ 87 + v → is_digit d ≡ true
is_digit_lower d v low high e = grind (arith, nat_tests)

is_digit_upper : (d v : ℕ) → 10 ≤ v → v < 16 → d ≡ 55 + v → is_digit d ≡ true
is_digit_upper d v low high e = grind (arith, nat_tests)

is_digit-HasValue : (d v : ℕ) → HasValue d v → is_digit d ≡ true
is_digit-HasValue d v (inl h) = is_digit_figure d v h.0 h.1
is_digit-HasValue d v (inr h) = elim h.2 [ inl e ↦ is_digit_lower d v h.0 h.1 e | inr e ↦ is_digit_upper d v h.0 h.1 e ]

no_digit_below : (d : ℕ) → d < 48 → is_digit d ≡ false
no_digit_below d h = grind (arith, nat_tests)

no_digit_between : (d : ℕ) → 58 ≤ d → d < 65 → is_digit d ≡ false
no_digit_between d low high = grind (arith, nat_tests)

no_digit_in_middle : (d : ℕ) → 71 ≤ d → d < 97 → is_digit d ≡ false
no_digit_in_middle d low high = grind (arith, nat_tests)

no_digit_above : (d : ℕ) → 103 ≤ d → is_digit d ≡ false
no_digit_above d low = grind (arith, nat_tests)

value_of : (d : ℕ) → is_digit d ≡ true → (v : ℕ) × HasValue d v
value_of d is =
    let P : Type 0 = (v : ℕ) × HasValue d v in
    digit_cases d P
    (λ below. absurd (both_ways (is_digit d) (no_digit_below d below) is))
    (λ low high. (d - 48, inl (omega arith, omega arith)))
    (λ low high. absurd (both_ways (is_digit d) (no_digit_between d low high) is))
    (λ low high. (d - 55, inr (omega arith, omega arith, inr (omega arith))))
    (λ low high. absurd (both_ways (is_digit d) (no_digit_in_middle d low high) is))
    (λ low high. (d - 87, inr (omega arith, omega arith, inl (omega arith))))
    (λ low. absurd (both_ways (is_digit d) (no_digit_above d low) is))

-- a text that spells bytes is an even number of digits
digits_of_spelled : (text bytes : List ℕ) → SpellsBytes text bytes → (length text % 2 ≡ 0) × (list_all is_digit text ≡ true)
digits_of_spelled [] [] h = (refl, refl)
digits_of_spelled [] (byte ∷ bytes) h = absurd h
digits_of_spelled (high ∷ []) bytes h = absurd h
digits_of_spelled (high ∷ low ∷ text) [] h = absurd h
digits_of_spelled (high ∷ low ∷ text) (byte ∷ bytes) h =
    let rest = digits_of_spelled text bytes h.1 in (
      omega (arith, rest.0),
      and_from _ _ (is_digit-HasValue high h.0.high_bits h.0.high_digit) (and_from _ _ (is_digit-HasValue low h.0.low_bits h.0.low_digit) rest.1),
    )

pub is_hex_text_of_spelled : (text bytes : List ℕ) → SpellsBytes text bytes → is_hex_text text ≡ true
is_hex_text_of_spelled text bytes h =
    let digits = digits_of_spelled text bytes h in and_from _ _ (eq-eqb (length text % 2) 0 digits.0) digits.1

-- an even number of digits spells some bytes
spelled_of_digits : (text : List ℕ) → length text % 2 ≡ 0 → list_all is_digit text ≡ true → (bytes : List ℕ) × SpellsBytes text bytes
spelled_of_digits [] even all = ([], tt)
spelled_of_digits (high ∷ []) even all = absurd (omega arith)
spelled_of_digits (high ∷ low ∷ text) even all =
    let first = and_parts (is_digit high) (is_digit low && list_all is_digit text) all in
    let second = and_parts (is_digit low) (list_all is_digit text) first.1 in
    let a = value_of high first.0 in
    let b = value_of low second.0 in
    let rest = spelled_of_digits text (omega arith) second.1 in (
      (a.0 * 16 + b.0) ∷ rest.0,
      (record { high_bits = a.0; low_bits = b.0; high_digit = a.1; low_digit = b.1; both = refl }, rest.1),
    )

pub spelled_of_hex_text : (text : List ℕ) → is_hex_text text ≡ true → (bytes : List ℕ) × SpellsBytes text bytes
spelled_of_hex_text text is =
    let parts = and_parts (length text % 2 == 0) (list_all is_digit text) is in
    spelled_of_digits text (eqb-true (length text % 2) 0 parts.0) parts.1

-- what the crate `hex` makes of two digits and the rest
onto : ℕ → ℕ → ℕ → Option ℕ → Option ℕ → Result (List ℕ) FromHexError → Result (List ℕ) FromHexError
onto high low i a b rest =
    (digit_or_error high i a >>= λ h. digit_or_error low (i + 1) b >>= λ l. Ok (h * 16 + l)) >>= λ byte. rest >>= λ bytes. Ok (byte ∷ bytes)

decode_pairs-two : (i high low : ℕ) (text : List ℕ)
    → decode_pairs i (high ∷ low ∷ text) ≡ onto high low i (hex_digit_value high) (hex_digit_value low) (decode_pairs (i + 2) text)
unfolding decode_pairs onto
decode_pairs-two i high low text = refl

onto-some : (high low i a b : ℕ) (bytes : List ℕ) → onto high low i (Some a) (Some b) (Ok bytes) ≡ Ok ((a * 16 + b) ∷ bytes)
unfolding onto
onto-some high low i a b bytes = refl

record Parts (a b : Option ℕ) (rest : Result (List ℕ) FromHexError) (out : List ℕ) : Type 0 where
  first : ℕ
  second : ℕ
  bytes : List ℕ
  is_first : a ≡ Some first
  is_second : b ≡ Some second
  is_rest : rest ≡ Ok bytes
  is_out : out ≡ (first * 16 + second) ∷ bytes

parts_of : (high low i : ℕ) (a b : Option ℕ) (rest : Result (List ℕ) FromHexError) (out : List ℕ) → onto high low i a b rest ≡ Ok out → Parts a b rest out
unfolding onto
parts_of high low i None b rest out e = absurd (cc)
parts_of high low i (Some a) None rest out e = absurd (cc)
parts_of high low i (Some a) (Some b) (Err fault) out e = absurd (cc)
parts_of high low i (Some a) (Some b) (Ok bytes) out e =
    record { first = a; second = b; bytes = bytes; is_first = refl; is_second = refl; is_rest = refl; is_out = cc }

decoded_of_spelled : (i : ℕ) (text bytes : List ℕ) → SpellsBytes text bytes → decode_pairs i text ≡ Ok bytes
unfolding decode_pairs
decoded_of_spelled i [] [] h = refl
decoded_of_spelled i [] (byte ∷ bytes) h = absurd h
decoded_of_spelled i (high ∷ []) bytes h = absurd h
decoded_of_spelled i (high ∷ low ∷ text) [] h = absurd h
decoded_of_spelled i (high ∷ low ∷ text) (byte ∷ bytes) h =
    decode_pairs-two i high low text
    ∙ (λ j. onto high low i (value_of_digit high h.0.high_bits h.0.high_digit j) (value_of_digit low h.0.low_bits h.0.low_digit j) (decoded_of_spelled (i + 2) text bytes h.1 j))
    ∙ onto-some high low i h.0.high_bits h.0.low_bits bytes
    ∙ (λ j. Ok (sym h.0.both j ∷ bytes))

spelled_of_decoded : (i : ℕ) (text bytes : List ℕ) → decode_pairs i text ≡ Ok bytes → SpellsBytes text bytes
unfolding decode_pairs
spelled_of_decoded i [] bytes e = let is : [] ≡ bytes = cc in subst (SpellsBytes []) is tt
spelled_of_decoded i (high ∷ []) bytes e = absurd (cc)
spelled_of_decoded i (high ∷ low ∷ text) bytes e =
    let parts = parts_of high low i (hex_digit_value high) (hex_digit_value low) (decode_pairs (i + 2) text) bytes (sym (decode_pairs-two i high low text) ∙ e) in
    subst (SpellsBytes (high ∷ low ∷ text)) (sym parts.is_out) (
      record {
        high_bits = parts.first;
        low_bits = parts.second;
        high_digit = digit_of_value high parts.first parts.is_first;
        low_digit = digit_of_value low parts.second parts.is_second;
        both = refl;
      },
      spelled_of_decoded (i + 2) text parts.bytes parts.is_rest,
    )

even_or_odd : (odd : Bool) (text : List ℕ) (bytes : List ℕ) → cond odd (Err OddLength) (decode_pairs 0 text) ≡ Ok bytes → decode_pairs 0 text ≡ Ok bytes
even_or_odd true text bytes e = absurd (cc)
even_or_odd false text bytes e = e

pub decode_of-spelled : (text bytes : List ℕ) → SpellsBytes text bytes → decode_of text ≡ Ok bytes
decode_of-spelled text bytes h = decode_of-even text (digits_of_spelled text bytes h).0 ∙ decoded_of_spelled 0 text bytes h

pub spelled-decode_of : (text bytes : List ℕ) → decode_of text ≡ Ok bytes → SpellsBytes text bytes
spelled-decode_of text bytes e = spelled_of_decoded 0 text bytes (even_or_odd (length text % 2 == 1) text bytes e)

pub one_reading : (text one other : List ℕ) → SpellsBytes text one → SpellsBytes text other → one ≡ other
one_reading text one other h k =
    let e : ◌≡◌ {A = Result (List ℕ) FromHexError} (Ok one) (Ok other) = sym (decode_of-spelled text one h) ∙ decode_of-spelled text other k in cc

all_bytes : (bytes : List ℕ) → All (λ b. b < 2 ^ 8) bytes → IsBytes bytes
all_bytes bytes all i =
    elim (cases_lt i (length bytes)) [ inl inside ↦ all i 0 inside | inr past ↦ omega (arith, get_or_past bytes i 0 past) ]

pub read_back : (bytes : List ℕ) → All (λ b. b < 2 ^ 8) bytes → SpellsBytes (encode_lower bytes) bytes
read_back bytes all = spelled-decode_of (encode_lower bytes) bytes (decode_of-encode_lower bytes (all_bytes bytes all))
