-- What a run has said is read in one way: of two pieces that differ, neither text goes on the other's.
use Rattle.std.proofs.Common.{ℕ, ◌≡◌, ◌≢◌, ◌<◌, ◌==◌, ◌⊎◌, zero, suc, min, cond, inl, inr, List, [], ◌∷◌, ◌++◌, length, map, take, drop, get_or, refl, sym, ap, subst, ◌∙◌, append_assoc, append-nil, length-append, arith}
use Rattle.std.specs.Prelude.{replicate}
use Rattle.std.specs.Fmt.{decimal}
use Rattle.std.specs.Str.Parse.{AllDigits}
use Rattle.std.proofs.lemmas.Bool.{cases_eq, ne_eqb, cond-false}
use Rattle.std.proofs.lemmas.Fmt.{decimal_is_IsNumeral, decimal_injective}
use Rattle.std.proofs.lemmas.List.{append_cancel_left, length-take, take-append-drop}
use Rattle.std.proofs.lemmas.Str.Parse.{digit_from_value}
use Rattle.ec_positions.specs.Commands.{Done, Clean, Refused, Bad}
use Rattle.ec_positions.specs.Refusals.{Absent, NoAttr, TooLarge, TooManyObjects, TooFull, TooManyAttrs}
use Rattle.run_model.specs.Answers.{without_notes, worn_line, too_long_line, IsLastLine, NoneYet, IsWorn, IsTooLong, NotesAreOfSlots, IsReadAs, IsTold, AreTold}
use Rattle.run_model.specs.Items.{Item, Progress, answers_in}
use Rattle.run_model.specs.Pieces.{Piece, Answered, Note, LastLine, piece_text, pieces_text}
use Rattle.run_model.specs.Replies.{Answer, Replied, Differs, TooLong, Short, Down, State, Failed, Unsure, answer_text}

-- ---- texts of which neither goes on the other

abbrev Apart : List ℕ → List ℕ → Type 0
Apart a b = (s t : List ℕ) → a ++ s ≡ b ++ t → ⊥

apart-sym : (a b : List ℕ) → Apart a b → Apart b a
apart-sym a b apart s t e = apart t s (sym e)

-- a part of a text is not another one and more
no_room : (a rest : List ℕ) (p : ℕ) → p < length a → take p a ≡ a ++ rest → ⊥
no_room a rest p lt e = omega (arith, ap length e, length-append a rest, length-take p a)

no_part : (a b rest : List ℕ) (p : ℕ) → Apart a b → take p a ≡ b ++ rest → ⊥
no_part a b rest p apart e =
    apart [] (rest ++ drop p a)
    (append-nil a ∙ sym (take-append-drop p a) ∙ ap (λ t. t ++ drop p a) e ∙ append_assoc b rest (drop p a))

-- two lists of pieces agree up to the first that differ, and these are apart
abbrev Compare : List Piece → List Piece → Type 0
Compare [] ys = Unit {0}
Compare (x ∷ xs) [] = Unit {0}
Compare (x ∷ xs) (y ∷ ys) = ((x ≡ y) × Compare xs ys) ⊎ Apart (piece_text x) (piece_text y)

-- nothing whole was said on the one hand, and a piece on the other
none_or_one : (n y : Piece) (ys : List Piece) (m : Piece) (p q : ℕ) → Compare (n ∷ []) (y ∷ (ys ++ m ∷ [])) → p < length (piece_text n)
    → take p (piece_text n) ≡ (piece_text y ++ pieces_text ys) ++ take q (piece_text m) → ⊥
none_or_one n y ys m p q (inl same) lt e =
    no_room (piece_text n) (pieces_text ys ++ take q (piece_text m)) p lt
    (e ∙ append_assoc (piece_text y) (pieces_text ys) (take q (piece_text m)) ∙ ap (λ z. piece_text z ++ (pieces_text ys ++ take q (piece_text m))) (sym same.0))
none_or_one n y ys m p q (inr apart) lt e =
    no_part (piece_text n) (piece_text y) (pieces_text ys ++ take q (piece_text m)) p apart
    (e ∙ append_assoc (piece_text y) (pieces_text ys) (take q (piece_text m)))

one_or_none : (m x : Piece) (xs : List Piece) (n : Piece) (p q : ℕ) → Compare (x ∷ (xs ++ n ∷ [])) (m ∷ []) → q < length (piece_text m)
    → (piece_text x ++ pieces_text xs) ++ take p (piece_text n) ≡ take q (piece_text m) → ⊥
one_or_none m x xs n p q (inl same) lt e =
    no_room (piece_text m) (pieces_text xs ++ take p (piece_text n)) q lt
    (sym e ∙ append_assoc (piece_text x) (pieces_text xs) (take p (piece_text n)) ∙ ap (λ z. piece_text z ++ (pieces_text xs ++ take p (piece_text n))) same.0)
one_or_none m x xs n p q (inr apart) lt e =
    no_part (piece_text m) (piece_text x) (pieces_text xs ++ take p (piece_text n)) q (apart-sym (piece_text x) (piece_text m) apart)
    (sym e ∙ append_assoc (piece_text x) (pieces_text xs) (take p (piece_text n)))

same_first : (x y : Piece) (a b : List ℕ) → x ≡ y → piece_text x ++ a ≡ piece_text y ++ b → a ≡ b
same_first x y a b same e = append_cancel_left (piece_text x) a b (e ∙ ap (λ z. piece_text z ++ b) (sym same))

read_once : (one other : List Piece) (n m : Piece) (p q : ℕ) → Compare (one ++ n ∷ []) (other ++ m ∷ []) → p < length (piece_text n) → q < length (piece_text m)
    → pieces_text one ++ take p (piece_text n) ≡ pieces_text other ++ take q (piece_text m) → one ≡ other
read_once [] [] n m p q compare pl ql e = refl
read_once [] (y ∷ ys) n m p q compare pl ql e = absurd (none_or_one n y ys m p q compare pl e)
read_once (x ∷ xs) [] n m p q compare pl ql e = absurd (one_or_none m x xs n p q compare ql e)
read_once (x ∷ xs) (y ∷ ys) n m p q (inl same) pl ql e =
    let parted : piece_text x ++ (pieces_text xs ++ take p (piece_text n)) ≡ piece_text y ++ (pieces_text ys ++ take q (piece_text m)) =
    sym (append_assoc (piece_text x) (pieces_text xs) (take p (piece_text n))) ∙ e ∙ append_assoc (piece_text y) (pieces_text ys) (take q (piece_text m)) in
    let rest = read_once xs ys n m p q same.1 pl ql (same_first x y (pieces_text xs ++ take p (piece_text n)) (pieces_text ys ++ take q (piece_text m)) same.0 parted) in
    ap (λ z. z ∷ xs) same.0 ∙ ap (λ zs. y ∷ zs) rest
read_once (x ∷ xs) (y ∷ ys) n m p q (inr apart) pl ql e =
    absurd (apart (pieces_text xs ++ take p (piece_text n)) (pieces_text ys ++ take q (piece_text m))
    (sym (append_assoc (piece_text x) (pieces_text xs) (take p (piece_text n))) ∙ e ∙ append_assoc (piece_text y) (pieces_text ys) (take q (piece_text m))))

-- ---- notes

-- the bytes before the first line feed
abbrev first_line : List ℕ → List ℕ
first_line [] = []
first_line (b ∷ bytes) = cond (b == 10) [] (b ∷ first_line bytes)

line_of_digits : (digits rest : List ℕ) → AllDigits 10 digits → first_line (digits ++ 10 ∷ rest) ≡ digits
line_of_digits [] rest all = refl
line_of_digits (d ∷ digits) rest all =
    let range = digit_from_value d all.0 in
    let other : d ≢ 10 = λ e. omega (arith, range.0, e) in
    cond-false (d == 10) [] (d ∷ first_line (digits ++ 10 ∷ rest)) (ne_eqb d 10 other) ∙ ap (λ ds. d ∷ ds) (line_of_digits digits rest all.1)

number_line : (a : ℕ) (s : List ℕ) → a < 16 → first_line ((decimal a ++ 10 ∷ []) ++ s) ≡ decimal a
number_line a s small =
    ap first_line (append_assoc (decimal a) (10 ∷ []) s) ∙ line_of_digits (decimal a) s (decimal_is_IsNumeral a (omega arith)).0.1

notes_apart : (a b : ℕ) → a < 16 → b < 16 → a ≢ b → Apart (piece_text (Note a)) (piece_text (Note b))
notes_apart a b small less other s t e =
    let digits : (decimal a ++ 10 ∷ []) ++ s ≡ (decimal b ++ 10 ∷ []) ++ t = ap (drop 5) e in
    other (decimal_injective a b (omega arith) (omega arith) (sym (number_line a s small) ∙ ap first_line digits ∙ number_line b t less))

-- a note is apart from each other piece
note_apart : (slot : ℕ) (answer : Answer) → Apart (piece_text (Note slot)) (answer_text answer)
note_apart slot (Replied (Done text listing)) s t e = let heads : 108 ≡ 111 = ap (λ (l : List ℕ). get_or l 0 0) e in omega (arith, heads)
note_apart slot (Replied Clean) s t e = let heads : 108 ≡ 99 = ap (λ (l : List ℕ). get_or l 0 0) e in omega (arith, heads)
note_apart slot (Replied (Refused Absent)) s t e = let heads : 108 ≡ 97 = ap (λ (l : List ℕ). get_or l 0 0) e in omega (arith, heads)
note_apart slot (Replied (Refused NoAttr)) s t e = let heads : 108 ≡ 110 = ap (λ (l : List ℕ). get_or l 0 0) e in omega (arith, heads)
note_apart slot (Replied (Refused TooLarge)) s t e = let heads : 108 ≡ 116 = ap (λ (l : List ℕ). get_or l 0 0) e in omega (arith, heads)
note_apart slot (Replied (Refused TooManyObjects)) s t e = let heads : 108 ≡ 111 = ap (λ (l : List ℕ). get_or l 0 0) e in omega (arith, heads)
note_apart slot (Replied (Refused TooFull)) s t e = let heads : 108 ≡ 102 = ap (λ (l : List ℕ). get_or l 0 0) e in omega (arith, heads)
note_apart slot (Replied (Refused TooManyAttrs)) s t e = let heads : 108 ≡ 97 = ap (λ (l : List ℕ). get_or l 0 0) e in omega (arith, heads)
note_apart slot (Replied Bad) s t e = let heads : 108 ≡ 98 = ap (λ (l : List ℕ). get_or l 0 0) e in omega (arith, heads)
note_apart slot (Differs suspects) s t e = let heads : 108 ≡ 100 = ap (λ (l : List ℕ). get_or l 0 0) e in omega (arith, heads)
note_apart slot TooLong s t e = let thirds : 115 ≡ 110 = ap (λ (l : List ℕ). get_or l 2 0) e in omega (arith, thirds)
note_apart slot (Short joined min) s t e = let heads : 108 ≡ 115 = ap (λ (l : List ℕ). get_or l 0 0) e in omega (arith, heads)
note_apart slot (Down epoch slots) s t e = let heads : 108 ≡ 100 = ap (λ (l : List ℕ). get_or l 0 0) e in omega (arith, heads)
note_apart slot (State serving) s t e = let heads : 108 ≡ 115 = ap (λ (l : List ℕ). get_or l 0 0) e in omega (arith, heads)
note_apart slot (Failed its) s t e = let heads : 108 ≡ 102 = ap (λ (l : List ℕ). get_or l 0 0) e in omega (arith, heads)
note_apart slot Unsure s t e = let heads : 108 ≡ 117 = ap (λ (l : List ℕ). get_or l 0 0) e in omega (arith, heads)

note_worn : (slot : ℕ) → Apart (piece_text (Note slot)) worn_line
note_worn slot s t e = let heads : 108 ≡ 119 = ap (λ (l : List ℕ). get_or l 0 0) e in omega (arith, heads)

note_too_long : (slot : ℕ) → Apart (piece_text (Note slot)) too_long_line
note_too_long slot s t e = let heads : 108 ≡ 116 = ap (λ (l : List ℕ). get_or l 0 0) e in omega (arith, heads)

abbrev ApartFromNotes : List Piece → Type 0
ApartFromNotes [] = Unit {0}
ApartFromNotes (x ∷ xs) = ((slot : ℕ) → Apart (piece_text (Note slot)) (piece_text x)) × ApartFromNotes xs

with_notes : (xs ys : List Piece) → NotesAreOfSlots xs → NotesAreOfSlots ys → Compare (without_notes xs) (without_notes ys)
    → ApartFromNotes (without_notes xs) → ApartFromNotes (without_notes ys) → Compare xs ys
with_notes [] ys xn yn compare xa ya = tt
with_notes (x ∷ xs) [] xn yn compare xa ya = tt
with_notes (Note a ∷ xs) (Note b ∷ ys) xn yn compare xa ya = elim (cases_eq a b) [
  | inl e ↦ inl (ap Note e, with_notes xs ys xn.1 yn.1 compare xa ya)
  | inr ne ↦ inr (notes_apart a b xn.0 yn.0 ne)
]
with_notes (Note a ∷ xs) (Answered r ∷ ys) xn yn compare xa ya = inr (ya.0 a)
with_notes (Note a ∷ xs) (LastLine l ∷ ys) xn yn compare xa ya = inr (ya.0 a)
with_notes (Answered r ∷ xs) (Note b ∷ ys) xn yn compare xa ya = inr (apart-sym (piece_text (Note b)) (piece_text (Answered r)) (xa.0 b))
with_notes (Answered r ∷ xs) (Answered s ∷ ys) xn yn (inl same) xa ya = inl (same.0, with_notes xs ys xn yn same.1 xa.1 ya.1)
with_notes (Answered r ∷ xs) (Answered s ∷ ys) xn yn (inr apart) xa ya = inr apart
with_notes (Answered r ∷ xs) (LastLine l ∷ ys) xn yn (inl same) xa ya = inl (same.0, with_notes xs ys xn yn same.1 xa.1 ya.1)
with_notes (Answered r ∷ xs) (LastLine l ∷ ys) xn yn (inr apart) xa ya = inr apart
with_notes (LastLine k ∷ xs) (Note b ∷ ys) xn yn compare xa ya = inr (apart-sym (piece_text (Note b)) (piece_text (LastLine k)) (xa.0 b))
with_notes (LastLine k ∷ xs) (Answered s ∷ ys) xn yn (inl same) xa ya = inl (same.0, with_notes xs ys xn yn same.1 xa.1 ya.1)
with_notes (LastLine k ∷ xs) (Answered s ∷ ys) xn yn (inr apart) xa ya = inr apart
with_notes (LastLine k ∷ xs) (LastLine l ∷ ys) xn yn (inl same) xa ya = inl (same.0, with_notes xs ys xn yn same.1 xa.1 ya.1)
with_notes (LastLine k ∷ xs) (LastLine l ∷ ys) xn yn (inr apart) xa ya = inr apart

-- ---- answers, `unsure` and last lines

told_unsure : (answer : Answer) → IsTold answer → Apart (answer_text answer) (answer_text Unsure)
told_unsure (Replied (Done text listing)) told s t e = let heads : 111 ≡ 117 = ap (λ (l : List ℕ). get_or l 0 0) e in omega (arith, heads)
told_unsure (Replied Clean) told s t e = let heads : 99 ≡ 117 = ap (λ (l : List ℕ). get_or l 0 0) e in omega (arith, heads)
told_unsure (Replied (Refused Absent)) told s t e = let heads : 97 ≡ 117 = ap (λ (l : List ℕ). get_or l 0 0) e in omega (arith, heads)
told_unsure (Replied (Refused NoAttr)) told s t e = let heads : 110 ≡ 117 = ap (λ (l : List ℕ). get_or l 0 0) e in omega (arith, heads)
told_unsure (Replied (Refused TooLarge)) told s t e = let heads : 116 ≡ 117 = ap (λ (l : List ℕ). get_or l 0 0) e in omega (arith, heads)
told_unsure (Replied (Refused TooManyObjects)) told s t e = let heads : 111 ≡ 117 = ap (λ (l : List ℕ). get_or l 0 0) e in omega (arith, heads)
told_unsure (Replied (Refused TooFull)) told s t e = let heads : 102 ≡ 117 = ap (λ (l : List ℕ). get_or l 0 0) e in omega (arith, heads)
told_unsure (Replied (Refused TooManyAttrs)) told s t e = let heads : 97 ≡ 117 = ap (λ (l : List ℕ). get_or l 0 0) e in omega (arith, heads)
told_unsure (Replied Bad) told s t e = let heads : 98 ≡ 117 = ap (λ (l : List ℕ). get_or l 0 0) e in omega (arith, heads)
told_unsure (Differs suspects) told s t e = let heads : 100 ≡ 117 = ap (λ (l : List ℕ). get_or l 0 0) e in omega (arith, heads)
told_unsure TooLong told s t e = let heads : 108 ≡ 117 = ap (λ (l : List ℕ). get_or l 0 0) e in omega (arith, heads)
told_unsure (Short joined min) told s t e = let heads : 115 ≡ 117 = ap (λ (l : List ℕ). get_or l 0 0) e in omega (arith, heads)
told_unsure (Down epoch slots) told s t e = let heads : 100 ≡ 117 = ap (λ (l : List ℕ). get_or l 0 0) e in omega (arith, heads)
told_unsure (State serving) told s t e = let heads : 115 ≡ 117 = ap (λ (l : List ℕ). get_or l 0 0) e in omega (arith, heads)
told_unsure (Failed its) told s t e = let heads : 102 ≡ 117 = ap (λ (l : List ℕ). get_or l 0 0) e in omega (arith, heads)
told_unsure Unsure told s t e = absurd told

answer_worn : (answer : Answer) → Apart (answer_text answer) worn_line
answer_worn (Replied (Done text listing)) s t e = let heads : 111 ≡ 119 = ap (λ (l : List ℕ). get_or l 0 0) e in omega (arith, heads)
answer_worn (Replied Clean) s t e = let heads : 99 ≡ 119 = ap (λ (l : List ℕ). get_or l 0 0) e in omega (arith, heads)
answer_worn (Replied (Refused Absent)) s t e = let heads : 97 ≡ 119 = ap (λ (l : List ℕ). get_or l 0 0) e in omega (arith, heads)
answer_worn (Replied (Refused NoAttr)) s t e = let heads : 110 ≡ 119 = ap (λ (l : List ℕ). get_or l 0 0) e in omega (arith, heads)
answer_worn (Replied (Refused TooLarge)) s t e = let heads : 116 ≡ 119 = ap (λ (l : List ℕ). get_or l 0 0) e in omega (arith, heads)
answer_worn (Replied (Refused TooManyObjects)) s t e = let heads : 111 ≡ 119 = ap (λ (l : List ℕ). get_or l 0 0) e in omega (arith, heads)
answer_worn (Replied (Refused TooFull)) s t e = let heads : 102 ≡ 119 = ap (λ (l : List ℕ). get_or l 0 0) e in omega (arith, heads)
answer_worn (Replied (Refused TooManyAttrs)) s t e = let heads : 97 ≡ 119 = ap (λ (l : List ℕ). get_or l 0 0) e in omega (arith, heads)
answer_worn (Replied Bad) s t e = let heads : 98 ≡ 119 = ap (λ (l : List ℕ). get_or l 0 0) e in omega (arith, heads)
answer_worn (Differs suspects) s t e = let heads : 100 ≡ 119 = ap (λ (l : List ℕ). get_or l 0 0) e in omega (arith, heads)
answer_worn TooLong s t e = let heads : 108 ≡ 119 = ap (λ (l : List ℕ). get_or l 0 0) e in omega (arith, heads)
answer_worn (Short joined min) s t e = let heads : 115 ≡ 119 = ap (λ (l : List ℕ). get_or l 0 0) e in omega (arith, heads)
answer_worn (Down epoch slots) s t e = let heads : 100 ≡ 119 = ap (λ (l : List ℕ). get_or l 0 0) e in omega (arith, heads)
answer_worn (State serving) s t e = let heads : 115 ≡ 119 = ap (λ (l : List ℕ). get_or l 0 0) e in omega (arith, heads)
answer_worn (Failed its) s t e = let heads : 102 ≡ 119 = ap (λ (l : List ℕ). get_or l 0 0) e in omega (arith, heads)
answer_worn Unsure s t e = let heads : 117 ≡ 119 = ap (λ (l : List ℕ). get_or l 0 0) e in omega (arith, heads)

answer_too_long : (answer : Answer) → Apart (answer_text answer) too_long_line
answer_too_long (Replied (Done text listing)) s t e = let heads : 111 ≡ 116 = ap (λ (l : List ℕ). get_or l 0 0) e in omega (arith, heads)
answer_too_long (Replied Clean) s t e = let heads : 99 ≡ 116 = ap (λ (l : List ℕ). get_or l 0 0) e in omega (arith, heads)
answer_too_long (Replied (Refused Absent)) s t e = let heads : 97 ≡ 116 = ap (λ (l : List ℕ). get_or l 0 0) e in omega (arith, heads)
answer_too_long (Replied (Refused NoAttr)) s t e = let heads : 110 ≡ 116 = ap (λ (l : List ℕ). get_or l 0 0) e in omega (arith, heads)
answer_too_long (Replied (Refused TooLarge)) s t e = let fourths : 108 ≡ 32 = ap (λ (l : List ℕ). get_or l 3 0) e in omega (arith, fourths)
answer_too_long (Replied (Refused TooManyObjects)) s t e = let heads : 111 ≡ 116 = ap (λ (l : List ℕ). get_or l 0 0) e in omega (arith, heads)
answer_too_long (Replied (Refused TooFull)) s t e = let heads : 102 ≡ 116 = ap (λ (l : List ℕ). get_or l 0 0) e in omega (arith, heads)
answer_too_long (Replied (Refused TooManyAttrs)) s t e = let heads : 97 ≡ 116 = ap (λ (l : List ℕ). get_or l 0 0) e in omega (arith, heads)
answer_too_long (Replied Bad) s t e = let heads : 98 ≡ 116 = ap (λ (l : List ℕ). get_or l 0 0) e in omega (arith, heads)
answer_too_long (Differs suspects) s t e = let heads : 100 ≡ 116 = ap (λ (l : List ℕ). get_or l 0 0) e in omega (arith, heads)
answer_too_long TooLong s t e = let heads : 108 ≡ 116 = ap (λ (l : List ℕ). get_or l 0 0) e in omega (arith, heads)
answer_too_long (Short joined min) s t e = let heads : 115 ≡ 116 = ap (λ (l : List ℕ). get_or l 0 0) e in omega (arith, heads)
answer_too_long (Down epoch slots) s t e = let heads : 100 ≡ 116 = ap (λ (l : List ℕ). get_or l 0 0) e in omega (arith, heads)
answer_too_long (State serving) s t e = let heads : 115 ≡ 116 = ap (λ (l : List ℕ). get_or l 0 0) e in omega (arith, heads)
answer_too_long (Failed its) s t e = let heads : 102 ≡ 116 = ap (λ (l : List ℕ). get_or l 0 0) e in omega (arith, heads)
answer_too_long Unsure s t e = let heads : 117 ≡ 116 = ap (λ (l : List ℕ). get_or l 0 0) e in omega (arith, heads)

worn_too_long : Apart worn_line too_long_line
worn_too_long s t e = let heads : 119 ≡ 116 = ap (λ (l : List ℕ). get_or l 0 0) e in omega (arith, heads)

-- last lines are alike, or there is none on one hand
compare_last : (l k : List Piece) → IsLastLine l → IsLastLine k → Compare l k
compare_last l k NoneYet other = tt
compare_last l k IsWorn NoneYet = tt
compare_last l k IsWorn IsWorn = inl (refl, tt)
compare_last l k IsWorn IsTooLong = inr worn_too_long
compare_last l k IsTooLong NoneYet = tt
compare_last l k IsTooLong IsWorn = inr (apart-sym worn_line too_long_line worn_too_long)
compare_last l k IsTooLong IsTooLong = inl (refl, tt)

-- a last line is not an answer
last_or_answer : (l : List Piece) (answer : Answer) (ys : List Piece) → IsLastLine l → Compare l (Answered answer ∷ ys)
last_or_answer l answer ys NoneYet = tt
last_or_answer l answer ys IsWorn = inr (apart-sym (answer_text answer) worn_line (answer_worn answer))
last_or_answer l answer ys IsTooLong = inr (apart-sym (answer_text answer) too_long_line (answer_too_long answer))

answer_or_last : (l : List Piece) (answer : Answer) (ys : List Piece) → IsLastLine l → Compare (Answered answer ∷ ys) l
answer_or_last l answer ys NoneYet = tt
answer_or_last l answer ys IsWorn = inr (answer_worn answer)
answer_or_last l answer ys IsTooLong = inr (answer_too_long answer)

-- `unsure` some number of times, and then perhaps a last line
abbrev tail_of : ℕ → List Piece → List Piece
tail_of u l = replicate u (Answered Unsure) ++ l

compare_tail : (u v : ℕ) (l k : List Piece) → IsLastLine l → IsLastLine k → Compare (tail_of u l) (tail_of v k)
compare_tail zero zero l k one other = compare_last l k one other
compare_tail zero (suc v) l k one other = last_or_answer l Unsure (tail_of v k) one
compare_tail (suc u) zero l k one other = answer_or_last k Unsure (tail_of u l) other
compare_tail (suc u) (suc v) l k one other = inl (refl, compare_tail u v l k one other)

tail_or_answer : (u : ℕ) (l : List Piece) (answer : Answer) (ys : List Piece) → IsLastLine l → IsTold answer → Compare (tail_of u l) (Answered answer ∷ ys)
tail_or_answer zero l answer ys last told = last_or_answer l answer ys last
tail_or_answer (suc u) l answer ys last told = inr (apart-sym (answer_text answer) (answer_text Unsure) (told_unsure answer told))

answer_or_tail : (u : ℕ) (l : List Piece) (answer : Answer) (ys : List Piece) → IsLastLine l → IsTold answer → Compare (Answered answer ∷ ys) (tail_of u l)
answer_or_tail zero l answer ys last told = answer_or_last l answer ys last
answer_or_tail (suc u) l answer ys last told = inr (told_unsure answer told)

-- some first answers, and then the tail
abbrev stream_of : ℕ → List Answer → List Piece → List Piece
stream_of count answers tail = map Answered (take count answers) ++ tail

compare_streams : (c d u v : ℕ) (answers : List Answer) (l k : List Piece) → AreTold answers → IsLastLine l → IsLastLine k
    → Compare (stream_of c answers (tail_of u l)) (stream_of d answers (tail_of v k))
compare_streams zero zero u v answers l k told one other = compare_tail u v l k one other
compare_streams zero (suc d) u v [] l k told one other = compare_tail u v l k one other
compare_streams zero (suc d) u v (a ∷ answers) l k told one other = tail_or_answer u l a (stream_of d answers (tail_of v k)) one told.0
compare_streams (suc c) zero u v [] l k told one other = compare_tail u v l k one other
compare_streams (suc c) zero u v (a ∷ answers) l k told one other = answer_or_tail v k a (stream_of c answers (tail_of u l)) other told.0
compare_streams (suc c) (suc d) u v [] l k told one other = compare_tail u v l k one other
compare_streams (suc c) (suc d) u v (a ∷ answers) l k told one other = inl (refl, compare_streams c d u v answers l k told.1 one other)

-- no piece of them is a note
last_apart : (l : List Piece) → IsLastLine l → ApartFromNotes l
last_apart l NoneYet = tt
last_apart l IsWorn = (note_worn, tt)
last_apart l IsTooLong = (note_too_long, tt)

tail_apart : (u : ℕ) (l : List Piece) → IsLastLine l → ApartFromNotes (tail_of u l)
tail_apart zero l last = last_apart l last
tail_apart (suc u) l last = (λ slot. note_apart slot Unsure, tail_apart u l last)

stream_apart : (c u : ℕ) (answers : List Answer) (l : List Piece) → IsLastLine l → ApartFromNotes (stream_of c answers (tail_of u l))
stream_apart zero u answers l last = tail_apart u l last
stream_apart (suc c) u [] l last = tail_apart u l last
stream_apart (suc c) u (a ∷ answers) l last = (λ slot. note_apart slot a, stream_apart c u answers l last)

-- ---- what was said

pub said_is_read_once : (now : Progress) (done : List Item) (said : List ℕ) (one other : List Piece) → AreTold (answers_in done)
    → IsReadAs now done said one → IsReadAs now done said other → one ≡ other
said_is_read_once now done said one other told a b =
    let p = a.in_order in
    let q = b.in_order in
    let answers = answers_in done in
    let streams : Compare (without_notes (one ++ a.next ∷ [])) (without_notes (other ++ b.next ∷ [])) =
    subst (λ (xs : List Piece). Compare xs (without_notes (other ++ b.next ∷ []))) (sym p.are)
    (subst (λ (ys : List Piece). Compare (stream_of p.count answers (tail_of p.unsure p.last)) ys) (sym q.are)
    (compare_streams p.count q.count p.unsure q.unsure answers p.last q.last told p.is_last q.is_last)) in
    let left = subst ApartFromNotes (sym p.are) (stream_apart p.count p.unsure answers p.last p.is_last) in
    let right = subst ApartFromNotes (sym q.are) (stream_apart q.count q.unsure answers q.last q.is_last) in
    read_once one other a.next b.next a.bytes.part b.bytes.part
    (with_notes (one ++ a.next ∷ []) (other ++ b.next ∷ []) a.notes b.notes streams left right)
    a.bytes.cut b.bytes.cut (sym a.bytes.is ∙ b.bytes.is)
