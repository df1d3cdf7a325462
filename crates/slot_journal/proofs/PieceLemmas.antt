-- Pieces of a text.
use Rattle.std.proofs.Common.{◌≡◌, ◌≤◌, ◌<◌, ◌+◌, ◌-◌, ⊎_elim, min, ℕ, zero, suc, List, [], ◌∷◌, ◌++◌, length, take, drop, refl, sym, ◌∙◌, ap, subst, arith, length-drop}
use Rattle.std.proofs.lemmas.List.{length-take, take_min, drop-take, drop-drop, drop_all}
use Rattle.std.proofs.lemmas.Bool.{cases_lt}
use Rattle.slot_journal.specs.Reading.{IsPiece, ShowsPrefix}

pub take_add : (m n : ℕ) (xs : List ℕ) → take (m + n) xs ≡ take m xs ++ take n (drop m xs)
take_add zero n xs = let e : zero + n ≡ n = omega arith in ap (λ k. take k xs) e
take_add (suc m) n [] = let e : suc m + n ≡ suc (m + n) = omega arith in ap (λ k. take {A = ℕ} k []) e ∙ sym (nil n)
  where
    nil : (n : ℕ) → take {A = ℕ} n [] ≡ []
    nil zero = refl
    nil (suc n) = refl
take_add (suc m) n (x ∷ xs) = let e : suc m + n ≡ suc (m + n) = omega arith in ap (λ k. take k (x ∷ xs)) e ∙ ap (λ (l : List ℕ). x ∷ l) (take_add m n xs)

pub taken_is_piece : (text : List ℕ) (start count : ℕ) (bytes : List ℕ) → bytes ≡ take count (drop start text) → IsPiece text start bytes
taken_is_piece text start count bytes is =
    is ∙ sym (take_min count (drop start text)) ∙ ap (λ n. take n (drop start text)) (sym (length-take count (drop start text)) ∙ ap length (sym is))

pub later_piece : (text : List ℕ) (start at : ℕ) (bytes : List ℕ) → start ≤ at → IsPiece text start bytes → IsPiece text at (drop (at - start) bytes)
later_piece text start at bytes le is = ⊎_elim past within (cases_lt (length bytes) (at - start))
  where
    past : length bytes < at - start → IsPiece text at (drop (at - start) bytes)
    past less = subst (λ (l : List ℕ). IsPiece text at l) (sym (drop_all (at - start) bytes (omega (arith, less)))) refl

    within : at - start ≤ length bytes → IsPiece text at (drop (at - start) bytes)
    within more =
        let rest = length bytes - (at - start) in
        let size : rest ≡ length (drop (at - start) bytes) = sym (length-drop (at - start) bytes) in
        let whole : length bytes ≡ at - start + rest = omega (arith, more) in
        let there : start + (at - start) ≡ at = omega (arith, le) in
        ap (λ (l : List ℕ). drop (at - start) l) (is ∙ ap (λ n. take n (drop start text)) whole)
        ∙ drop-take (at - start) rest (drop start text)
        ∙ ap (λ (l : List ℕ). take rest l) (drop-drop (at - start) start text ∙ ap (λ n. drop n text) there)
        ∙ ap (λ n. take n (drop at text)) size

-- a piece that was read from here shows what a record begins with
pub taken_shows : (text : List ℕ) (at start count len : ℕ) (bytes : List ℕ) → start ≡ at → len ≡ length text → bytes ≡ take count (drop at text) → min 5 (len - at) ≤ count
    → ShowsPrefix text at (drop (at - start) bytes)
taken_shows text at start count len bytes same is_len is some =
    let none : at - start ≡ 0 = omega (arith, same) in
    let size : length bytes ≡ min count (length text - at) = ap length is ∙ length-take count (drop at text) ∙ ap (λ n. min count n) (length-drop at text) in
    subst (λ n. ShowsPrefix text at (drop n bytes)) (sym none) (record {
      is_piece = taken_is_piece text at count bytes is;
      enough = omega (arith, size, is_len, some);
    })

-- the first bytes of a text
pub first_bytes : (text : List ℕ) (count : ℕ) (bytes : List ℕ) → bytes ≡ take count (drop 0 text) → length bytes ≡ min count (length text)
first_bytes text count bytes is = ap length is ∙ length-take count text

-- known bytes and those that follow them
pub completed : (text : List ℕ) (at len : ℕ) (known old body : List ℕ) → length known ≤ len → IsPiece text at known → length old ≡ len → take (length known) old ≡ known
    → body ≡ take (length known) old ++ take (length old - length known) (drop (at + length known) text) → body ≡ take len (drop at text)
completed text at len known old body le piece size front is =
    let k = length known in
    let whole : len ≡ k + (len - k) = omega (arith, le) in
    is
    ∙ ap (λ (l : List ℕ). l ++ take (length old - k) (drop (at + k) text)) (front ∙ piece)
    ∙ ap (λ n. take k (drop at text) ++ take (n - k) (drop (at + k) text)) size
    ∙ ap (λ (l : List ℕ). take k (drop at text) ++ take (len - k) l) (sym (drop-drop k at text))
    ∙ sym (take_add k (len - k) (drop at text))
    ∙ ap (λ n. take n (drop at text)) (sym whole)
