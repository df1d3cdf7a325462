-- The text of a set of positions, one position after another.
use Rattle.std.proofs.Common.{◌≡◌, ℕ, ◌+◌, List, [], ◌∷◌, ◌++◌, Bool, true, false, cond, map, refl, sym, ap, ◌∙◌, append_assoc, append-nil, add-one}
use Rattle.std.proofs.lemmas.Bool.{ne_eqb}
use Rattle.std.specs.Int.{bit_at}
use Rattle.std.specs.Fmt.{decimal}
use Rattle.std.specs.List.{join_with_byte}
use Rattle.ec_words.specs.Masks.{positions_below, text_of, mask_text}

abbrev pub is_empty : List ℕ → Bool
is_empty [] = true
is_empty (p ∷ positions) = false

-- the numbers with a comma between each two
abbrev pub joined : List ℕ → List ℕ
joined positions = join_with_byte 44 (map decimal positions)

-- what stands before the next number
abbrev pub separator : Bool → List ℕ
separator first = cond first [] (44 ∷ [])

joined-push : (positions : List ℕ) (p : ℕ) → joined (positions ++ (p ∷ [])) ≡ joined positions ++ (separator (is_empty positions) ++ decimal p)
joined-push [] p = refl
joined-push (q ∷ []) p = refl
joined-push (q ∷ r ∷ positions) p =
    ap (λ t. decimal q ++ (44 ∷ t)) (joined-push (r ∷ positions) p)
    ∙ sym (append_assoc (decimal q) (44 ∷ joined (r ∷ positions)) (separator false ++ decimal p))

pub is_empty-push : (positions : List ℕ) (p : ℕ) → is_empty (positions ++ (p ∷ [])) ≡ false
is_empty-push [] p = refl
is_empty-push (q ∷ positions) p = refl

positions_with : (n mask : ℕ) → bit_at mask n ≡ 1 → positions_below (n + 1) mask ≡ positions_below n mask ++ (n ∷ [])
unfolding positions_below
positions_with n mask bit = rw (add-one n) (rw bit refl)

positions_without : (n mask : ℕ) → (bit_at mask n ≡ 1 → ⊥) → positions_below (n + 1) mask ≡ positions_below n mask
unfolding positions_below
positions_without n mask out = rw (add-one n) (rw (ne_eqb (bit_at mask n) 1 out) (append-nil (positions_below n mask)))

pub is_empty-with : (n mask : ℕ) → bit_at mask n ≡ 1 → is_empty (positions_below (n + 1) mask) ≡ false
is_empty-with n mask bit = ap is_empty (positions_with n mask bit) ∙ is_empty-push (positions_below n mask) n

pub is_empty-without : (n mask : ℕ) → (bit_at mask n ≡ 1 → ⊥) → is_empty (positions_below (n + 1) mask) ≡ is_empty (positions_below n mask)
is_empty-without n mask out = ap is_empty (positions_without n mask out)

-- the text so far, a separator and the next number
pub joined-with : (n mask : ℕ) (first : Bool) (before : List ℕ) → bit_at mask n ≡ 1 → first ≡ is_empty (positions_below n mask) → before ≡ separator first
    → joined (positions_below n mask) ++ (before ++ decimal n) ≡ joined (positions_below (n + 1) mask)
joined-with n mask first before bit empty is =
    ap (λ t. joined (positions_below n mask) ++ (t ++ decimal n)) (is ∙ ap separator empty)
    ∙ sym (joined-push (positions_below n mask) n) ∙ ap joined (sym (positions_with n mask bit))

pub joined-without : (n mask : ℕ) → (bit_at mask n ≡ 1 → ⊥) → joined (positions_below n mask) ≡ joined (positions_below (n + 1) mask)
joined-without n mask out = ap joined (sym (positions_without n mask out))

text_of-some : (positions : List ℕ) → is_empty positions ≡ false → joined positions ≡ text_of positions
text_of-some [] e = absurd (cc)
text_of-some (p ∷ positions) e = refl

text_of-none : (positions : List ℕ) → is_empty positions ≡ true → joined positions ++ (45 ∷ []) ≡ text_of positions
text_of-none [] e = refl
text_of-none (p ∷ positions) e = absurd (cc)

pub text_of_some : (n mask : ℕ) (first : Bool) → n ≡ 16 → first ≡ is_empty (positions_below n mask) → first ≡ false → joined (positions_below n mask) ≡ mask_text mask
text_of_some n mask first last is e = text_of-some (positions_below n mask) (sym is ∙ e) ∙ ap (λ t. text_of (positions_below t mask)) last

pub text_of_none : (n mask : ℕ) (first : Bool) → n ≡ 16 → first ≡ is_empty (positions_below n mask) → first ≡ true → joined (positions_below n mask) ++ (45 ∷ []) ≡ mask_text mask
text_of_none n mask first last is e = text_of-none (positions_below n mask) (sym is ∙ e) ∙ ap (λ t. text_of (positions_below t mask)) last
