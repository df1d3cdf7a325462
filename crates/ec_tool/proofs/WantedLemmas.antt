-- Lists of numbers in texts.
use Rattle.std.proofs.Common.{◌≡◌, ℕ, ◌^◌, ◌<◌, List, [], ◌∷◌, length, get_or, map, refl, sym, subst, ap, ◌∙◌, arith}
use Rattle.std.specs.List.{All}
use Rattle.std.specs.Fmt.{decimal}
use Rattle.std.proofs.lemmas.Fmt.{decimal_injective}
use Rattle.std.proofs.lemmas.List.{get_or-map, length-map}
use Rattle.std.proofs.lemmas.List.Elements.{All-head, All-tail}
use Rattle.ec_words.specs.Numbers.{IsNumberText}
use Rattle.ec_tool.specs.Wanted.{AreNumbers}
use Rattle.ec_tool.specs.Words.{AreDistinct, IsList, comma_pieces}

-- one of some texts is no number, so they are no numbers
pub not_numbers : {A : Type 0} (shown : A → List ℕ) (texts : List A) (i : ℕ) (d : A) → i < length texts → ((n : ℕ) → IsNumberText (shown (get_or texts i d)) n → ⊥)
    → (numbers : List ℕ) → AreNumbers (map shown texts) numbers → ⊥
not_numbers shown texts i d within none numbers are =
    let count : length texts ≡ length numbers = sym (length-map texts shown) ∙ ap length are.spelled ∙ length-map numbers decimal in
    let there : i < length numbers = omega (arith, count) in
    none (get_or numbers i 0) (are.small i 0 there, sym (get_or-map shown texts i d [] within) ∙ ap (λ l. get_or l i []) are.spelled ∙ get_or-map decimal numbers i 0 [] there)

-- numbers that are printed alike are the same
pub same_numbers : (xs ys : List ℕ) → All (λ n. n < 2 ^ 64) xs → All (λ n. n < 2 ^ 64) ys → map decimal xs ≡ map decimal ys → xs ≡ ys
same_numbers [] [] small below same = refl
same_numbers [] (y ∷ ys) small below same = absurd (omega (arith, ap length same))
same_numbers (x ∷ xs) [] small below same = absurd (omega (arith, ap length same))
same_numbers (x ∷ xs) (y ∷ ys) small below same =
    let first : decimal x ≡ decimal y = cc in
    let more : map decimal xs ≡ map decimal ys = cc in
    let one = decimal_injective x y (All-head (λ n. n < 2 ^ 64) x xs small) (All-head (λ n. n < 2 ^ 64) y ys below) first in
    let rest = same_numbers xs ys (All-tail (λ n. n < 2 ^ 64) x xs small) (All-tail (λ n. n < 2 ^ 64) y ys below) more in
    λ i. one i ∷ rest i

-- the numbers of a list, if its pieces are these numbers
pub distinct_numbers : (text wanted numbers : List ℕ) → IsList text wanted → AreNumbers (comma_pieces text) numbers → AreDistinct numbers
distinct_numbers text wanted numbers list are =
    subst AreDistinct (same_numbers wanted numbers list.small are.small (sym list.spelled ∙ are.spelled)) list.distinct
