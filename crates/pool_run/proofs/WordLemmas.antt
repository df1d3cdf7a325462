-- A command line of two words.
use Rattle.std.proofs.Common.{◌≡◌, ◌∷◌, [], List, ℕ, ◌<◌, ◌≤◌, length, get_or, ◌∙◌, arith, true, false, sym, ap}
use Rattle.std.specs.Prelude.{String, string_bytes, bytes_eq}
use Rattle.std.specs.declared.alloc.Global.{Global}
use Rattle.std.proofs.lemmas.Slice.Eq.{bytes_eq-Decides}
use Rattle.pool_run.specs.Words.{texts_of}

pub two_texts : (words : List (String Global)) (a b : String Global) → 2 ≤ length words → length words < 3
    → a ≡ get_or words 0 a → b ≡ get_or words 1 b → texts_of words ≡ string_bytes a ∷ string_bytes b ∷ []
two_texts [] a b few many p q = absurd (omega arith)
two_texts (x ∷ []) a b few many p q = absurd (omega arith)
two_texts (x ∷ y ∷ []) a b few many p q = λ i. string_bytes (sym p i) ∷ string_bytes (sym q i) ∷ []
two_texts (x ∷ y ∷ z ∷ more) a b few many p q = absurd (omega arith)

pub same_text : (shown xs ys : List ℕ) → shown ≡ xs → true ≡ bytes_eq shown ys → xs ≡ ys
same_text shown xs ys is e = sym is ∙ (bytes_eq-Decides shown ys).0 (sym e)

pub other_text : (shown xs ys : List ℕ) → shown ≡ xs → false ≡ bytes_eq shown ys → xs ≡ ys → ⊥
other_text shown xs ys is e same = let t : true ≡ false = sym ((bytes_eq-Decides shown ys).1 (is ∙ same)) ∙ sym e in cc

pub two_words : (words : List (String Global)) (a b : String Global) (x y : List ℕ) → 2 ≤ length words → length words < 3
    → a ≡ get_or words 0 a → b ≡ get_or words 1 b → string_bytes a ≡ x → string_bytes b ≡ y → texts_of words ≡ x ∷ y ∷ []
two_words words a b x y few many p q s t = two_texts words a b few many p q ∙ (λ i. s i ∷ t i ∷ [])

pub three_words : (words : List (String Global)) (a b : String Global) (x y : List ℕ) → 3 ≤ length words → length words < 4
    → a ≡ get_or words 0 a → b ≡ get_or words 2 b → string_bytes a ≡ x → string_bytes b ≡ y → (between : List ℕ) × (texts_of words ≡ x ∷ between ∷ y ∷ [])
three_words [] a b x y few many p q s t = absurd (omega arith)
three_words (u ∷ []) a b x y few many p q s t = absurd (omega arith)
three_words (u ∷ v ∷ []) a b x y few many p q s t = absurd (omega arith)
three_words (u ∷ v ∷ w ∷ []) a b x y few many p q s t =
    (string_bytes v, λ i. (ap string_bytes (sym p) ∙ s) i ∷ string_bytes v ∷ (ap string_bytes (sym q) ∙ t) i ∷ [])
three_words (u ∷ v ∷ w ∷ z ∷ more) a b x y few many p q s t = absurd (omega arith)
