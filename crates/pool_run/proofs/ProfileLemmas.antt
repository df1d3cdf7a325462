-- What is said of a profile, number after number.
use Rattle.std.proofs.Common.{◌≡◌, ℕ, List, [], ◌∷◌, ◌++◌, ◌+◌, map, append_assoc, ap, sym, ◌∙◌, arith}
use Rattle.std.specs.List.{flat_map, range_with_len}
use Rattle.std.proofs.lemmas.List.FromFn.{map-range_with_len_more}
use Rattle.ec_model.proofs.StripeLemmas.{flat_map-range_more}

-- one value more of a function over the first numbers
pub value_more : (f : ℕ → ℕ) (old new : List ℕ) (j x : ℕ) → old ≡ map f (range_with_len 0 j) → new ≡ old ++ x ∷ [] → x ≡ f j
    → new ≡ map f (range_with_len 0 (j + 1))
value_more f old new j x before pushed is =
    pushed ∙ ap (λ front. front ++ x ∷ []) before ∙ ap (λ y. map f (range_with_len 0 j) ++ y ∷ []) is ∙ sym (map-range_with_len_more f 0 j j (omega arith))

-- one text more of those of the first numbers
pub texts_more : (f : ℕ → List ℕ) (first old new : List ℕ) (p : ℕ) → old ≡ first ++ flat_map f (range_with_len 0 p) → new ≡ old ++ f p
    → new ≡ first ++ flat_map f (range_with_len 0 (p + 1))
texts_more f first old new p before added =
    added ∙ ap (λ front. front ++ f p) before ∙ append_assoc first (flat_map f (range_with_len 0 p)) (f p)
    ∙ ap (λ rest. first ++ rest) (ap (λ q. flat_map f (range_with_len 0 p) ++ f q) (omega arith) ∙ sym (flat_map-range_more f 0 p))
