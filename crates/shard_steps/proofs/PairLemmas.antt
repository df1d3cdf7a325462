-- Attributes that are read one after another.
use Rattle.std.proofs.Common.{◌≡◌, ℕ, suc, ◌+◌, ◌-◌, ◌<◌, ◌≤◌, List, [], ◌∷◌, ◌++◌, refl, sym, ap, ◌∙◌, Option, Some, None, arith}
use Rattle.std.proofs.lemmas.List.{append_assoc, append-nil}
use Rattle.shard_model.specs.StepReading.{read_pair, read_pairs, and_then, pushed}

abbrev pub Attr : Type 0
Attr = List ℕ × List ℕ

-- some attributes, and what was read after them
abbrev pub after_front : List Attr → Option (List Attr × List ℕ) → Option (List Attr × List ℕ)
after_front front None = None
after_front front (Some p) = Some (front ++ p.0, p.1)

pub no_front : (o : Option (List Attr × List ℕ)) → o ≡ after_front [] o
no_front None = refl
no_front (Some p) = refl

further : (front : List Attr) (attr : Attr) (o : Option (List Attr × List ℕ))
    → after_front front (and_then (and_then o (λ y rest. Some ((attr, y), rest))) (λ x rest. Some (pushed x, rest))) ≡ after_front (front ++ attr ∷ []) o
further front attr None = refl
further front attr (Some p) = ap (λ xs. Some (xs, p.1)) (sym (append_assoc front (attr ∷ []) p.0))

one_less : (n i : ℕ) → i < n → n - i ≡ suc (n - (i + 1))
one_less n i lt = omega (arith, lt)

pub pair_more : (n i : ℕ) (front : List Attr) (text rest : List ℕ) (attr : Attr) → i < n → read_pair text ≡ Some (attr, rest)
    → after_front front (read_pairs (n - i) text) ≡ after_front (front ++ attr ∷ []) (read_pairs (n - (i + 1)) rest)
pair_more n i front text rest attr lt is =
    ap (λ m. after_front front (read_pairs m text)) (one_less n i lt)
    ∙ ap (λ o. after_front front (and_then (and_then o (λ x rest. and_then (read_pairs (n - (i + 1)) rest) (λ y rest. Some ((x, y), rest)))) (λ x rest. Some (pushed x, rest)))) is
    ∙ further front attr (read_pairs (n - (i + 1)) rest)

pub no_pair_more : (n i : ℕ) (front : List Attr) (text : List ℕ) → i < n → read_pair text ≡ None → after_front front (read_pairs (n - i) text) ≡ None
no_pair_more n i front text lt is =
    ap (λ m. after_front front (read_pairs m text)) (one_less n i lt)
    ∙ ap (λ o. after_front front (and_then (and_then o (λ x rest. and_then (read_pairs (n - (i + 1)) rest) (λ y rest. Some ((x, y), rest)))) (λ x rest. Some (pushed x, rest)))) is

pub all_pairs : (n i : ℕ) (front : List Attr) (text : List ℕ) → n ≤ i → after_front front (read_pairs (n - i) text) ≡ Some (front, text)
all_pairs n i front text le =
    let none : n - i ≡ 0 = omega (arith, le) in
    ap (λ m. after_front front (read_pairs m text)) none ∙ ap (λ xs. Some (xs, text)) (append-nil front)
