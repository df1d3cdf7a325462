-- How the settings of a text are found, step by step.
use Rattle.std.proofs.Common.{◌≡◌, ℕ, Bool, true, false, cond, List, [], ◌∷◌, ◌++◌, ◌+◌, ◌-◌, ◌<◌, ◌≤◌, ◌==◌, ◌&&◌, length, get_or, take, drop, refl, ap, sym, ◌∙◌, arith}
use Rattle.std.specs.Borrow.{Bor}
use Rattle.std.proofs.lemmas.List.{drop_more, drop_all, take_more, get_or-drop, length-drop, append-nil, append_assoc, map-append}
use Rattle.std.specs.List.{onto_first}
use Rattle.ec_code.specs.Settings.{is_parting, level_after, pieces_from}
use Rattle.profile_texts.specs.SettingTexts.{bytes_of}

-- the texts with these bytes put before the first
abbrev pub onto_front : List ℕ → List (List ℕ) → List (List ℕ)
onto_front front [] = front ∷ []
onto_front front (piece ∷ pieces) = (front ++ piece) ∷ pieces

-- the bytes from one place to another
abbrev pub part : List ℕ → ℕ → ℕ → List ℕ
part text start i = take (i - start) (drop start text)

-- the pieces from the start of one on, of which the bytes before i have been seen
pub pieces_left : List ℕ → ℕ → ℕ → ℕ → List (List ℕ)
pieces_left text start i level = onto_front (part text start i) (pieces_from level (drop i text))

onto_nothing : (level : ℕ) (text : List ℕ) → onto_front [] (pieces_from level text) ≡ pieces_from level text
unfolding pieces_from
onto_nothing level [] = refl
onto_nothing level (b ∷ text) = by ((level == 0) && is_parting b) (pieces_from (level_after level b) text)
  where
    by : (parts : Bool) (rest : List (List ℕ))
        → onto_front [] (cond parts ([] ∷ pieces_from level text) (onto_first b rest)) ≡ cond parts ([] ∷ pieces_from level text) (onto_first b rest)
    by true rest = refl
    by false [] = refl
    by false (piece ∷ pieces) = refl

onto_more : (front : List ℕ) (b : ℕ) (pieces : List (List ℕ)) → onto_front front (onto_first b pieces) ≡ onto_front (front ++ b ∷ []) pieces
onto_more front b [] = refl
onto_more front b (piece ∷ pieces) = ap (λ p. p ∷ pieces) (sym (append_assoc front (b ∷ []) piece))

pub pieces_left_begun : (text : List ℕ) → pieces_left text 0 0 0 ≡ pieces_from 0 text
unfolding pieces_left
pieces_left_begun text = onto_nothing 0 text

part_nothing : (text : List ℕ) (i : ℕ) → part text i i ≡ []
part_nothing text i = let e : i - i ≡ 0 = omega arith in ap (λ n. take n (drop i text)) e

part_more : (text : List ℕ) (start i d : ℕ) → start ≤ i → i < length text → part text start (i + 1) ≡ part text start i ++ get_or text i d ∷ []
part_more text start i d le lt =
    let on : i + 1 - start ≡ i - start + 1 = omega arith in
    let at : start + (i - start) ≡ i = omega arith in
    ap (λ n. take n (drop start text)) on
    ∙ take_more (drop start text) (i - start) d (omega (arith, length-drop start text))
    ∙ ap (λ b. part text start i ++ b ∷ []) (get_or-drop start text (i - start) d ∙ ap (λ n. get_or text n d) at)

module _ (text : List ℕ) (start i level d : ℕ) (le : start ≤ i) (lt : i < length text) where
  pub pieces_left_parted : ((level == 0) && is_parting (get_or text i d)) ≡ true
      → pieces_left text start i level ≡ part text start i ∷ pieces_left text (i + 1) (i + 1) level
  unfolding pieces_from pieces_left
  pieces_left_parted e =
      ap (λ t. onto_front (part text start i) (pieces_from level t)) (drop_more text i d lt)
      ∙ ap (λ c. onto_front (part text start i) (cond c ([] ∷ pieces_from level (drop (i + 1) text)) (onto_first (get_or text i d) (pieces_from (level_after level (get_or text i d)) (drop (i + 1) text))))) e
      ∙ ap (λ p. p ∷ pieces_from level (drop (i + 1) text)) (append-nil (part text start i))
      ∙ ap (λ ps. part text start i ∷ ps) (sym (ap (λ f. onto_front f (pieces_from level (drop (i + 1) text))) (part_nothing text (i + 1)) ∙ onto_nothing level (drop (i + 1) text)))

  pub pieces_left_kept : ((level == 0) && is_parting (get_or text i d)) ≡ false
      → pieces_left text start i level ≡ pieces_left text start (i + 1) (level_after level (get_or text i d))
  unfolding pieces_from pieces_left
  pieces_left_kept e =
      ap (λ t. onto_front (part text start i) (pieces_from level t)) (drop_more text i d lt)
      ∙ ap (λ c. onto_front (part text start i) (cond c ([] ∷ pieces_from level (drop (i + 1) text)) (onto_first (get_or text i d) (pieces_from (level_after level (get_or text i d)) (drop (i + 1) text))))) e
      ∙ onto_more (part text start i) (get_or text i d) (pieces_from (level_after level (get_or text i d)) (drop (i + 1) text))
      ∙ ap (λ f. onto_front f (pieces_from (level_after level (get_or text i d)) (drop (i + 1) text))) (sym (part_more text start i d le lt))

pub pieces_left_ended : (text : List ℕ) (start i level : ℕ) → i ≡ length text → pieces_left text start i level ≡ part text start (length text) ∷ []
unfolding pieces_from pieces_left
pieces_left_ended text start i level e =
    ap (λ t. onto_front (part text start i) (pieces_from level t)) (drop_all i text (omega arith))
    ∙ ap (λ p. p ∷ []) (append-nil (part text start i) ∙ ap (part text start) e)

-- a piece that was added to those seen
pub added : (seen : List (Bor (List ℕ))) (piece : Bor (List ℕ)) (left whole : List (List ℕ)) → bytes_of seen ++ piece.now ∷ left ≡ whole → bytes_of (seen ++ piece ∷ []) ++ left ≡ whole
added seen piece left whole e = ap (λ ps. ps ++ left) (map-append (λ p. p.now) seen (piece ∷ [])) ∙ append_assoc (bytes_of seen) (piece.now ∷ []) left ∙ e

pub last_added : (seen : List (Bor (List ℕ))) (piece : Bor (List ℕ)) (whole : List (List ℕ)) → bytes_of seen ++ piece.now ∷ [] ≡ whole → bytes_of (seen ++ piece ∷ []) ≡ whole
last_added seen piece whole e = map-append (λ p. p.now) seen (piece ∷ []) ∙ e
