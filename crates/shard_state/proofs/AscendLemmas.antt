-- Names that ascend pair by pair.
use Rattle.std.proofs.Common.{◌≡◌, ℕ, ◌+◌, ◌-◌, ◌<◌, ◌≤◌, Bool, true, false, ◌&&◌, List, [], ◌∷◌, drop, get_or, length, refl, sym, ap, ◌∙◌, arith}
use Rattle.std.specs.Ordering.{is_lt}
use Rattle.std.specs.FinMap as map
use Rattle.std.specs.FinMap.Entries.{below_all}
use Rattle.std.proofs.lemmas.List.{drop_more, length-drop}
use Rattle.std.proofs.lemmas.Bool.{false≢true, and_parts}
use Rattle.shard_state.specs.Spots.{Attr}
use Rattle.shard_state.proofs.SpotLemmas.{by_name, less, lower}

pub both_true : (b c : Bool) → b ≡ true → c ≡ true → (b && c) ≡ true
both_true true c p q = q
both_true false c p q = absurd (false≢true p)

-- the first is below all of the others if it is below the second
first_below : (e f : Attr) (es : List Attr) → is_lt (by_name e.0 f.0) ≡ true → map.is_sorted by_name (f ∷ es) ≡ true → below_all by_name e.0 (f ∷ es) ≡ true
first_below e f es lt sorted =
    both_true (is_lt (by_name e.0 f.0)) (below_all by_name e.0 es) lt
    (lower e.0 f.0 es (less (by_name e.0 f.0) lt) (and_parts (below_all by_name f.0 es) (map.is_sorted by_name es) sorted).0)

not_second : (b c : Bool) → c ≡ false → (b && c) ≡ false
not_second true c p = p
not_second false c p = refl

two_first : (e f : Attr) (es : List Attr) (b s : Bool) → is_lt (by_name e.0 f.0) ≡ b → map.is_sorted by_name (f ∷ es) ≡ s
    → map.is_sorted by_name (e ∷ f ∷ es) ≡ (b && s)
two_first e f es true true lt sorted = both_true (below_all by_name e.0 (f ∷ es)) (map.is_sorted by_name (f ∷ es)) (first_below e f es lt sorted) sorted
two_first e f es true false lt sorted = not_second (below_all by_name e.0 (f ∷ es)) (map.is_sorted by_name (f ∷ es)) sorted
two_first e f es false s lt sorted = ap (λ c. (c && below_all by_name e.0 es) && map.is_sorted by_name (f ∷ es)) lt

module _ (list : List Attr) (i : ℕ) (e f : Attr) (low : 1 ≤ i) (inside : i < length list) (first : e ≡ get_or list (i - 1) e) (second : f ≡ get_or list i f) where
  from_first : drop (i - 1) list ≡ e ∷ drop i list
  from_first =
      let next : (i - 1) + 1 ≡ i = omega (arith, low) in
      drop_more list (i - 1) e (omega (arith, inside)) ∙ (λ k. sym first k ∷ drop (next k) list)

  from_second : drop i list ≡ f ∷ drop (i + 1) list
  from_second = drop_more list i f inside ∙ ap (λ q. q ∷ drop (i + 1) list) (sym second)

  pub two_at : (b : Bool) → is_lt (by_name e.0 f.0) ≡ b → map.is_sorted by_name (drop (i - 1) list) ≡ (b && map.is_sorted by_name (drop i list))
  two_at b lt =
      ap (map.is_sorted by_name) (from_first ∙ ap (λ es. e ∷ es) from_second)
      ∙ two_first e f (drop (i + 1) list) b (map.is_sorted by_name (f ∷ drop (i + 1) list)) lt refl
      ∙ ap (λ es. b && map.is_sorted by_name es) (sym from_second)

short_sorted : (es : List Attr) → length es ≤ 1 → map.is_sorted by_name es ≡ true
short_sorted [] le = refl
short_sorted (e ∷ []) le = refl
short_sorted (e ∷ f ∷ es) le = absurd (omega (arith, le))

pub last_sorted : (list : List Attr) (i : ℕ) → length list ≤ i → map.is_sorted by_name (drop (i - 1) list) ≡ true
last_sorted list i le = short_sorted (drop (i - 1) list) (omega (arith, le, length-drop (i - 1) list))
