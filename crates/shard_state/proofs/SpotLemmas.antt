-- Where a name stands in a list of attributes that ascend.
use Rattle.std.proofs.Common.{◌≡◌, ℕ, zero, suc, ◌+◌, ◌<◌, true, false, cond, not, ◌&&◌, List, [], ◌∷◌, ◌++◌, take, drop, get_or, length, refl, sym, ap, subst, ◌∙◌, Some, None, arith}
use Rattle.std.specs.Ordering.{nat_cmp, is_lt, is_eq}
use Rattle.std.specs.Cmp.Lexicographic.{slice_cmp, nat_list_cmp_total}
use Rattle.std.specs.declared.cmp.Ordering.TheVariants.{Less, Equal, Greater}
use Rattle.std.specs.declared.cmp.Ordering.{Ordering}
use Rattle.std.proofs.lemmas.Bool.{false≢true, and_parts}
use Rattle.std.proofs.lemmas.List.{drop_more}
use Rattle.std.specs.FinMap as map
use Rattle.std.specs.FinMap.Entries.{below_all, by_order}
use Rattle.shard_state.specs.Spots.{Attr, without, IsSpot}

abbrev pub by_name : List ℕ → List ℕ → Ordering
by_name = slice_cmp nat_cmp

-- the name is above the first i names
pub record IsPast (name : List ℕ) (list : List Attr) (i : ℕ) : Type 0 where
  pub value : map.find (slice_cmp nat_cmp) name list ≡ map.find (slice_cmp nat_cmp) name (drop i list)
  pub put : (value : List ℕ) → map.put (slice_cmp nat_cmp) name value list ≡ take i list ++ map.put (slice_cmp nat_cmp) name value (drop i list)
  pub taken : without name list ≡ take i list ++ without name (drop i list)
  pub sorted : map.is_sorted (slice_cmp nat_cmp) (drop i list) ≡ true

pub less : (r : Ordering) → is_lt r ≡ true → r ≡ Less
less Less e = refl
less Equal e = absurd (false≢true e)
less Greater e = absurd (false≢true e)

-- a name below all of a list is not in it
below_none : (name : List ℕ) (es : List Attr) → below_all by_name name es ≡ true → (map.find by_name name es ≡ None) × (without name es ≡ es)
below_none name [] below = (refl, refl)
below_none name (e ∷ es) below =
    let parts = and_parts (is_lt (by_name name e.0)) (below_all by_name name es) below in
    let first = less (by_name name e.0) parts.0 in
    let rest = below_none name es parts.1 in (
      ap (λ r. cond (is_eq r) (Some e.1) (map.find by_name name es)) first ∙ rest.0,
      ap (λ r. cond (not (is_eq r)) (e ∷ without name es) (without name es)) first ∙ ap (λ xs. e ∷ xs) rest.1,
    )

pub lower : (name k : List ℕ) (es : List Attr) → by_name name k ≡ Less → below_all by_name k es ≡ true → below_all by_name name es ≡ true
lower name k [] lt below = refl
lower name k (e ∷ es) lt below =
    let parts = and_parts (is_lt (by_name k e.0)) (below_all by_name k es) below in
    let first = nat_list_cmp_total.trans name k e.0 lt (less (by_name k e.0) parts.0) in
    ap (λ r. is_lt r && below_all by_name name es) first ∙ lower name k es lt parts.1

same_at : (list : List Attr) (i : ℕ) (d e : Attr) → i < length list → get_or list i d ≡ get_or list i e
same_at [] i d e inside = absurd (omega (arith, inside))
same_at (x ∷ list) zero d e inside = refl
same_at (x ∷ list) (suc i) d e inside = same_at list i d e (omega (arith, inside))

module _ (name : List ℕ) (list : List Attr) (i : ℕ) (p : Attr) (past : IsPast name list i) (inside : i < length list) (is : p ≡ get_or list i p) where
  at : (d : Attr) → get_or list i d ≡ p
  at d = same_at list i d p inside ∙ sym is

  split : drop i list ≡ p ∷ drop (i + 1) list
  split = drop_more list i p inside ∙ ap (λ q. q ∷ drop (i + 1) list) (sym is)

  rest_sorted : (below_all by_name p.0 (drop (i + 1) list) ≡ true) × (map.is_sorted by_name (drop (i + 1) list) ≡ true)
  rest_sorted = and_parts (below_all by_name p.0 (drop (i + 1) list)) (map.is_sorted by_name (drop (i + 1) list)) (ap (map.is_sorted by_name) (sym split) ∙ past.sorted)

  pub spot_there : by_name name p.0 ≡ Equal → IsSpot name list i true
  spot_there equal =
      let same = map.slice_cmp-IsAntisymmetric map.nat_cmp-IsAntisymmetric name p.0 equal in
      let rest = drop (i + 1) list in
      record {
        inside = λ e. inside;
        low = omega (arith, inside);
        key = λ d e. ap (λ q. q.0) (at d) ∙ sym same;
        value = λ d.
            past.value ∙ ap (map.find by_name name) split ∙ ap (λ r. cond (is_eq r) (Some p.1) (map.find by_name name rest)) equal
            ∙ ap (λ q. Some q.1) (sym (at d));
        put = λ value.
            past.put value ∙ ap (λ xs. take i list ++ map.put by_name name value xs) split
            ∙ ap (λ r. take i list ++ by_order r ((name, value) ∷ p ∷ rest) ((p.0, value) ∷ rest) (p ∷ map.put by_name name value rest)) equal
            ∙ ap (λ k. take i list ++ (k, value) ∷ rest) (sym same);
        taken =
            past.taken ∙ ap (λ xs. take i list ++ without name xs) split
            ∙ ap (λ r. take i list ++ cond (not (is_eq r)) (p ∷ without name rest) (without name rest)) equal
            ∙ ap (λ xs. take i list ++ xs) (below_none name rest (subst (λ k. below_all by_name k rest ≡ true) (sym same) rest_sorted.0)).1;
      }

  pub spot_before : by_name name p.0 ≡ Less → IsSpot name list i false
  spot_before lt =
      let rest = drop (i + 1) list in
      let none = below_none name rest (lower name p.0 rest lt rest_sorted.0) in
      record {
        inside = λ e. absurd (false≢true e);
        low = omega (arith, inside);
        key = λ d e. absurd (false≢true e);
        value = λ d.
            past.value ∙ ap (map.find by_name name) split ∙ ap (λ r. cond (is_eq r) (Some p.1) (map.find by_name name rest)) lt ∙ none.0;
        put = λ value.
            past.put value ∙ ap (λ xs. take i list ++ map.put by_name name value xs) split
            ∙ ap (λ r. take i list ++ by_order r ((name, value) ∷ p ∷ rest) ((p.0, value) ∷ rest) (p ∷ map.put by_name name value rest)) lt
            ∙ ap (λ xs. take i list ++ (name, value) ∷ xs) (sym split);
        taken =
            past.taken ∙ ap (λ xs. take i list ++ without name xs) split
            ∙ ap (λ r. take i list ++ cond (not (is_eq r)) (p ∷ without name rest) (without name rest)) lt
            ∙ ap (λ xs. take i list ++ p ∷ xs) none.1 ∙ ap (λ xs. take i list ++ xs) (sym split);
      }
