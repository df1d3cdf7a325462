-- What objects take once a name has another object.
use Rattle.std.proofs.Common.{◌≡◌, ℕ, ◌+◌, Bool, true, false, cond, not, ◌&&◌, T, List, [], ◌∷◌, map, refl, sym, ap, ◌∙◌, arith, Option, Some, None}
use Rattle.std.specs.Ordering.{nat_cmp, is_lt, is_eq, eq_by_cmp}
use Rattle.std.specs.declared.cmp.Ordering.TheVariants.{Less, Equal, Greater}
use Rattle.std.specs.declared.cmp.Ordering.{Ordering}
use Rattle.std.specs.Cmp.{alike_right, eq_by_cmp_equiv}
use Rattle.std.specs.Cmp.Lexicographic.{slice_cmp, nat_list_cmp_total}
use Rattle.std.specs.FinMap as fin
use Rattle.std.specs.List.{sum_by}
use Rattle.std.proofs.lemmas.Bool.{and_parts, false≢true}
use Rattle.std.proofs.lemmas.List.Sums.{sum_by-cons}
use Rattle.shard_model.specs.Objects.{Named, put}
use Rattle.shard_model.proofs.PutLemmas.{same_named}

abbrev Order : List ℕ → List ℕ → Ordering
Order = slice_cmp nat_cmp

abbrev Below : {X : Type 0} → List ℕ → List (List ℕ × X) → Bool
Below = fin.Entries.below_all Order

is_less : (r : Ordering) → is_lt r ≡ true → r ≡ Less
is_less Less e = refl
is_less Equal e = absurd (false≢true e)
is_less Greater e = absurd (false≢true e)

module _ {X : Type 0} (f : X → ℕ) where
  -- what lies at a name takes, if anything
  abbrev pub load : Option X → ℕ
  load None = 0
  load (Some x) = f x

  abbrev pub total : List (List ℕ × X) → ℕ
  total [] = 0
  total (e ∷ es) = f e.1 + total es

  pub total_is : (es : List (List ℕ × X)) → sum_by f (map (λ e. e.1) es) ≡ total es
  total_is [] = refl
  total_is (e ∷ es) = sum_by-cons f e.1 (map (λ e. e.1) es) ∙ ap (λ n. f e.1 + n) (total_is es)

  find_none : (k : List ℕ) (es : List (List ℕ × X)) → Below k es ≡ true → fin.find Order k es ≡ None
  find_none k [] below = refl
  find_none k (e ∷ es) below =
      let parts = and_parts (is_lt (Order k e.0)) (Below k es) below in
      ap (λ r. cond (is_eq r) (Some e.1) (fin.find Order k es)) (is_less (Order k e.0) parts.0) ∙ find_none k es parts.1

  below_less : (k x : List ℕ) (es : List (List ℕ × X)) → Order k x ≡ Less → Below x es ≡ true → Below k es ≡ true
  below_less k x [] less below = refl
  below_less k x (e ∷ es) less below =
      let parts = and_parts (is_lt (Order x e.0)) (Below x es) below in
      let first : Order k e.0 ≡ Less = nat_list_cmp_total.trans k x e.0 less (is_less (Order x e.0) parts.0) in
      ap (λ r. is_lt r && Below k es) first ∙ below_less k x es less parts.1

  below_tied : (k x : List ℕ) (es : List (List ℕ × X)) → Order k x ≡ Equal → Below x es ≡ true → Below k es ≡ true
  below_tied k x [] tied below = refl
  below_tied k x (e ∷ es) tied below =
      let parts = and_parts (is_lt (Order x e.0)) (Below x es) below in
      ap (λ r. is_lt r && Below k es) (nat_list_cmp_total.congr k x e.0 tied) ∙ ap (λ b. b && Below k es) parts.0 ∙ below_tied k x es tied parts.1

  total_put : (k : List ℕ) (v : X) (es : List (List ℕ × X)) → fin.is_sorted Order es ≡ true
      → total (fin.put Order k v es) + load (fin.find Order k es) ≡ total es + f v
  total_put k v [] sorted = omega arith
  total_put k v (e ∷ es) sorted =
      let parts = and_parts (Below e.0 es) (fin.is_sorted Order es) sorted in
      elim (Order k e.0) as (λ r. Order k e.0 ≡ r
      → total (fin.Entries.by_order r ((k, v) ∷ e ∷ es) ((e.0, v) ∷ es) (e ∷ fin.put Order k v es)) + load (cond (is_eq r) (Some e.1) (fin.find Order k es)) ≡ f e.1 + total es + f v) [
        | Less ↦ λ is. ap (λ o. f v + (f e.1 + total es) + load o) (find_none k es (below_less k e.0 es is parts.0)) ∙ omega arith
        | Equal ↦ λ is. omega arith
        | Greater ↦ λ is. omega (arith, total_put k v es parts.1)
      ] refl

  total_without : (k : List ℕ) (es : List (List ℕ × X)) → fin.is_sorted Order es ≡ true
      → total (fin.Entries.where_key Order (λ x. not (eq_by_cmp Order k x)) es) + load (fin.find Order k es) ≡ total es
  total_without k [] sorted = refl
  total_without k (e ∷ es) sorted =
      let parts = and_parts (Below e.0 es) (fin.is_sorted Order es) sorted in
      let rest = total_without k es parts.1 in
      elim (Order k e.0) as (λ r. Order k e.0 ≡ r
      → total (cond (not (is_eq r)) (e ∷ fin.Entries.where_key Order (λ x. not (eq_by_cmp Order k x)) es) (fin.Entries.where_key Order (λ x. not (eq_by_cmp Order k x)) es))
      + load (cond (is_eq r) (Some e.1) (fin.find Order k es)) ≡ f e.1 + total es) [
        | Less ↦ λ is. omega (arith, rest)
        | Equal ↦ λ is.
            let none = find_none k es (below_tied k e.0 es is parts.0) in
            let alone : total (fin.Entries.where_key Order (λ x. not (eq_by_cmp Order k x)) es) + 0 ≡ total es = ap (λ o. total (fin.Entries.where_key Order (λ x. not (eq_by_cmp Order k x)) es) + load o) (sym none) ∙ rest in
            omega (arith, alone)
        | Greater ↦ λ is. omega (arith, rest)
      ] refl

is_true : (b : Bool) → T b → b ≡ true
is_true true t = refl
is_true false t = absurd t

turned : {A : Type 0} (b : Bool) (x : Option A) → cond (not b) x None ≡ cond b None x
turned true x = refl
turned false x = refl

-- the entries once a name is taken away
entries-remove : {X : Type 0} (m : Named X) (k : List ℕ) → fin.entries (fin.remove m k) ≡ fin.Entries.where_key Order (λ x. not (eq_by_cmp Order k x)) (fin.entries m)
entries-remove m k =
    let left = fin.Entries.where_key Order (λ x. not (eq_by_cmp Order k x)) (fin.entries m) in
    let sorted = fin.Entries.is_sorted-where_key Order (λ x. not (eq_by_cmp Order k x)) (fin.entries m) (fin.entries_sorted m) in
    let same : fin.remove m k ≡ fin.from_sorted left = same_named _ _ (λ q.
    fin.get-remove nat_list_cmp_total m k q
    ∙ sym (fin.Entries.find-where_key Order (λ x. not (eq_by_cmp Order k x)) q (λ x t. ap (λ r. not (is_eq r)) (sym (alike_right nat_list_cmp_total q x k t))) (fin.entries m)
    ∙ turned (eq_by_cmp Order k q) (fin.find Order q (fin.entries m)) ∙ ap (λ b. cond b None (fin.find Order q (fin.entries m))) ((eq_by_cmp_equiv nat_list_cmp_total).symm k q) ∙ ap (cond (eq_by_cmp Order q k) None) (sym (fin.get-entries m q)))
    ∙ sym (fin.get-from_sorted Order left q sorted)) in
    ap fin.entries same ∙ fin.entries-from_sorted Order left sorted

-- what all take, once a name has x or nothing
pub sum_after : {X : Type 0} (f : X → ℕ) (m : Named X) (k : List ℕ) (x : Option X)
    → sum_by f (fin.values (put m k x)) + load f (fin.get m k) ≡ sum_by f (fin.values m) + load f x
sum_after f m k (Some v) =
    let sorted = is_true _ (fin.entries_sorted m) in
    ap (λ n. n + load f (fin.get m k)) (ap (λ es. sum_by f (map (λ e. e.1) es)) (fin.entries-insert nat_list_cmp_total m k v) ∙ total_is f (fin.put Order k v (fin.entries m)))
    ∙ ap (λ o. total f (fin.put Order k v (fin.entries m)) + load f o) (fin.get-entries m k)
    ∙ total_put f k v (fin.entries m) sorted
    ∙ ap (λ n. n + f v) (sym (total_is f (fin.entries m)))
sum_after f m k None =
    let sorted = is_true _ (fin.entries_sorted m) in
    ap (λ n. n + load f (fin.get m k)) (ap (λ es. sum_by f (map (λ e. e.1) es)) (entries-remove m k) ∙ total_is f (fin.Entries.where_key Order (λ x. not (eq_by_cmp Order k x)) (fin.entries m)))
    ∙ ap (λ o. total f (fin.Entries.where_key Order (λ x. not (eq_by_cmp Order k x)) (fin.entries m)) + load f o) (fin.get-entries m k)
    ∙ total_without f k (fin.entries m) sorted
    ∙ sym (total_is f (fin.entries m)) ∙ omega arith
