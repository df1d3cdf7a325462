-- What attributes take once one is set or taken away.
use Rattle.std.proofs.Common.{◌≡◌, ℕ, ◌+◌, Bool, true, false, cond, not, ◌&&◌, T, List, [], ◌∷◌, length, refl, sym, ap, ◌∙◌, arith, Option, Some, None}
use Rattle.std.specs.Ordering.{nat_cmp, is_lt, is_eq, eq_by_cmp}
use Rattle.std.specs.declared.cmp.Ordering.TheVariants.{Less, Equal, Greater}
use Rattle.std.specs.declared.cmp.Ordering.{Ordering}
use Rattle.std.specs.Cmp.{alike_right, eq_by_cmp_equiv}
use Rattle.std.specs.Cmp.Lexicographic.{slice_cmp, nat_list_cmp_total}
use Rattle.std.specs.FinMap as fin
use Rattle.std.specs.List.{sum_by}
use Rattle.std.proofs.lemmas.Bool.{and_parts, false≢true}
use Rattle.std.proofs.lemmas.List.Sums.{sum_by-cons}
use Rattle.shard_model.specs.Listings.{attr_usage}
use Rattle.shard_model.specs.Objects.{Named, put}
use Rattle.shard_model.proofs.PutLemmas.{same_named, name_is}

abbrev Pairs : Type 0
Pairs = List (List ℕ × List ℕ)

abbrev Order : List ℕ → List ℕ → Ordering
Order = slice_cmp nat_cmp

abbrev Below : List ℕ → Pairs → Bool
Below = fin.Entries.below_all Order

-- what an attribute takes, if it is there
abbrev pub attr_load : List ℕ → Option (List ℕ) → ℕ
attr_load attr None = 0
attr_load attr (Some value) = length attr + length value

abbrev total : Pairs → ℕ
total [] = 0
total (e ∷ es) = attr_usage e + total es

total_is : (es : Pairs) → sum_by attr_usage es ≡ total es
total_is [] = refl
total_is (e ∷ es) = sum_by-cons attr_usage e es ∙ ap (λ n. attr_usage e + n) (total_is es)

is_less : (r : Ordering) → is_lt r ≡ true → r ≡ Less
is_less Less e = refl
is_less Equal e = absurd (false≢true e)
is_less Greater e = absurd (false≢true e)

find_none : (k : List ℕ) (es : Pairs) → Below k es ≡ true → fin.find Order k es ≡ None
find_none k [] below = refl
find_none k (e ∷ es) below =
    let parts = and_parts (is_lt (Order k e.0)) (Below k es) below in
    ap (λ r. cond (is_eq r) (Some e.1) (fin.find Order k es)) (is_less (Order k e.0) parts.0) ∙ find_none k es parts.1

below_less : (k x : List ℕ) (es : Pairs) → Order k x ≡ Less → Below x es ≡ true → Below k es ≡ true
below_less k x [] less below = refl
below_less k x (e ∷ es) less below =
    let parts = and_parts (is_lt (Order x e.0)) (Below x es) below in
    let first : Order k e.0 ≡ Less = nat_list_cmp_total.trans k x e.0 less (is_less (Order x e.0) parts.0) in
    ap (λ r. is_lt r && Below k es) first ∙ below_less k x es less parts.1

below_tied : (k x : List ℕ) (es : Pairs) → Order k x ≡ Equal → Below x es ≡ true → Below k es ≡ true
below_tied k x [] tied below = refl
below_tied k x (e ∷ es) tied below =
    let parts = and_parts (is_lt (Order x e.0)) (Below x es) below in
    ap (λ r. is_lt r && Below k es) (nat_list_cmp_total.congr k x e.0 tied) ∙ ap (λ b. b && Below k es) parts.0 ∙ below_tied k x es tied parts.1

total_put : (k v : List ℕ) (es : Pairs) → fin.is_sorted Order es ≡ true
    → total (fin.put Order k v es) + attr_load k (fin.find Order k es) ≡ total es + (length k + length v)
total_put k v [] sorted = omega arith
total_put k v (e ∷ es) sorted =
    let parts = and_parts (Below e.0 es) (fin.is_sorted Order es) sorted in
    elim (Order k e.0) as (λ r. Order k e.0 ≡ r
    → total (fin.Entries.by_order r ((k, v) ∷ e ∷ es) ((e.0, v) ∷ es) (e ∷ fin.put Order k v es)) + attr_load k (cond (is_eq r) (Some e.1) (fin.find Order k es)) ≡ attr_usage e + total es + (length k + length v)) [
      | Less ↦ λ is. ap (λ o. length k + length v + (attr_usage e + total es) + attr_load k o) (find_none k es (below_less k e.0 es is parts.0)) ∙ omega arith
      | Equal ↦ λ is. omega arith
      | Greater ↦ λ is. omega (arith, total_put k v es parts.1)
    ] refl

total_without : (k : List ℕ) (es : Pairs) → fin.is_sorted Order es ≡ true
    → total (fin.Entries.where_key Order (λ x. not (eq_by_cmp Order k x)) es) + attr_load k (fin.find Order k es) ≡ total es
total_without k [] sorted = refl
total_without k (e ∷ es) sorted =
    let parts = and_parts (Below e.0 es) (fin.is_sorted Order es) sorted in
    let rest = total_without k es parts.1 in
    elim (Order k e.0) as (λ r. Order k e.0 ≡ r
    → total (cond (not (is_eq r)) (e ∷ fin.Entries.where_key Order (λ x. not (eq_by_cmp Order k x)) es) (fin.Entries.where_key Order (λ x. not (eq_by_cmp Order k x)) es))
    + attr_load k (cond (is_eq r) (Some e.1) (fin.find Order k es)) ≡ attr_usage e + total es) [
      | Less ↦ λ is. omega (arith, rest)
      | Equal ↦ λ is.
          let none = find_none k es (below_tied k e.0 es is parts.0) in
          let alone : total (fin.Entries.where_key Order (λ x. not (eq_by_cmp Order k x)) es) + 0 ≡ total es = ap (λ o. total (fin.Entries.where_key Order (λ x. not (eq_by_cmp Order k x)) es) + attr_load k o) (sym none) ∙ rest in
          let same : length k ≡ length e.0 = ap length (name_is k e.0 (ap is_eq is)) in
          omega (arith, alone, same)
      | Greater ↦ λ is. omega (arith, rest)
    ] refl

is_true : (b : Bool) → T b → b ≡ true
is_true true t = refl
is_true false t = absurd t

turned : {A : Type 0} (b : Bool) (x : Option A) → cond (not b) x None ≡ cond b None x
turned true x = refl
turned false x = refl

-- the attributes once one is taken away
entries-remove : (m : Named (List ℕ)) (k : List ℕ) → fin.entries (fin.remove m k) ≡ fin.Entries.where_key Order (λ x. not (eq_by_cmp Order k x)) (fin.entries m)
entries-remove m k =
    let left = fin.Entries.where_key Order (λ x. not (eq_by_cmp Order k x)) (fin.entries m) in
    let sorted = fin.Entries.is_sorted-where_key Order (λ x. not (eq_by_cmp Order k x)) (fin.entries m) (fin.entries_sorted m) in
    let same : fin.remove m k ≡ fin.from_sorted left = same_named _ _ (λ q.
    fin.get-remove nat_list_cmp_total m k q
    ∙ sym (fin.Entries.find-where_key Order (λ x. not (eq_by_cmp Order k x)) q (λ x t. ap (λ r. not (is_eq r)) (sym (alike_right nat_list_cmp_total q x k t))) (fin.entries m)
    ∙ turned (eq_by_cmp Order k q) (fin.find Order q (fin.entries m)) ∙ ap (λ b. cond b None (fin.find Order q (fin.entries m))) ((eq_by_cmp_equiv nat_list_cmp_total).symm k q) ∙ ap (cond (eq_by_cmp Order q k) None) (sym (fin.get-entries m q)))
    ∙ sym (fin.get-from_sorted Order left q sorted)) in
    ap fin.entries same ∙ fin.entries-from_sorted Order left sorted

-- once an attribute has a value
pub attrs_set : (m : Named (List ℕ)) (attr value : List ℕ)
    → sum_by attr_usage (fin.entries (put m attr (Some value))) + attr_load attr (fin.get m attr) ≡ sum_by attr_usage (fin.entries m) + (length attr + length value)
attrs_set m attr value =
    let sorted = is_true _ (fin.entries_sorted m) in
    ap (λ n. n + attr_load attr (fin.get m attr)) (ap (sum_by attr_usage) (fin.entries-insert nat_list_cmp_total m attr value) ∙ total_is (fin.put Order attr value (fin.entries m)))
    ∙ ap (λ o. total (fin.put Order attr value (fin.entries m)) + attr_load attr o) (fin.get-entries m attr)
    ∙ total_put attr value (fin.entries m) sorted
    ∙ ap (λ n. n + (length attr + length value)) (sym (total_is (fin.entries m)))

-- once an attribute is taken away
pub attrs_less : (m : Named (List ℕ)) (attr : List ℕ)
    → sum_by attr_usage (fin.entries (put m attr None)) + attr_load attr (fin.get m attr) ≡ sum_by attr_usage (fin.entries m)
attrs_less m attr =
    let sorted = is_true _ (fin.entries_sorted m) in
    ap (λ n. n + attr_load attr (fin.get m attr)) (ap (sum_by attr_usage) (entries-remove m attr) ∙ total_is (fin.Entries.where_key Order (λ x. not (eq_by_cmp Order attr x)) (fin.entries m)))
    ∙ ap (λ o. total (fin.Entries.where_key Order (λ x. not (eq_by_cmp Order attr x)) (fin.entries m)) + attr_load attr o) (fin.get-entries m attr)
    ∙ total_without attr (fin.entries m) sorted
    ∙ sym (total_is (fin.entries m))
