-- Places in the order of their names: what lies in them, counted and weighed.
use Rattle.std.proofs.Common.{◌≡◌, ℕ, ◌+◌, ◌*◌, ◌≤◌, Bool, true, false, cond, ◌&&◌, List, [], ◌∷◌, map as each, length, min, refl, sym, ap, subst, ◌∙◌, Option, Some, None, is_some, slice_get, arith}
use Rattle.std.specs.Ordering.{is_lt, is_eq}
use Rattle.std.specs.Cmp.Lexicographic.{nat_list_cmp_total}
use Rattle.std.specs.declared.cmp.Ordering.TheVariants.{Less}
use Rattle.std.specs.List.{AllByRecursion, sum_by, filter}
use Rattle.std.specs.List.Sorted.{IsStrictlySortedBy}
use Rattle.std.specs.BTreeMap.{is_at, insert_entry}
use Rattle.std.specs.BTreeMap.Range.{entries_between}
use Rattle.std.specs.Map.{keys_of, values_of, lookup, set_value, remove_entry}
use Rattle.std.specs.declared.ops.Bound.TheVariants.{Unbounded}
use Rattle.std.specs.FinMap as map
use Rattle.std.specs.FinMap.Entries.{below_all, by_order}
use Rattle.std.specs.Option.{option_map, unwrap_or}
use Rattle.std.proofs.lemmas.Bool.{and_parts, true≢false}
use Rattle.std.proofs.lemmas.List.Sums.{sum_by-cons}
use Rattle.std.proofs.lemmas.Map.Entries.{length-values_of, sum_by-set_value, sum_by-insert_entry, sum_by-remove_entry}
use Rattle.std.proofs.lemmas.Map.Keys.{sorted_head, sorted_tail}
use Rattle.shard_model.specs.Objects.{ShardObject, put}
use Rattle.shard_model.specs.Listings.{object_usage, usage, next_name}
use Rattle.shard_model.proofs.PutLemmas.{put_own}
use Rattle.shard_state.specs.Places.{joined, filled, inside}
use Rattle.shard_state.specs.Totals.{most, one, load, full, start_after, AreTotals}
use Rattle.shard_state.proofs.AscendLemmas.{both_true}
use Rattle.shard_state.proofs.MapLemmas.{by_name}
use Rattle.shard_state.proofs.PlaceLemmas.{get-filled}
use Rattle.shard_state.proofs.SpotLemmas.{less}

abbrev pub Place : Type 0
Place = List ℕ × Option ShardObject

module _ {X : Type 0} where
  all_below : (k : List ℕ) (es : List (List ℕ × X)) → AllByRecursion (λ y. by_name k y ≡ Less) (keys_of es) → below_all by_name k es ≡ true
  all_below k [] h = refl
  all_below k (e ∷ es) h = ap (λ r. is_lt r && below_all by_name k es) h.0 ∙ all_below k es h.1

  pub sorted_of : (es : List (List ℕ × X)) → IsStrictlySortedBy by_name (keys_of es) → map.is_sorted by_name es ≡ true
  sorted_of [] h = refl
  sorted_of (e ∷ es) h =
      both_true (below_all by_name e.0 es) (map.is_sorted by_name es)
      (all_below e.0 es (sorted_head by_name e.0 (keys_of es) h)) (sorted_of es (sorted_tail by_name e.0 (keys_of es) h))

  -- a name below all others is put first, and was not there
  put_first : (k : List ℕ) (v : X) (es : List (List ℕ × X)) → below_all by_name k es ≡ true → map.put by_name k v es ≡ (k, v) ∷ es
  put_first k v [] h = refl
  put_first k v (e ∷ es) h =
      ap (λ r. by_order r ((k, v) ∷ e ∷ es) ((e.0, v) ∷ es) (e ∷ map.put by_name k v es)) (less (by_name k e.0) (and_parts (is_lt (by_name k e.0)) (below_all by_name k es) h).0)

  not_there : (k : List ℕ) (es : List (List ℕ × X)) → below_all by_name k es ≡ true → map.find by_name k es ≡ None
  not_there k [] h = refl
  not_there k (e ∷ es) h =
      let parts = and_parts (is_lt (by_name k e.0)) (below_all by_name k es) h in
      ap (λ r. cond (is_eq r) (Some e.1) (map.find by_name k es)) (less (by_name k e.0) parts.0) ∙ not_there k es parts.1

  no_entries : (es : List (List ℕ × X)) → length es ≡ 0 → es ≡ []
  no_entries [] e = refl
  no_entries (x ∷ es) e = absurd (omega (arith, e))

  empty_entries : map.entries (map.empty {X = X} {R = by_name}) ≡ []
  empty_entries = no_entries _ (sym (map.len-entries _) ∙ map.len-empty by_name X)

  pub listed : (es : List (List ℕ × X)) → map.is_sorted by_name es ≡ true → map.entries (map.from_entries {R = by_name} es) ≡ es
  listed [] h = empty_entries
  listed (e ∷ es) h =
      let parts = and_parts (below_all by_name e.0 es) (map.is_sorted by_name es) h in
      map.entries-insert nat_list_cmp_total (map.from_entries es) e.0 e.1 ∙ ap (map.put by_name e.0 e.1) (listed es parts.1) ∙ put_first e.0 e.1 es parts.0

full_below : (k : List ℕ) (es : List Place) → below_all by_name k es ≡ true → below_all by_name k (full es) ≡ true
full_below k [] h = refl
full_below k ((name, None) ∷ es) h = full_below k es (and_parts (is_lt (by_name k name)) (below_all by_name k es) h).1
full_below k ((name, Some o) ∷ es) h =
    let parts = and_parts (is_lt (by_name k name)) (below_all by_name k es) h in
    both_true (is_lt (by_name k name)) (below_all by_name k (full es)) parts.0 (full_below k es parts.1)

full_listed : (es : List Place) → map.is_sorted by_name es ≡ true → map.entries (filled es) ≡ full es
full_listed [] h = empty_entries
full_listed ((name, None) ∷ es) h =
    let parts = and_parts (below_all by_name name es) (map.is_sorted by_name es) h in
    let none : map.get (filled es) name ≡ None = get-filled es name ∙ ap joined (not_there name es parts.0) in
    ap (λ o. map.entries (put (filled es) name o)) (sym none) ∙ ap map.entries (put_own (filled es) name) ∙ full_listed es parts.1
full_listed ((name, Some o) ∷ es) h =
    let parts = and_parts (below_all by_name name es) (map.is_sorted by_name es) h in
    map.entries-insert nat_list_cmp_total (filled es) name o ∙ ap (map.put by_name name o) (full_listed es parts.1) ∙ put_first name o (full es) (full_below name es parts.0)

-- what lies in places that are in order, as a list
pub inside_listed : (es : List Place) → IsStrictlySortedBy by_name (keys_of es) → map.entries (inside (map.from_entries es)) ≡ full es
inside_listed es h = ap (λ fs. map.entries (filled fs)) (listed es (sorted_of es h)) ∙ full_listed es (sorted_of es h)

one_each : (es : List Place) → length (full es) ≡ sum_by one (values_of es)
one_each [] = refl
one_each ((name, None) ∷ es) = omega (arith, one_each es, sum_by-cons one None (values_of es))
one_each ((name, Some o) ∷ es) = omega (arith, one_each es, sum_by-cons one (Some o) (values_of es))

pub count_is : (es : List Place) (n total : ℕ) → AreTotals es n total → n ≡ map.len (inside (map.from_entries es))
count_is es n total totals =
    totals.count ∙ sym (one_each es) ∙ ap length (sym (inside_listed es totals.ordered)) ∙ sym (map.len-entries (inside (map.from_entries es)))

-- each part of a sum may be cut to a word before the sum is
both_cut : (a b x : ℕ) → min a most ≡ min b most → min (min x most + a) most ≡ min (x + b) most
both_cut a b x h = omega (arith, h)

loads_cut : (es : List Place) → min (sum_by load (values_of es)) most ≡ min (sum_by object_usage (each (λ e. e.1) (full es))) most
loads_cut [] = refl
loads_cut ((name, None) ∷ es) = omega (arith, sum_by-cons load None (values_of es), loads_cut es)
loads_cut ((name, Some o) ∷ es) =
    ap (λ n. min n most) (sum_by-cons load (Some o) (values_of es))
    ∙ both_cut _ _ (object_usage o) (loads_cut es)
    ∙ ap (λ n. min n most) (sym (sum_by-cons object_usage o (each (λ e. e.1) (full es))))

pub used_is : (es : List Place) (n total : ℕ) → AreTotals es n total → min total most ≡ min (usage (inside (map.from_entries es))) most
used_is es n total totals =
    ap (λ m. min m most) totals.used ∙ loads_cut es
    ∙ ap (λ fs. min (sum_by object_usage (each (λ e. e.1) fs)) most) (sym (inside_listed es totals.ordered))

few_ones : (os : List (Option ShardObject)) → sum_by one os ≤ length os
few_ones [] = omega arith
few_ones (None ∷ os) = omega (arith, few_ones os, sum_by-cons one None os)
few_ones (Some o ∷ os) = omega (arith, few_ones os, sum_by-cons one (Some o) os)

few_loads : (os : List (Option ShardObject)) → sum_by load os ≤ length os * most
few_loads [] = omega arith
few_loads (None ∷ os) = omega (arith, few_loads os, sum_by-cons load None os)
few_loads (Some o ∷ os) = omega (arith, few_loads os, sum_by-cons load (Some o) os)

pub few_places : (es : List Place) (n total : ℕ) → AreTotals es n total → n ≤ length es
few_places es n total totals = omega (arith, totals.count, few_ones (values_of es), length-values_of es)

pub small_total : (es : List Place) (n total : ℕ) → AreTotals es n total → total ≤ length es * most
small_total es n total totals = omega (arith, totals.used, few_loads (values_of es), length-values_of es)

-- an empty place is made
pub made_totals : (es fs : List Place) (k : List ℕ) (n total : ℕ) → AreTotals es n total → lookup (is_at (by_name k)) es ≡ None
    → fs ≡ insert_entry by_name es k None → IsStrictlySortedBy by_name (keys_of fs) → AreTotals fs n total
made_totals es fs k n total totals none is ordered =
    let sums : (f : Option ShardObject → ℕ) → sum_by f (values_of (insert_entry by_name es k None)) + 0 ≡ sum_by f (values_of es) + f None =
    λ f. subst (λ o. sum_by f (values_of (insert_entry by_name es k None)) + unwrap_or (option_map f o) 0 ≡ sum_by f (values_of es) + f None) none
    (sum_by-insert_entry f nat_list_cmp_total es k None totals.ordered) in
    record {
      ordered = ordered;
      count = omega (arith, totals.count, sums one, ap (λ gs. sum_by one (values_of gs)) is);
      used = omega (arith, totals.used, sums load, ap (λ gs. sum_by load (values_of gs)) is);
    }

-- what lies in a place is changed
pub set_totals : (es fs : List Place) (test : List ℕ → Bool) (v w : Option ShardObject) (n total n' total' : ℕ) → AreTotals es n total
    → lookup test es ≡ Some v → fs ≡ set_value test es w → IsStrictlySortedBy by_name (keys_of fs)
    → n' + one v ≡ n + one w → total' + load v ≡ total + load w → AreTotals fs n' total'
set_totals es fs test v w n total n' total' totals there is ordered count used =
    record {
      ordered = ordered;
      count = omega (arith, totals.count, count, sum_by-set_value one test es v w there, ap (λ gs. sum_by one (values_of gs)) is);
      used = omega (arith, totals.used, used, sum_by-set_value load test es v w there, ap (λ gs. sum_by load (values_of gs)) is);
    }

-- an empty place is taken away
pub swept_totals : (es fs : List Place) (test : List ℕ → Bool) (n total : ℕ) → AreTotals es n total → lookup test es ≡ Some None
    → fs ≡ remove_entry test es → IsStrictlySortedBy by_name (keys_of fs) → AreTotals fs n total
swept_totals es fs test n total totals there is ordered =
    let sums : (f : Option ShardObject → ℕ) → sum_by f (values_of (remove_entry test es)) + f None ≡ sum_by f (values_of es) =
    λ f. subst (λ o. sum_by f (values_of (remove_entry test es)) + unwrap_or (option_map f o) 0 ≡ sum_by f (values_of es)) there (sum_by-remove_entry f test es) in
    record {
      ordered = ordered;
      count = omega (arith, totals.count, sums one, ap (λ gs. sum_by one (values_of gs)) is);
      used = omega (arith, totals.used, sums load, ap (λ gs. sum_by load (values_of gs)) is);
    }

kept : (p : List ℕ → Bool) (es : List Place) → filter p (keys_of (full es)) ≡ keys_of (full (filter (λ e. p e.0 && true) es))
kept p [] = refl
kept p ((name, None) ∷ es) =
    let fs = filter (λ e. p e.0 && true) es in
    elim (p name) as (λ b. filter p (keys_of (full es)) ≡ keys_of (full (cond (b && true) ((name, None) ∷ fs) fs))) [ true ↦ kept p es | false ↦ kept p es ]
kept p ((name, Some o) ∷ es) =
    let fs = filter (λ e. p e.0 && true) es in
    let names = filter p (keys_of (full es)) in
    elim (p name) as (λ b. cond b (name ∷ names) names ≡ keys_of (full (cond (b && true) ((name, Some o) ∷ fs) fs))) [ true ↦ ap (λ ns. name ∷ ns) (kept p es) | false ↦ kept p es ]

all_kept : (names : List (List ℕ)) → filter (λ name. true) names ≡ names
all_kept [] = refl
all_kept (name ∷ names) = ap (λ ns. name ∷ ns) (all_kept names)

names_listed : (es : List Place) → IsStrictlySortedBy by_name (keys_of es) → map.keys (inside (map.from_entries es)) ≡ keys_of (full es)
names_listed es h = ap keys_of (inside_listed es h)

-- the first of the places after a name that are filled
pub next_listed : (es : List Place) → IsStrictlySortedBy by_name (keys_of es) → (name : Option (List ℕ))
    → slice_get (keys_of (full (entries_between by_name (start_after name) Unbounded es))) 0 ≡ next_name (inside (map.from_entries es)) name
next_listed es h None =
    ap (λ ns. slice_get ns 0) (sym (kept (λ q. true) es) ∙ all_kept (keys_of (full es)) ∙ sym (names_listed es h))
next_listed es h (Some name) =
    ap (λ ns. slice_get ns 0) (sym (kept (λ q. is_lt (by_name name q)) es) ∙ ap (filter (λ q. is_lt (by_name name q))) (sym (names_listed es h)))

pub full_skip : (name : List ℕ) (o : Option ShardObject) (es : List Place) → is_some o ≡ false → full ((name, o) ∷ es) ≡ full es
full_skip name None es e = refl
full_skip name (Some x) es e = absurd (true≢false e)

pub first_full : (name : List ℕ) (o : Option ShardObject) (es : List Place) → is_some o ≡ true → slice_get (keys_of (full ((name, o) ∷ es))) 0 ≡ Some name
first_full name None es e = absurd (true≢false (sym e))
first_full name (Some x) es e = refl
