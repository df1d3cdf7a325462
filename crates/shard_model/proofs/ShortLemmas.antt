-- Values of attributes stay short, and short values may be brought.
use Rattle.std.proofs.Common.{◌≡◌, ℕ, ◌≤◌, Bool, true, false, cond, nat_le, T, List, [], ◌∷◌, length, is_some, unwrap_or, refl, sym, ap, subst, ◌∙◌, Option, Some, None, arith}
use Rattle.std.specs.List.{list_all}
use Rattle.std.specs.Ordering.{nat_cmp, is_lt, is_eq}
use Rattle.std.specs.FinMap.Entries.{below_all}
use Rattle.std.specs.declared.cmp.Ordering.TheVariants.{Less, Equal, Greater}
use Rattle.std.specs.declared.cmp.Ordering.{Ordering}
use Rattle.std.proofs.lemmas.Bool.{false≢true, and_parts, and_from, cond-true, leb-true}
use Rattle.std.proofs.lemmas.Grind.{common_steps}
use Rattle.std.specs.Cmp.Lexicographic.{slice_cmp, nat_list_cmp_total}
use Rattle.std.specs.FinMap as fin
use Rattle.shard_model.specs.Limits.{max_value}
use Rattle.shard_model.specs.Objects.{Named, AreShort, put}
use Rattle.shard_model.proofs.PutLemmas.{get-put, same_named, is_name, name_is, is_name-refl}

some_short : (value v : List ℕ) → length value ≤ max_value → ◌≡◌ {A = Option (List ℕ)} (Some value) (Some v) → length v ≤ max_value
some_short value v le e = subst (λ o. length (unwrap_or o value) ≤ max_value) e le

none_is : (v : List ℕ) → ◌≡◌ {A = Option (List ℕ)} None (Some v) → ⊥
none_is v e = false≢true (ap is_some e)

pub none_short : AreShort fin.empty
none_short q v e = absurd (none_is v (sym (fin.get-empty _ q) ∙ e))

either_short : (b : Bool) (x y : Option (List ℕ)) (v : List ℕ) → ((w : List ℕ) → x ≡ Some w → length w ≤ max_value) → ((w : List ℕ) → y ≡ Some w → length w ≤ max_value)
    → cond b x y ≡ Some v → length v ≤ max_value
either_short true x y v new old e = new v e
either_short false x y v new old e = old v e

-- a short value more, or one less
pub put_short : (m : Named (List ℕ)) (k : List ℕ) (x : Option (List ℕ)) → AreShort m → ((w : List ℕ) → x ≡ Some w → length w ≤ max_value) → AreShort (put m k x)
put_short m k x short new q v e = either_short (is_name q k) x (fin.get m q) v new (short q) (sym (get-put m k x q) ∙ e)

pub set_short : (m : Named (List ℕ)) (k value : List ℕ) → AreShort m → length value ≤ max_value → AreShort (fin.insert m k value)
set_short m k value short le = put_short m k (Some value) short (λ w e. some_short value w le e)

pub removed_short : (m : Named (List ℕ)) (k : List ℕ) → AreShort m → AreShort (fin.remove m k)
removed_short m k short = put_short m k None short (λ w e. absurd (none_is w e))

abbrev pub is_short : List ℕ × List ℕ → Bool
is_short a = nat_le (length a.1) max_value

-- the map of pairs with short values
pub pairs_short : (attrs : List (List ℕ × List ℕ)) → list_all is_short attrs ≡ true → AreShort (fin.from_entries attrs)
pairs_short [] all = none_short
pairs_short (a ∷ attrs) all =
    let parts = and_parts (is_short a) (list_all is_short attrs) all in
    set_short (fin.from_entries attrs) a.0 a.1 (pairs_short attrs parts.1) (leb-true (length a.1) max_value parts.0)

abbrev by_name : List ℕ → List ℕ → Ordering
by_name = slice_cmp nat_cmp

less : (r : Ordering) → is_lt r ≡ true → r ≡ Less
less Less e = refl
less Equal e = absurd (false≢true e)
less Greater e = absurd (false≢true e)

-- a name below all others is none of them
not_there : (k : List ℕ) (es : List (List ℕ × List ℕ)) → below_all by_name k es ≡ true → fin.find by_name k es ≡ None
not_there k [] h = refl
not_there k (e ∷ es) h =
    let parts = and_parts (is_lt (by_name k e.0)) (below_all by_name k es) h in
    ap (λ r. cond (is_eq r) (Some e.1) (fin.find by_name k es)) (less (by_name k e.0) parts.0) ∙ not_there k es parts.1

-- what is found behind the first pair is found behind it too
found_behind : (e : List ℕ × List ℕ) (es : List (List ℕ × List ℕ)) → below_all by_name e.0 es ≡ true → (q v : List ℕ) → fin.find by_name q es ≡ Some v → (b : Bool) → is_name q e.0 ≡ b
    → cond b (Some e.1) (fin.find by_name q es) ≡ Some v
found_behind e es below q v is true same = absurd (none_is v (sym (not_there e.0 es below) ∙ ap (λ k. fin.find by_name k es) (sym (name_is q e.0 same)) ∙ is))
found_behind e es below q v is false same = is

short_at : (value : List ℕ) → length value ≤ max_value → nat_le (length value) max_value ≡ true
short_at value le = grind (arith, common_steps)

list_short : (es : List (List ℕ × List ℕ)) → fin.is_sorted by_name es ≡ true → ((q v : List ℕ) → fin.find by_name q es ≡ Some v → length v ≤ max_value) → list_all is_short es ≡ true
list_short [] sorted h = refl
list_short (e ∷ es) sorted h =
    let parts = and_parts (below_all by_name e.0 es) (fin.is_sorted by_name es) sorted in
    and_from (is_short e) (list_all is_short es)
    (short_at e.1 (h e.0 e.1 (cond-true (is_name e.0 e.0) (Some e.1) (fin.find by_name e.0 es) (is_name-refl e.0))))
    (list_short es parts.1 (λ q v is. h q v (found_behind e es parts.0 q v is (is_name q e.0) refl)))

is_true : (b : Bool) → T b → b ≡ true
is_true true t = refl
is_true false t = absurd t

-- the pairs of a map ascend, and if its values are short, so are theirs
pub entries_ascend : (m : Named (List ℕ)) → fin.is_sorted by_name (fin.entries m) ≡ true
entries_ascend m = is_true _ (fin.entries_sorted m)

pub entries_short : (m : Named (List ℕ)) → AreShort m → list_all is_short (fin.entries m) ≡ true
entries_short m short = list_short (fin.entries m) (entries_ascend m) (λ q v is. short q v (fin.get-entries m q ∙ is))

-- the map of a map's pairs is the map
pub entries_back : (m : Named (List ℕ)) → fin.from_entries (fin.entries m) ≡ m
entries_back m = same_named _ _ (λ q. fin.get-from_entries nat_list_cmp_total (fin.entries m) q ∙ sym (fin.get-entries m q))
