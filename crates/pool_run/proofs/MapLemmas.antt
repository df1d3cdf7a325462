-- The map of an ordered list of entries.
use Rattle.std.proofs.Common.{◌≡◌, ℕ, cond, List, [], ◌∷◌, refl, sym, ap, ◌∙◌, Some, None}
use Rattle.std.specs.Ordering.{nat_cmp, is_eq, eq_by_cmp}
use Rattle.std.specs.Cmp.{eq_by_cmp_equiv}
use Rattle.std.specs.Cmp.Lexicographic.{slice_cmp, nat_list_cmp_total}
use Rattle.std.specs.BTreeMap.{is_at}
use Rattle.std.specs.Map.{lookup}
use Rattle.std.specs.FinMap as map

abbrev pub Entries : Type 0 → Type 0
Entries V = List (List ℕ × V)

abbrev pub by_name : List ℕ → List ℕ → Rattle.std.specs.declared.cmp.Ordering.Ordering
by_name = slice_cmp nat_cmp

find-lookup : {V : Type 0} (q : List ℕ) (es : Entries V) → map.find by_name q es ≡ lookup (is_at (by_name q)) es
find-lookup {V} q [] = refl
find-lookup {V} q (e ∷ es) = ap (cond (is_eq (by_name q e.0)) (Some e.1)) (find-lookup q es)

pub get-entries : {V : Type 0} (q : List ℕ) (es : Entries V) → map.get (map.from_entries {R = by_name} es) q ≡ lookup (is_at (by_name q)) es
get-entries {V} q es = map.get-from_entries nat_list_cmp_total es q ∙ find-lookup q es

pub entries-insert : {V : Type 0} (old new : Entries V) (k : List ℕ) (v : V)
    → ((q : List ℕ) → lookup (is_at (by_name q)) new ≡ cond (is_at (by_name k) q) (Some v) (lookup (is_at (by_name q)) old))
    → map.from_entries {R = by_name} new ≡ map.insert (map.from_entries old) k v
entries-insert {V} old new k v is =
    map.same_map nat_list_cmp_total (map.slice_cmp-IsAntisymmetric map.nat_cmp-IsAntisymmetric) _ _ (λ q.
    get-entries q new ∙ is q
    ∙ ap (λ b. cond b (Some v) (lookup (is_at (by_name q)) old)) ((eq_by_cmp_equiv nat_list_cmp_total).symm k q)
    ∙ ap (cond (eq_by_cmp by_name q k) (Some v)) (sym (get-entries q old))
    ∙ sym (map.get-insert nat_list_cmp_total _ k v q))

pub entries-remove : {V : Type 0} (old new : Entries V) (k : List ℕ)
    → ((q : List ℕ) → lookup (is_at (by_name q)) new ≡ cond (is_at (by_name k) q) None (lookup (is_at (by_name q)) old))
    → map.from_entries {R = by_name} new ≡ map.remove (map.from_entries old) k
entries-remove {V} old new k is =
    map.same_map nat_list_cmp_total (map.slice_cmp-IsAntisymmetric map.nat_cmp-IsAntisymmetric) _ _ (λ q.
    get-entries q new ∙ is q
    ∙ ap (λ b. cond b None (lookup (is_at (by_name q)) old)) ((eq_by_cmp_equiv nat_list_cmp_total).symm k q)
    ∙ ap (cond (eq_by_cmp by_name q k) None) (sym (get-entries q old))
    ∙ sym (map.get-remove nat_list_cmp_total _ k q))
