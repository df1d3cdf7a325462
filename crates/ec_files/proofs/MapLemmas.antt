-- The files by name of the entries of an ordered map.
use Rattle.std.proofs.Common.{◌≡◌, ℕ, cond, List, [], ◌∷◌, refl, sym, ap, ◌∙◌, Some, String}
use Rattle.std.specs.Prelude.{string_bytes}
use Rattle.std.specs.Ordering.{nat_cmp, is_eq, match_ordering}
use Rattle.std.specs.Cmp.Lexicographic.{slice_cmp, nat_list_cmp_total}
use Rattle.std.specs.BTreeMap.{is_at, insert_entry}
use Rattle.std.specs.String.{string_cmp}
use Rattle.std.specs.Map.{lookup}
use Rattle.std.specs.FinMap as finite
use Rattle.std.specs.FinMap.Entries.{by_order, find-put}
use Rattle.std.specs.declared.cmp.Ordering.{Ordering}
use Rattle.std.specs.declared.cmp.Ordering.TheVariants.{Less, Equal, Greater}
use Rattle.ec_files.specs.MemFiles.{named_by_bytes}

abbrev pub by_name : List ℕ → List ℕ → Ordering
by_name = slice_cmp nat_cmp

find-named : {Z : Type 0} (q : List ℕ) (es : List (String Z × List ℕ)) → finite.find by_name q (named_by_bytes es) ≡ lookup (is_at (λ k. by_name q (string_bytes k))) es
find-named q [] = refl
find-named q (e ∷ es) = ap (cond (is_eq (by_name q (string_bytes e.0))) (Some e.1)) (find-named q es)

-- what is found at a name
pub get-named : {Z : Type 0} (q : List ℕ) (es : List (String Z × List ℕ)) → finite.get (finite.from_entries {R = by_name} (named_by_bytes es)) q ≡ lookup (is_at (λ k. by_name q (string_bytes k))) es
get-named q es = finite.get-from_entries nat_list_cmp_total (named_by_bytes es) q ∙ find-named q es

named-insert_entry : {Z : Type 0} (k : String Z) (v : List ℕ) (es : List (String Z × List ℕ)) → named_by_bytes (insert_entry string_cmp es k v) ≡ finite.put by_name (string_bytes k) v (named_by_bytes es)
named-insert_entry k v [] = refl
named-insert_entry {Z} k v (e ∷ es) =
    elim (by_name (string_bytes k) (string_bytes e.0)) as (λ r. named_by_bytes (match_ordering r ((k, v) ∷ e ∷ es) ((e.0, v) ∷ es) (e ∷ insert_entry string_cmp es k v))
    ≡ by_order r ((string_bytes k, v) ∷ named_by_bytes (e ∷ es)) ((string_bytes e.0, v) ∷ named_by_bytes es) ((string_bytes e.0, e.1) ∷ finite.put by_name (string_bytes k) v (named_by_bytes es))) [
      | Less ↦ refl
      | Equal ↦ refl
      | Greater ↦ ap (λ l. (string_bytes e.0, e.1) ∷ l) (named-insert_entry k v es)
    ]

-- the map after an entry came in
pub named-insert : {Z : Type 0} (old new : List (String Z × List ℕ)) (k : String Z) (v name : List ℕ) → new ≡ insert_entry string_cmp old k v → string_bytes k ≡ name
    → finite.from_entries {R = by_name} (named_by_bytes new) ≡ finite.insert (finite.from_entries (named_by_bytes old)) name v
named-insert {Z} old new k v name is spelled =
    ap (λ es. finite.from_entries {R = by_name} (named_by_bytes es)) is
    ∙ finite.same_map nat_list_cmp_total (finite.slice_cmp-IsAntisymmetric finite.nat_cmp-IsAntisymmetric) _ _ each
    ∙ ap (λ n. finite.insert (finite.from_entries {R = by_name} (named_by_bytes old)) n v) spelled
  where
    each : (q : List ℕ) → finite.get (finite.from_entries {R = by_name} (named_by_bytes (insert_entry string_cmp old k v))) q
        ≡ finite.get (finite.insert (finite.from_entries {R = by_name} (named_by_bytes old)) (string_bytes k) v) q
    each q =
        finite.get-from_entries nat_list_cmp_total _ q
        ∙ ap (finite.find by_name q) (named-insert_entry k v old)
        ∙ find-put by_name nat_list_cmp_total q (string_bytes k) v (named_by_bytes old)
        ∙ ap (cond (is_eq (by_name q (string_bytes k))) (Some v)) (sym (finite.get-from_entries nat_list_cmp_total (named_by_bytes old) q))
        ∙ sym (finite.get-insert nat_list_cmp_total _ (string_bytes k) v q)
