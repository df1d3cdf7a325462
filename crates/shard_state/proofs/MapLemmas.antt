-- The map of a list of entries in order.
use Rattle.std.proofs.Common.{◌≡◌, ℕ, false, cond, List, [], ◌∷◌, refl, sym, ap, ◌∙◌, Option, Some, None, is_some, Bor, option_copied}
use Rattle.std.proofs.lemmas.Bool.{true≢false}
use Rattle.std.specs.Ordering.{nat_cmp, is_eq, eq_by_cmp}
use Rattle.std.specs.Cmp.{eq_by_cmp_equiv}
use Rattle.std.specs.Cmp.Lexicographic.{slice_cmp, nat_list_cmp_total}
use Rattle.std.specs.BTreeMap.{is_at}
use Rattle.std.specs.Map.{lookup}
use Rattle.std.specs.FinMap as map
use Rattle.std.specs.declared.cmp.Ordering.{Ordering}

abbrev pub by_name : List ℕ → List ℕ → Ordering
by_name = slice_cmp nat_cmp

module _ {X : Type 0} where
  find-lookup : (q : List ℕ) (es : List (List ℕ × X)) → map.find by_name q es ≡ lookup (is_at (by_name q)) es
  find-lookup q [] = refl
  find-lookup q (e ∷ es) = ap (cond (is_eq (by_name q e.0)) (Some e.1)) (find-lookup q es)

  pub get-listed : (q : List ℕ) (es : List (List ℕ × X)) → map.get (map.from_entries {R = by_name} es) q ≡ lookup (is_at (by_name q)) es
  get-listed q es = map.get-from_entries nat_list_cmp_total es q ∙ find-lookup q es

  pub listed-insert : (old new : List (List ℕ × X)) (k : List ℕ) (v : X)
      → ((q : List ℕ) → lookup (is_at (by_name q)) new ≡ cond (is_at (by_name k) q) (Some v) (lookup (is_at (by_name q)) old))
      → map.from_entries {R = by_name} new ≡ map.insert (map.from_entries old) k v
  listed-insert old new k v is =
      map.same_map nat_list_cmp_total (map.slice_cmp-IsAntisymmetric map.nat_cmp-IsAntisymmetric) _ _ (λ q.
      get-listed q new ∙ is q
      ∙ ap (λ b. cond b (Some v) (lookup (is_at (by_name q)) old)) ((eq_by_cmp_equiv nat_list_cmp_total).symm k q)
      ∙ ap (cond (eq_by_cmp by_name q k) (Some v)) (sym (get-listed q old))
      ∙ sym (map.get-insert nat_list_cmp_total _ k v q))

  pub listed-remove : (old new : List (List ℕ × X)) (k : List ℕ)
      → ((q : List ℕ) → lookup (is_at (by_name q)) new ≡ cond (is_at (by_name k) q) None (lookup (is_at (by_name q)) old))
      → map.from_entries {R = by_name} new ≡ map.remove (map.from_entries old) k
  listed-remove old new k is =
      map.same_map nat_list_cmp_total (map.slice_cmp-IsAntisymmetric map.nat_cmp-IsAntisymmetric) _ _ (λ q.
      get-listed q new ∙ is q
      ∙ ap (λ b. cond b None (lookup (is_at (by_name q)) old)) ((eq_by_cmp_equiv nat_list_cmp_total).symm k q)
      ∙ ap (cond (eq_by_cmp by_name q k) None) (sym (get-listed q old))
      ∙ sym (map.get-remove nat_list_cmp_total _ k q))

pub some_copied : {X : Type 0} (o : Option (Bor X)) → is_some o ≡ is_some (option_copied o)
some_copied None = refl
some_copied (Some x) = refl

pub none_copied : {X : Type 0} (o : Option (Bor X)) → is_some o ≡ false → option_copied o ≡ None
none_copied None e = refl
none_copied (Some x) e = absurd (true≢false e)
