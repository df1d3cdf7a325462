-- Empty places that are taken away.
use Rattle.std.proofs.Common.{◌≡◌, ℕ, Bool, true, false, cond, ◌||◌, bytes_eq, List, [], ◌∷◌, refl, sym, ap, subst, ◌∙◌, Option, Some, None, is_some}
use Rattle.std.specs.Cmp.Lexicographic.{nat_list_cmp_total, texts_ties}
use Rattle.std.specs.List.{AllByRecursion, list_any}
use Rattle.std.proofs.lemmas.Bool.{true≢false, cond-false}
use Rattle.std.specs.FinMap as map
use Rattle.shard_model.specs.Objects.{ShardObject, Geometry, Named}
use Rattle.shard_model.proofs.PutLemmas.{same_named, is_name, name_is}
use Rattle.shard_state.specs.Places.{joined, inside, IsSwept}
use Rattle.shard_state.specs.Sound.{Recorded, HasPlace, IsKept}
use Rattle.shard_state.proofs.PlaceLemmas.{get-inside}

module _ {X : Type 0} where
  pub empty_there : (o : Option (Option X)) → is_some o ≡ true → joined o ≡ None → o ≡ Some None
  empty_there None some none = absurd (true≢false (sym some))
  empty_there (Some x) some none = ap Some none

  gone_at : (m : Named (Option X)) (k q : List ℕ) (b : Bool) → is_name q k ≡ b → joined (map.get m k) ≡ None → joined (cond b None (map.get m q)) ≡ joined (map.get m q)
  gone_at m k q true e none = sym (ap (λ p. joined (map.get m p)) (name_is q k e) ∙ none)
  gone_at m k q false e none = refl

  pub inside-remove : (m : Named (Option X)) (k : List ℕ) → joined (map.get m k) ≡ None → inside (map.remove m k) ≡ inside m
  inside-remove m k none = same_named _ _ (λ q.
      get-inside (map.remove m k) q ∙ ap joined (map.get-remove nat_list_cmp_total m k q) ∙ gone_at m k q (is_name q k) refl none ∙ sym (get-inside m q))

  pub removed_swept : (m : Named (Option X)) (k : List ℕ) → IsSwept k m (map.remove m k)
  removed_swept m k q other some = ap is_some (map.get-remove nat_list_cmp_total m k q ∙ cond-false (is_name q k) None (map.get m q) other) ∙ some

neither : (a b : Bool) → (a || b) ≡ false → (a ≡ false) × (b ≡ false)
neither true b e = absurd (true≢false e)
neither false b e = (refl, e)

-- entries with other names keep their places
pub apart_placed : (old new : Named (Option ShardObject)) (name : List ℕ) (rs : List Recorded) → IsSwept name old new
    → list_any (λ r. bytes_eq r.logged.name name) rs ≡ false → AllByRecursion (λ r. HasPlace old r.logged.name) rs → AllByRecursion (λ r. HasPlace new r.logged.name) rs
apart_placed old new name [] swept none all = tt
apart_placed old new name (r ∷ rs) swept none all =
    let parts = neither (bytes_eq r.logged.name name) (list_any (λ r. bytes_eq r.logged.name name) rs) none in
    (swept r.logged.name (sym (texts_ties r.logged.name name) ∙ parts.0) all.0, apart_placed old new name rs swept parts.1 all.1)

-- what a state rests on stays if empty places go that its log does not name
pub swept_kept : (g : Geometry) (old new : Named (Option ShardObject)) (rs : List Recorded) → inside new ≡ inside old
    → (AllByRecursion (λ r. HasPlace old r.logged.name) rs → AllByRecursion (λ r. HasPlace new r.logged.name) rs) → IsKept g old (inside old) rs → IsKept g new (inside new) rs
swept_kept g old new rs same stay kept =
    subst (λ m. IsKept g new m rs) (sym same) (record { held = kept.held; sound = kept.sound; placed = stay kept.placed })
