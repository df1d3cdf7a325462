-- What lies in the places after a change of one.
use Rattle.std.proofs.Common.{◌≡◌, ℕ, Bool, true, false, cond, List, [], ◌∷◌, refl, sym, ap, ◌∙◌, Option, Some, None, IsSome, is_some}
use Rattle.std.specs.Cmp.Lexicographic.{nat_list_cmp_total}
use Rattle.std.proofs.lemmas.Bool.{false≢true, cond-true}
use Rattle.std.specs.FinMap as map
use Rattle.shard_model.specs.Objects.{Named, put}
use Rattle.shard_model.proofs.PutLemmas.{get-put, same_named, is_name, is_name-refl, put_own}
use Rattle.shard_state.specs.Places.{joined, filled, inside, HasMade}
use Rattle.shard_state.proofs.MapLemmas.{by_name}

module _ {X : Type 0} where
  joined_cond : (b : Bool) (x : Option X) (r : Option (Option X)) → cond b x (joined r) ≡ joined (cond b (Some x) r)
  joined_cond true x r = refl
  joined_cond false x r = refl

  pub get-filled : (es : List (List ℕ × Option X)) (q : List ℕ) → map.get (filled es) q ≡ joined (map.find by_name q es)
  get-filled [] q = map.get-empty by_name q
  get-filled (e ∷ es) q =
      get-put (filled es) e.0 e.1 q ∙ ap (cond (is_name q e.0) e.1) (get-filled es q) ∙ joined_cond (is_name q e.0) e.1 (map.find by_name q es)

  pub get-inside : (m : Named (Option X)) (q : List ℕ) → map.get (inside m) q ≡ joined (map.get m q)
  get-inside m q = get-filled (map.entries m) q ∙ ap joined (sym (map.get-entries m q))

  pub inside-insert : (m : Named (Option X)) (k : List ℕ) (x : Option X) → inside (map.insert m k x) ≡ put (inside m) k x
  inside-insert m k x = same_named _ _ (λ q.
      get-inside (map.insert m k x) q
      ∙ ap joined (map.get-insert nat_list_cmp_total m k x q)
      ∙ sym (joined_cond (is_name q k) x (map.get m q))
      ∙ ap (cond (is_name q k) x) (sym (get-inside m q))
      ∙ sym (get-put (inside m) k x q))

  own_place : (m : Named (Option X)) (k : List ℕ) (r : Option (Option X)) → map.get m k ≡ r → IsSome r → map.insert m k (joined r) ≡ m
  own_place m k None is some = absurd (false≢true some)
  own_place m k (Some x) is some = ap (put m k) (sym is) ∙ put_own m k

  pub insert_own : (m : Named (Option X)) (k : List ℕ) → IsSome (map.get m k) → m ≡ map.insert m k (joined (map.get m k))
  insert_own m k some = sym (own_place m k (map.get m k) refl some)

  some_at2 : (b : Bool) (x : Option X) (o : Option (Option X)) → is_some o ≡ true → is_some (cond b (Some x) o) ≡ true
  some_at2 true x o h = refl
  some_at2 false x o h = h

  none_joined : (o : Option (Option X)) → is_some o ≡ false → joined o ≡ None
  none_joined None e = refl
  none_joined (Some x) e = absurd (false≢true (sym e))

  pub made_place : (m : Named (Option X)) (k : List ℕ) → map.get m k ≡ None → HasMade k m (map.insert m k None)
  made_place m k none = record {
    there = ap is_some (map.get-insert nat_list_cmp_total m k None k ∙ cond-true (is_name k k) (Some None) (map.get m k) (is_name-refl k));
    same = inside-insert m k None ∙ ap (put (inside m) k) (sym (get-inside m k ∙ ap joined none)) ∙ put_own (inside m) k;
    stays = λ q h. ap is_some (map.get-insert nat_list_cmp_total m k None q) ∙ some_at2 (is_name q k) None (map.get m q) h;
  }

  pub had_place : (m : Named (Option X)) (k : List ℕ) → is_some (map.get m k) ≡ true → HasMade k m m
  had_place m k some = record { there = some; same = refl; stays = λ q h. h }

  pub none_of : (o : Option (Option X)) → is_some o ≡ false → o ≡ None
  none_of None e = refl
  none_of (Some x) e = absurd (false≢true (sym e))

  pub place_of : (m : Named (Option X)) (k : List ℕ) (x : Option X) → IsSome (map.get (map.insert m k x) k)
  place_of m k x = ap is_some (map.get-insert nat_list_cmp_total m k x k ∙ cond-true (is_name k k) (Some x) (map.get m k) (is_name-refl k))

  cond_cond : (b : Bool) (x y z : Option (Option X)) → cond b y (cond b x z) ≡ cond b y z
  cond_cond true x y z = refl
  cond_cond false x y z = refl

  pub insert_twice : (m : Named (Option X)) (k : List ℕ) (x y : Option X) → map.insert (map.insert m k x) k y ≡ map.insert m k y
  insert_twice m k x y = same_named _ _ (λ q.
      map.get-insert nat_list_cmp_total (map.insert m k x) k y q
      ∙ ap (cond (is_name q k) (Some y)) (map.get-insert nat_list_cmp_total m k x q)
      ∙ cond_cond (is_name q k) (Some x) (Some y) (map.get m q)
      ∙ sym (map.get-insert nat_list_cmp_total m k y q))
