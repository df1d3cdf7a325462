-- Position p of a map of objects, name by name.
use Rattle.std.proofs.Common.{◌≡◌, ℕ, Bool, true, false, cond, List, [], ◌∷◌, map, refl, sym, ap, ◌∙◌, Option, Some, None}
use Rattle.std.specs.Ordering.{nat_cmp, is_eq}
use Rattle.std.specs.Cmp.Lexicographic.{slice_cmp, nat_list_cmp_total}
use Rattle.std.specs.FinMap as fin
use Rattle.ec_model.specs.Codes.{CodeRows}
use Rattle.shard_model.specs.Objects.{ShardObject, put}
use Rattle.shard_model.proofs.PutLemmas.{get-put, same_named, is_name}
use Rattle.ec_positions.specs.Objects.{Object, Objects}
use Rattle.ec_positions.specs.Positions.{position_of, shard_of}

-- what a position holds of an object, if it is there
abbrev pub position_if : CodeRows → ℕ → ℕ → Option Object → Option ShardObject
position_if code unit p None = None
position_if code unit p (Some o) = Some (position_of code unit p o)

cond_if : (code : CodeRows) (unit p : ℕ) (b : Bool) (x y : Option Object) → position_if code unit p (cond b x y) ≡ cond b (position_if code unit p x) (position_if code unit p y)
cond_if code unit p true x y = refl
cond_if code unit p false x y = refl

find-map : (code : CodeRows) (unit p : ℕ) (q : List ℕ) (es : List (List ℕ × Object))
    → fin.find (slice_cmp nat_cmp) q (map (λ e. (e.0, position_of code unit p e.1)) es) ≡ position_if code unit p (fin.find (slice_cmp nat_cmp) q es)
find-map code unit p q [] = refl
find-map code unit p q ((k, o) ∷ es) =
    ap (cond (is_eq (slice_cmp nat_cmp q k)) (Some (position_of code unit p o))) (find-map code unit p q es)
    ∙ sym (cond_if code unit p (is_eq (slice_cmp nat_cmp q k)) (Some o) (fin.find (slice_cmp nat_cmp) q es))

-- the position has of each name what the map has of it
pub get-shard_of : (code : CodeRows) (unit p : ℕ) (m : Objects) (q : List ℕ) → fin.get (shard_of code unit p m) q ≡ position_if code unit p (fin.get m q)
get-shard_of code unit p m q =
    fin.get-from_entries nat_list_cmp_total (map (λ e. (e.0, position_of code unit p e.1)) (fin.entries m)) q
    ∙ find-map code unit p q (fin.entries m)
    ∙ ap (position_if code unit p) (sym (fin.get-entries m q))

-- a name is put there, and at its position
pub shard_of-put : (code : CodeRows) (unit p : ℕ) (m : Objects) (k : List ℕ) (o : Option Object) → put (shard_of code unit p m) k (position_if code unit p o) ≡ shard_of code unit p (put m k o)
shard_of-put code unit p m k o = same_named _ _ (λ q.
    get-put (shard_of code unit p m) k (position_if code unit p o) q
    ∙ ap (cond (is_name q k) (position_if code unit p o)) (get-shard_of code unit p m q)
    ∙ sym (cond_if code unit p (is_name q k) o (fin.get m q))
    ∙ ap (position_if code unit p) (sym (get-put m k o q))
    ∙ sym (get-shard_of code unit p (put m k o) q))
