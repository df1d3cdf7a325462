-- A position has as many objects as the map, and they take as much.
use Rattle.std.proofs.Common.{◌≡◌, ℕ, suc, ◌+◌, ◌&&◌, T, List, [], ◌∷◌, map, length, refl, sym, ap, ◌∙◌, subst}
use Rattle.std.specs.Ordering.{nat_cmp, is_lt}
use Rattle.std.specs.Cmp.Lexicographic.{slice_cmp, nat_list_cmp_total}
use Rattle.std.specs.FinMap as fin
use Rattle.std.specs.List.{sum_by}
use Rattle.std.proofs.lemmas.List.Sums.{sum_by-cons}
use Rattle.ec_model.specs.Codes.{CodeRows}
use Rattle.shard_model.specs.Listings as listings
use Rattle.shard_model.specs.Objects.{ShardObject}
use Rattle.shard_model.proofs.PutLemmas.{same_named}
use Rattle.ec_positions.specs.Objects.{Object, Objects, object_usage, usage}
use Rattle.ec_positions.specs.Positions.{position_of, shard_of}

abbrev pub entry_at_position : CodeRows → ℕ → ℕ → List ℕ × Object → List ℕ × ShardObject
entry_at_position code unit p e = (e.0, position_of code unit p e.1)

below_all-map : (code : CodeRows) (unit p : ℕ) (k : List ℕ) (es : List (List ℕ × Object))
    → fin.Entries.below_all (slice_cmp nat_cmp) k (map (entry_at_position code unit p) es) ≡ fin.Entries.below_all (slice_cmp nat_cmp) k es
below_all-map code unit p k [] = refl
below_all-map code unit p k (e ∷ es) = ap (λ b. is_lt (slice_cmp nat_cmp k e.0) && b) (below_all-map code unit p k es)

is_sorted-map : (code : CodeRows) (unit p : ℕ) (es : List (List ℕ × Object))
    → fin.is_sorted (slice_cmp nat_cmp) (map (entry_at_position code unit p) es) ≡ fin.is_sorted (slice_cmp nat_cmp) es
is_sorted-map code unit p [] = refl
is_sorted-map code unit p (e ∷ es) = λ i. below_all-map code unit p e.0 es i && is_sorted-map code unit p es i

-- the entries of a position, in the order of the names
pub entries-shard_of : (code : CodeRows) (unit p : ℕ) (m : Objects) → fin.entries (shard_of code unit p m) ≡ map (entry_at_position code unit p) (fin.entries m)
entries-shard_of code unit p m =
    let es = map (entry_at_position code unit p) (fin.entries m) in
    let sorted : T (fin.is_sorted (slice_cmp nat_cmp) es) = subst T (sym (is_sorted-map code unit p (fin.entries m))) (fin.entries_sorted m) in
    let same : shard_of code unit p m ≡ fin.from_sorted es = same_named _ _ (λ q. fin.get-from_entries nat_list_cmp_total es q ∙ sym (fin.get-from_sorted (slice_cmp nat_cmp) es q sorted)) in
    ap fin.entries same ∙ fin.entries-from_sorted (slice_cmp nat_cmp) es sorted

length-map : (code : CodeRows) (unit p : ℕ) (es : List (List ℕ × Object)) → length (map (entry_at_position code unit p) es) ≡ length es
length-map code unit p [] = refl
length-map code unit p (e ∷ es) = ap (λ n. suc n) (length-map code unit p es)

-- as many objects
pub len-shard_of : (code : CodeRows) (unit p : ℕ) (m : Objects) → fin.len (shard_of code unit p m) ≡ fin.len m
len-shard_of code unit p m = fin.len-entries (shard_of code unit p m) ∙ ap length (entries-shard_of code unit p m) ∙ length-map code unit p (fin.entries m) ∙ sym (fin.len-entries m)

usage-map : (code : CodeRows) (unit p : ℕ) (es : List (List ℕ × Object))
    → sum_by listings.object_usage (map (λ e. e.1) (map (entry_at_position code unit p) es)) ≡ sum_by object_usage (map (λ e. e.1) es)
usage-map code unit p [] = refl
usage-map code unit p (e ∷ es) =
    sum_by-cons listings.object_usage (position_of code unit p e.1) (map (λ e. e.1) (map (entry_at_position code unit p) es))
    ∙ ap (λ n. object_usage e.1 + n) (usage-map code unit p es)
    ∙ sym (sum_by-cons object_usage e.1 (map (λ e. e.1) es))

-- which take as much
pub usage-shard_of : (code : CodeRows) (unit p : ℕ) (m : Objects) → listings.usage (shard_of code unit p m) ≡ usage m
usage-shard_of code unit p m = ap (λ es. sum_by listings.object_usage (map (λ e. e.1) es)) (entries-shard_of code unit p m) ∙ usage-map code unit p (fin.entries m)
