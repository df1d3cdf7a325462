-- An entry that is taken back leaves what was there before it.
use Rattle.std.proofs.Common.{◌≡◌, ℕ, suc, ◌+◌, ◌-◌, ◌*◌, ◌/◌, ◌%◌, ◌<◌, ◌≤◌, min, Bool, true, false, cond, ◌||◌, is_some, List, [], ◌∷◌, length, take, drop, refl, sym, ap, subst, ◌∙◌, Option, Some, None, arith, nat_lt, nat_le}
use Rattle.std.proofs.lemmas.Grind.{common_steps, div_ceil_times}
use Rattle.std.proofs.lemmas.List.{places, same_lists}
use Rattle.std.proofs.lemmas.Bool.{false≢true, and_parts, leb-true}
use Rattle.std.proofs.Math.Nat.{mul-le-mul_right, lt_of_mul-lt-mul_right}
use Rattle.std.specs.Ordering.{nat_cmp}
use Rattle.std.specs.Cmp.Lexicographic.{slice_cmp, nat_list_cmp_total}
use Rattle.std.specs.FinMap as fin
use Rattle.shard_model.specs.Limits.{max_size, max_value}
use Rattle.shard_model.specs.Objects.{ShardObject, Geometry, Named, shard_len, MayBeHeld}
use Rattle.shard_model.specs.Changes.{Change, Write, Replace, Remove, SetAttr, RemoveAttr, changed, undo_of, restored, resized, written, fits_change}
use Rattle.shard_model.proofs.PutLemmas.{put_back}
use Rattle.shard_model.proofs.ShortLemmas.{none_short, set_short, removed_short}

-- bytes cut back to their old length, with the old ones of the range in their place, are the old bytes
bytes_back : (old some : List ℕ) (at n : ℕ) → length old ≤ n → at + length some ≤ n
    → written at (take (length some) (drop at old)) (resized (length old) (written at some (resized n old))) ≡ old
bytes_back old some at n longer inside = same_lists _ _ (grind (arith, places)) (λ k d h. grind (arith, places))

pub written_length : (some old : List ℕ) (at n : ℕ) → at + length some ≤ n → length (written at some (resized n old)) ≡ n
written_length some old at n inside = grind (arith, places)

stripes-le : (a b d x y : ℕ) → x * d < a + d → a ≤ b → b ≤ y * d → x * d < (y + 1) * d
stripes-le a b d x y low le high = omega arith

pub shard_len-le : (g : Geometry) (a b : ℕ) → 0 < g.k * g.unit → a ≤ b → shard_len g a ≤ shard_len g b
shard_len-le g a b positive le =
    let d = g.k * g.unit in
    let low = (div_ceil_times a d positive).1 in
    let high = (div_ceil_times b d positive).0 in
    let less = lt_of_mul-lt-mul_right d (stripes-le a b d (a / d + min 1 (a % d)) (b / d + min 1 (b % d)) low le high) in
    mul-le-mul_right g.unit (omega (arith, less))

-- a value set in attributes that may have it
few_set : (c : Bool) (n : ℕ) → n ≤ 64 → (c || nat_lt n 64) ≡ true → cond c n (n + 1) ≤ 64
few_set true n few fit = few
few_set false n few fit = grind (arith, common_steps)

few_less : (c : Bool) (n : ℕ) → n ≤ 64 → cond c (n - 1) n ≤ 64
few_less true n few = omega (arith, few)
few_less false n few = few

-- at a change that fits, the object before it comes back
pub object_back : (g : Geometry) → 0 < g.k * g.unit → (c : Change) (o : Option ShardObject) → MayBeHeld g o → fits_change g c o ≡ true → restored g (undo_of c o) (changed g c o) ≡ o
object_back g positive (Write fresh size at bytes) None held fit = refl
object_back g positive (Write fresh size at bytes) (Some o) held fit =
    let bigger : o.size ≤ size = grind (arith, common_steps) in
    let longer : length o.bytes ≤ shard_len g size = omega (arith, held.sized, shard_len-le g o.size size positive bigger) in
    let inside : at + length bytes ≤ shard_len g size = grind (arith, common_steps) in
    let same : written at (take (length bytes) (drop at o.bytes)) (resized (shard_len g o.size) (written at bytes (resized (shard_len g size) o.bytes))) ≡ o.bytes =
    ap (λ n. written at (take (length bytes) (drop at o.bytes)) (resized n (written at bytes (resized (shard_len g size) o.bytes)))) (sym held.sized)
    ∙ bytes_back o.bytes bytes at (shard_len g size) longer inside in
    λ i. Some (record { bytes = same i; size = o.size; attrs = o.attrs })
object_back g positive (Replace size bytes) None held fit = refl
object_back g positive (Replace size bytes) (Some o) held fit = refl
object_back g positive Remove None held fit = absurd (false≢true fit)
object_back g positive Remove (Some o) held fit = refl
object_back g positive (SetAttr attr value) None held fit = absurd (false≢true fit)
object_back g positive (SetAttr attr value) (Some o) held fit = λ i. Some (record { bytes = o.bytes; size = o.size; attrs = put_back o.attrs attr (Some value) i })
object_back g positive (RemoveAttr attr) None held fit = absurd (false≢true fit)
object_back g positive (RemoveAttr attr) (Some o) held fit = λ i. Some (record { bytes = o.bytes; size = o.size; attrs = put_back o.attrs attr None i })

few_empty : fin.len (fin.empty {X = List ℕ} {R = slice_cmp nat_cmp}) ≤ 64
few_empty = subst (λ n. n ≤ 64) (sym (fin.len-empty (slice_cmp nat_cmp) (List ℕ))) (omega arith)

-- after a change that fits, an object is as long as its size asks for
pub held_after : (g : Geometry) (c : Change) (o : Option ShardObject) → MayBeHeld g o → fits_change g c o ≡ true → MayBeHeld g (changed g c o)
held_after g (Write fresh size at bytes) None held fit =
    let inside : at + length bytes ≤ shard_len g size = grind (arith, common_steps) in
    let small : size ≤ max_size = grind (arith, common_steps) in
    record { small = small; sized = written_length bytes [] at (shard_len g size) inside; few = few_empty; short = none_short }
held_after g (Write fresh size at bytes) (Some o) held fit =
    let inside : at + length bytes ≤ shard_len g size = grind (arith, common_steps) in
    let small : size ≤ max_size = grind (arith, common_steps) in
    record { small = small; sized = written_length bytes o.bytes at (shard_len g size) inside; few = held.few; short = held.short }
held_after g (Replace size bytes) None held fit = record { small = grind (arith, common_steps); sized = grind (arith, common_steps); few = few_empty; short = none_short }
held_after g (Replace size bytes) (Some o) held fit = record { small = grind (arith, common_steps); sized = grind (arith, common_steps); few = held.few; short = held.short }
held_after g Remove o held fit = tt
held_after g (SetAttr attr value) None held fit = tt
held_after g (SetAttr attr value) (Some o) held fit =
    record {
      small = held.small;
      sized = held.sized;
      few = subst (λ n. n ≤ 64) (sym (fin.len-insert nat_list_cmp_total o.attrs attr value)) (few_set (is_some (fin.get o.attrs attr)) (fin.len o.attrs) held.few (and_parts _ _ fit).1);
      short = set_short o.attrs attr value held.short (leb-true (length value) max_value (and_parts (nat_le (length value) max_value) _ fit).0);
    }
held_after g (RemoveAttr attr) None held fit = tt
held_after g (RemoveAttr attr) (Some o) held fit =
    record {
      small = held.small;
      sized = held.sized;
      few = subst (λ n. n ≤ 64) (sym (fin.len-remove nat_list_cmp_total o.attrs attr)) (few_less (is_some (fin.get o.attrs attr)) (fin.len o.attrs) held.few);
      short = removed_short o.attrs attr held.short;
    }

abbrev attrs_from : List (List ℕ × List ℕ) → Named (List ℕ)
attrs_from attrs = fin.from_entries attrs

one_more_pair : (c : Bool) (n m : ℕ) → n ≤ m → cond c n (n + 1) ≤ suc m
one_more_pair true n m le = omega (arith, le)
one_more_pair false n m le = omega (arith, le)

-- pairs that are inserted one after another are no more than they were
pub few_pairs : (attrs : List (List ℕ × List ℕ)) → fin.len {R = slice_cmp nat_cmp} (attrs_from attrs) ≤ length attrs
few_pairs [] = subst (λ n. n ≤ 0) (sym (fin.len-empty (slice_cmp nat_cmp) (List ℕ))) (omega arith)
few_pairs (a ∷ attrs) =
    subst (λ n. n ≤ suc (length attrs)) (sym (fin.len-insert nat_list_cmp_total (attrs_from attrs) a.0 a.1))
    (one_more_pair (is_some (fin.get (attrs_from attrs) a.0)) (fin.len (attrs_from attrs)) (length attrs) (few_pairs attrs))
