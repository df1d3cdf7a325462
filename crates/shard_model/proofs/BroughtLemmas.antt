-- An object of any shard may be brought, and takes so many bytes.
use Rattle.std.proofs.Common.{◌≡◌, ℕ, ◌+◌, ◌*◌, ◌≤◌, true, ◌&&◌, nat_le, ◌==◌, List, [], ◌∷◌, ◌++◌, length, length-append, arith}
use Rattle.std.specs.List.{AllByRecursion, list_all, flat_map}
use Rattle.std.specs.Int.{bytes_high_first}
use Rattle.std.specs.Ordering.{nat_cmp}
use Rattle.std.specs.Cmp.Lexicographic.{slice_cmp}
use Rattle.std.specs.FinMap as fin
use Rattle.std.proofs.lemmas.Bool.{and_parts, and_from, leb-true, eqb-true}
use Rattle.std.proofs.lemmas.Grind.{common_steps}
use Rattle.shard_model.specs.Limits.{max_size, max_value, max_attrs, max_step_rest}
use Rattle.shard_model.specs.Objects.{ShardObject, Geometry, IsHeld, shard_len}
use Rattle.shard_model.specs.States.{State, fits, are_attrs}
use Rattle.shard_model.specs.Steps.{Recover, Put}
use Rattle.shard_model.specs.StepBytes.{name_bytes, counted_bytes, pair_bytes, pairs_bytes, step_bytes, IsPair, IsWritable}
use Rattle.shard_model.specs.Laws.{HeldObjectsMayBeBrought}
use Rattle.shard_model.proofs.ShortLemmas.{is_short, entries_ascend, entries_short, entries_back}
use Rattle.shard_model.proofs.LengthLemmas.{name_short, counted_long}

le_true : (a b : ℕ) → a ≤ b → nat_le a b ≡ true
le_true a b le = grind (arith, common_steps)

same_true : (a b : ℕ) → a ≡ b → (a == b) ≡ true
same_true a b e = grind (arith, common_steps)

attrs_fit : (g : Geometry) (o : ShardObject) → IsHeld g o → are_attrs (fin.entries o.attrs) ≡ true
attrs_fit g o held =
    and_from (nat_le (length (fin.entries o.attrs)) max_attrs) _ (le_true (length (fin.entries o.attrs)) max_attrs (omega (arith, held.few, fin.len-entries o.attrs)))
    (and_from (fin.is_sorted (slice_cmp nat_cmp) (fin.entries o.attrs)) (list_all is_short (fin.entries o.attrs)) (entries_ascend o.attrs) (entries_short o.attrs held.short))

pub may_be_brought : HeldObjectsMayBeBrought
may_be_brought g name o held = record {
  fit = λ s partial.
      and_from s.partial (nat_le o.size max_size && (length o.bytes == shard_len g o.size && are_attrs (fin.entries o.attrs))) partial
      (and_from (nat_le o.size max_size) (length o.bytes == shard_len g o.size && are_attrs (fin.entries o.attrs)) (le_true o.size max_size held.small)
      (and_from (length o.bytes == shard_len g o.size) (are_attrs (fin.entries o.attrs)) (same_true (length o.bytes) (shard_len g o.size) held.sized) (attrs_fit g o held)));
  same = λ i. record { bytes = o.bytes; size = o.size; attrs = entries_back o.attrs i };
}

pair_long : (attr : List ℕ × List ℕ) → IsPair attr → length attr.1 ≤ max_value → length (pair_bytes attr) ≤ 4356
pair_long attr is short =
    omega (arith, length-append (name_bytes attr.0) (counted_bytes attr.1), name_short attr.0 is.0, counted_long attr.1, short)

pairs_long : (attrs : List (List ℕ × List ℕ)) → AllByRecursion IsPair attrs → list_all is_short attrs ≡ true → length (flat_map pair_bytes attrs) ≤ 4356 * length attrs
pairs_long [] are short = omega arith
pairs_long (attr ∷ attrs) are short =
    let parts = and_parts (is_short attr) (list_all is_short attrs) short in
    omega (arith, length-append (pair_bytes attr) (flat_map pair_bytes attrs), pair_long attr are.0 (leb-true (length attr.1) max_value parts.0), pairs_long attrs are.1 parts.1)

pub put_long : (g : Geometry) (s : State) (name : List ℕ) (size : ℕ) (bytes : List ℕ) (attrs : List (List ℕ × List ℕ)) → IsWritable (Recover (Put name size bytes attrs))
    → fits g s (Recover (Put name size bytes attrs)) ≡ true → length (step_bytes (Recover (Put name size bytes attrs))) ≤ max_step_rest + shard_len g size
put_long g s name size bytes attrs has fit =
    let rest = and_parts (length bytes == shard_len g size) (are_attrs attrs) (and_parts (nat_le size max_size) _ (and_parts s.partial _ fit).1).1 in
    let lists = and_parts (nat_le (length attrs) max_attrs) _ rest.1 in
    let sized : length bytes ≡ shard_len g size = eqb-true (length bytes) (shard_len g size) rest.0 in
    let few : length attrs ≤ max_attrs = leb-true (length attrs) max_attrs lists.0 in
    let pairs = pairs_long attrs has.1.1.1.1 (and_parts (fin.is_sorted (slice_cmp nat_cmp) attrs) (list_all is_short attrs) lists.1).1 in
    let long : length (bytes_high_first 4 size) ≡ 4 = omega arith in
    omega (
      arith,
      length-append (name_bytes name) (bytes_high_first 4 size ++ (counted_bytes bytes ++ pairs_bytes attrs)),
      length-append (bytes_high_first 4 size) (counted_bytes bytes ++ pairs_bytes attrs),
      length-append (counted_bytes bytes) (pairs_bytes attrs),
      name_short name has.0,
      counted_long bytes,
      sized,
      few,
      pairs,
    )
