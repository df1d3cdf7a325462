-- A step that fits has so many bytes at most.
use Rattle.std.proofs.Common.{◌≡◌, ℕ, ◌+◌, ◌*◌, ◌<◌, ◌≤◌, true, ◌||◌, nat_le, nat_lt, ◌==◌, ◌%◌, List, length, length-append, Option, Some, None, is_some, arith}
use Rattle.std.specs.Int.{bytes_high_first}
use Rattle.std.specs.FinMap as fin
use Rattle.std.proofs.lemmas.Bool.{false≢true, and_parts, leb-true, eqb-true}
use Rattle.ec_model.specs.Versions.{Version}
use Rattle.shard_model.specs.Limits.{max_size, max_value, max_attrs, max_step_rest}
use Rattle.shard_model.specs.Objects.{ShardObject, Geometry, shard_len}
use Rattle.shard_model.specs.Changes.{Change, Write, Replace, Remove, SetAttr, RemoveAttr, fits_change, fits_extent}
use Rattle.shard_model.specs.States.{State, fits, follows}
use Rattle.shard_model.specs.Steps.{Step, Log, Control, Recover, Put, Drop, Clear, Reset}
use Rattle.shard_model.specs.StepBytes.{version_bytes, change_bytes, step_bytes, IsName, IsWritableChange, IsWritable}
use Rattle.shard_model.proofs.UndoLemmas.{shard_len-le}
use Rattle.shard_model.proofs.BroughtLemmas.{put_long}
use Rattle.shard_model.proofs.LengthLemmas.{name_short, version_long, write_long, replace_long, set_long, entry_long, control_long}

pub drop_long : (name : List ℕ) → IsName name → length (step_bytes (Recover (Drop name))) ≤ 257
drop_long name is = omega (arith, name_short name is)

pub reset_long : (v : Version) (epoch : ℕ) → length (step_bytes (Recover (Reset v epoch))) ≡ 17
reset_long v epoch =
    let long : length (bytes_high_first 4 epoch) ≡ 4 = omega arith in
    omega (arith, length-append (version_bytes v) (bytes_high_first 4 epoch), version_long v, long)

module _ (g : Geometry) (positive : 0 < g.k * g.unit) where
  abbrev longest : ℕ
  longest = shard_len g max_size

  inside_longest : (size n : ℕ) → size ≤ max_size → n ≤ shard_len g size → n ≤ longest
  inside_longest size n small inside = omega (arith, inside, shard_len-le g size max_size positive small)

  extent_short : (size at n : ℕ) → fits_extent g size at n ≡ true → n ≤ longest
  extent_short size at n fit =
      let parts = and_parts (nat_le size max_size) _ fit in
      let rest = and_parts (n % g.unit == 0) (nat_le (at + n) (shard_len g size)) (and_parts (at % g.unit == 0) _ parts.1).1 in
      inside_longest size n (leb-true size max_size parts.0) (omega (arith, leb-true (at + n) (shard_len g size) rest.1))

  change_short : (c : Change) (o : Option ShardObject) → IsWritableChange c → fits_change g c o ≡ true → length (change_bytes c) ≤ 4356 + longest
  change_short (Write fresh size at bytes) None has fit =
      omega (arith, write_long fresh size at bytes, extent_short size at (length bytes) (and_parts (fresh == 1) _ fit).1)
  change_short (Write fresh size at bytes) (Some o) has fit =
      let parts = and_parts (nat_le o.size size) _ (and_parts (fresh == 0) _ fit).1 in
      omega (arith, write_long fresh size at bytes, extent_short size at (length bytes) parts.1)
  change_short (Replace size bytes) o has fit =
      let parts = and_parts (nat_le size max_size) (length bytes == shard_len g size) fit in
      let sized : length bytes ≡ shard_len g size = eqb-true (length bytes) (shard_len g size) parts.1 in
      omega (arith, replace_long size bytes, inside_longest size (length bytes) (leb-true size max_size parts.0) (omega (arith, sized)))
  change_short Remove o has fit = omega arith
  change_short (SetAttr attr value) None has fit = absurd (false≢true fit)
  change_short (SetAttr attr value) (Some o) has fit =
      let parts = and_parts (nat_le (length value) max_value) (is_some (fin.get o.attrs attr) || nat_lt (fin.len o.attrs) max_attrs) fit in
      omega (arith, set_long attr value, name_short attr has.0, leb-true (length value) max_value parts.0)
  change_short (RemoveAttr attr) o has fit = omega (arith, name_short attr has)

  pub step_short : (s : State) (step : Step) → IsWritable step → fits g s step ≡ true → length (step_bytes step) ≤ max_step_rest + longest
  step_short s (Log e) has fit =
      omega (arith, entry_long e, name_short e.name has.0.1.1, change_short e.change (fin.get s.objects e.name) has.1 (and_parts (follows s e) _ fit).1)
  step_short s (Control c) has fit = omega (arith, control_long c)
  step_short s (Recover (Put name size bytes attrs)) has fit =
      let small = (and_parts (nat_le size max_size) _ (and_parts s.partial _ fit).1).0 in
      omega (arith, put_long g s name size bytes attrs has fit, shard_len-le g size max_size positive (leb-true size max_size small))
  step_short s (Recover (Drop name)) has fit = omega (arith, drop_long name has)
  step_short s (Recover Clear) has fit = omega arith
  step_short s (Recover (Reset v epoch)) has fit = omega (arith, reset_long v epoch)
