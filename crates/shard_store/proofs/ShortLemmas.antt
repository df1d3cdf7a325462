-- A step that fits, and has few bytes, has lists that are short enough to be counted.
use Rattle.std.proofs.Common.{◌≡◌, ◌≤◌, ℕ, List, [], ◌∷◌, ◌++◌, length, true, ◌&&◌, nat_le, ◌==◌, arith, length-append}
use Rattle.std.specs.List.{AllByRecursion, list_all}
use Rattle.std.specs.Int.{bytes_high_first}
use Rattle.std.specs.Ordering.{nat_cmp}
use Rattle.std.specs.Cmp.Lexicographic.{slice_cmp}
use Rattle.std.specs.FinMap as fin
use Rattle.std.proofs.lemmas.Bool.{and_parts, leb-true}
use Rattle.shard_model.specs.Changes.{Change, Write, Replace, Remove, SetAttr, RemoveAttr}
use Rattle.shard_model.specs.Limits.{max_size, max_attrs, max_value}
use Rattle.shard_model.specs.Objects.{Geometry, shard_len}
use Rattle.shard_model.specs.States.{State, fits, are_attrs}
use Rattle.shard_model.specs.Steps.{Step, Log, Control, Recover, Put, Drop, Clear, Reset}
use Rattle.shard_model.specs.StepBytes.{step_bytes, head_bytes, change_bytes, name_bytes, counted_bytes, pairs_bytes, HasShortBytes, HasShortLists, IsCounted}
use Rattle.slot_journal.specs.Text.{max_body}

counted_long : (bytes : List ℕ) → length bytes ≤ length (counted_bytes bytes)
counted_long bytes = omega (arith, length-append (bytes_high_first 4 (length bytes)) bytes)

front_long : (xs ys : List ℕ) → length xs ≤ length (xs ++ ys)
front_long xs ys = omega (arith, length-append xs ys)

back_long : (xs ys : List ℕ) → length ys ≤ length (xs ++ ys)
back_long xs ys = omega (arith, length-append xs ys)

short_change : (c : Change) → length (change_bytes c) ≤ max_body → HasShortBytes c
short_change (Write fresh size at bytes) few =
    omega (arith, few, back_long (bytes_high_first 4 size) (bytes_high_first 4 at ++ counted_bytes bytes), back_long (bytes_high_first 4 at) (counted_bytes bytes), counted_long bytes)
short_change (Replace size bytes) few = omega (arith, few, back_long (bytes_high_first 4 size) (counted_bytes bytes), counted_long bytes)
short_change Remove few = tt
short_change (SetAttr attr value) few = omega (arith, few, back_long (name_bytes attr) (counted_bytes value), counted_long value)
short_change (RemoveAttr attr) few = tt

short_values : (attrs : List (List ℕ × List ℕ)) → list_all (λ a. nat_le (length a.1) max_value) attrs ≡ true → AllByRecursion (λ attr. IsCounted attr.1) attrs
short_values [] all = tt
short_values (a ∷ attrs) all =
    let parts = and_parts (nat_le (length a.1) max_value) (list_all (λ a. nat_le (length a.1) max_value) attrs) all in
    (omega (arith, leb-true (length a.1) max_value parts.0), short_values attrs parts.1)

pub short_lists : (g : Geometry) (s : State) (step : Step) → fits g s step ≡ true → length (step_bytes step) ≤ max_body → HasShortLists step
short_lists g s (Log e) fit few =
    short_change e.change (omega (arith, few, back_long (head_bytes (e.version, (e.prior, e.name))) (change_bytes e.change)))
short_lists g s (Control control) fit few = tt
short_lists g s (Recover (Put name size bytes attrs)) fit few =
    let parts = and_parts (length bytes == shard_len g size) (are_attrs attrs) (and_parts (nat_le size max_size) _ (and_parts s.partial _ fit).1).1 in
    let own = and_parts (nat_le (length attrs) max_attrs) (fin.is_sorted (slice_cmp nat_cmp) attrs && list_all (λ a. nat_le (length a.1) max_value) attrs) parts.1 in
    let values = and_parts (fin.is_sorted (slice_cmp nat_cmp) attrs) (list_all (λ a. nat_le (length a.1) max_value) attrs) own.1 in (
      omega (arith, few, back_long (name_bytes name) (bytes_high_first 4 size ++ (counted_bytes bytes ++ pairs_bytes attrs)), back_long (bytes_high_first 4 size) (counted_bytes bytes ++ pairs_bytes attrs), front_long (counted_bytes bytes) (pairs_bytes attrs), counted_long bytes),
      (omega (arith, leb-true (length attrs) max_attrs own.0), short_values attrs values.1),
    )
short_lists g s (Recover (Drop name)) fit few = tt
short_lists g s (Recover Clear) fit few = tt
short_lists g s (Recover (Reset v epoch)) fit few = tt
