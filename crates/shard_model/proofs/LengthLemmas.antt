-- How many bytes a step has.
use Rattle.std.proofs.Common.{◌≡◌, ℕ, ◌+◌, ◌≤◌, nat_le, List, ◌++◌, length, length-append, refl, ◌∙◌, arith}
use Rattle.std.specs.Int.{bytes_high_first}
use Rattle.std.specs.List.{list_all}
use Rattle.std.proofs.lemmas.Bool.{and_parts, leb-true}
use Rattle.ec_model.specs.Versions.{Version}
use Rattle.ec_words.specs.Names.{is_name_byte}
use Rattle.shard_model.specs.Changes.{Write, Replace, SetAttr}
use Rattle.shard_model.specs.Steps.{Entry, ControlStep, Back, Firm, Trim, Started, Partial, Log, Control}
use Rattle.shard_model.specs.StepBytes.{version_bytes, name_bytes, counted_bytes, head_bytes, change_bytes, step_bytes, IsName}

pub name_short : (name : List ℕ) → IsName name → length name ≤ 255
name_short name is = leb-true (length name) 255 (and_parts (nat_le (length name) 255) (list_all is_name_byte name) (and_parts (nat_le 1 (length name)) _ is).1).0

pub version_long : (v : Version) → length (version_bytes v) ≡ 12
unfolding version_bytes
version_long v = length-append (bytes_high_first 4 v.epoch) (bytes_high_first 8 v.seq)

word_long : (n : ℕ) → length (bytes_high_first 4 n) ≡ 4
word_long n = refl

pub head_long : (version prior : Version) (name : List ℕ) → length (head_bytes (version, (prior, name))) ≡ 25 + length name
head_long version prior name =
    length-append (version_bytes version) (version_bytes prior ++ name_bytes name)
    ∙ omega (arith, version_long version, version_long prior, length-append (version_bytes prior) (name_bytes name))

pub counted_long : (bytes : List ℕ) → length (counted_bytes bytes) ≡ 4 + length bytes
counted_long bytes = length-append (bytes_high_first 4 (length bytes)) bytes

pub write_long : (fresh size at : ℕ) (bytes : List ℕ) → length (change_bytes (Write fresh size at bytes)) ≡ 13 + length bytes
write_long fresh size at bytes =
    omega (arith, length-append (bytes_high_first 4 size) (bytes_high_first 4 at ++ counted_bytes bytes), length-append (bytes_high_first 4 at) (counted_bytes bytes), counted_long bytes, word_long size, word_long at)

pub replace_long : (size : ℕ) (bytes : List ℕ) → length (change_bytes (Replace size bytes)) ≡ 8 + length bytes
replace_long size bytes = omega (arith, length-append (bytes_high_first 4 size) (counted_bytes bytes), counted_long bytes, word_long size)

pub set_long : (attr value : List ℕ) → length (change_bytes (SetAttr attr value)) ≡ 5 + (length attr + length value)
set_long attr value = omega (arith, length-append (name_bytes attr) (counted_bytes value), counted_long value)

pub entry_long : (e : Entry) → length (step_bytes (Log e)) ≡ 26 + (length e.name + length (change_bytes e.change))
entry_long e = omega (arith, length-append (head_bytes (e.version, (e.prior, e.name))) (change_bytes e.change), head_long e.version e.prior e.name)

pub control_long : (c : ControlStep) → length (step_bytes (Control c)) ≤ 13
control_long (Back v) = omega (arith, version_long v)
control_long (Firm v) = omega (arith, version_long v)
control_long (Trim v) = omega (arith, version_long v)
control_long (Started epoch) = omega (arith, word_long epoch)
control_long Partial = omega arith
