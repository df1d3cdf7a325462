-- What the calls of a store spend at most. Source: this project.
use Rattle.std.specs.Prelude.{◌+◌, ℕ}
use Rattle.slot_journal.specs.Limits.{make_bytes}

-- the bytes of the longest first step: it starts epoch 1
abbrev pub first_len : ℕ
first_len = 5

-- the bytes that are written in making a store
abbrev pub store_bytes : ℕ
store_bytes = make_bytes + first_len
