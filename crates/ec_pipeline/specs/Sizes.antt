-- Sizes of objects after an update. Source: this project.
use Rattle.std.specs.Prelude.{◌+◌, ◌==◌, ℕ, length, max, if◌then◌else◌}
use Rattle.ec_positions.specs.Updates.{Update, Append, WriteAt, Full}

-- the size that an object of `old` bytes has after an update that puts bytes into it
abbrev pub new_size_of : Update → ℕ → ℕ
new_size_of (Append name bytes) old = old + length bytes
new_size_of (WriteAt name off bytes) old = if length bytes == 0 then old else max old (off + length bytes)
new_size_of (Full name bytes) old = length bytes
new_size_of others old = old
