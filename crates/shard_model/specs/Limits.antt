-- The limits of a shard's steps. Source: this project.
use Rattle.std.specs.Prelude.{ℕ, ◌+◌, ◌*◌, ◌^◌}

-- the bytes of the largest object
abbrev pub max_size : ℕ
max_size = 2 ^ 20

-- the bytes of the longest value of an attribute
abbrev pub max_value : ℕ
max_value = 4096

-- the attributes that an object may have
abbrev pub max_attrs : ℕ
max_attrs = 64

-- each number of a version is below this
abbrev pub seq_limit : ℕ
seq_limit = 2 ^ 40

-- the bytes of the longest step beside those of its object: kind, name, size, two counts, and each attribute's name and value
abbrev pub max_step_rest : ℕ
max_step_rest = 1 + 256 + 4 + 4 + 1 + max_attrs * (256 + 4 + max_value)
