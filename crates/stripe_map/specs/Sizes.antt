-- Sizes of chunks. Source: this project, after Ceph's reed_sol_van without alignment of each chunk.
use Rattle.std.specs.Prelude.{◌≡◌, ℕ, ◌*◌, ◌/◌, ◌%◌, ◌^◌, ◌≤◌}
use Rattle.std.specs.Int.{div_ceil}

-- the size of a chunk of a buffer that is coded whole is a multiple of this number of bytes
abbrev pub alignment : ℕ
alignment = 32

-- the number of bytes of the longest buffer that is coded whole
abbrev pub max_buffer : ℕ
max_buffer = 2 ^ 40

-- the number of bytes of the longest object
abbrev pub max_object : ℕ
max_object = 2 ^ 26

-- the number of bytes of a chunk: the buffer rounded up to a multiple of `alignment * lead`, divided by `lead`
abbrev pub chunk_size_of : ℕ → ℕ → ℕ
chunk_size_of lead size = div_ceil size (alignment * lead) * (alignment * lead) / lead

-- `lead` chunks of this size hold the buffer, and no smaller aligned chunks do
pub record IsLeastChunk (lead size chunk : ℕ) : Type 0 where
  pub aligned : chunk % alignment ≡ 0
  pub holds : size ≤ lead * chunk
  pub least : (other : ℕ) → other % alignment ≡ 0 → size ≤ lead * other → chunk ≤ other
