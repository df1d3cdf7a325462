-- Stripes. Source: Ceph developer guide, "Erasure Coded pool" (stripe_width = k * stripe_unit, the last stripe is
-- padded with zeros).
-- `k` is the number of data chunks in a stripe, `unit` the bytes of a chunk, `size` the bytes of an object.
use Rattle.std.specs.Prelude.{ℕ, ◌+◌, ◌-◌, ◌*◌, List, ◌++◌, map, length, take, drop, replicate}
use Rattle.std.specs.List.{flat_map, range_with_len}
use Rattle.std.specs.Int.{div_ceil}

-- the number of stripes of an object with `size` bytes
abbrev pub stripe_count : ℕ → ℕ → ℕ → ℕ
stripe_count k unit size = div_ceil size (k * unit)

-- the number of bytes of one position of that object: a chunk from each stripe
abbrev pub shard_len : ℕ → ℕ → ℕ → ℕ
shard_len k unit size = stripe_count k unit size * unit

-- an object's bytes, padded with zeros to whole stripes
abbrev pub padded : ℕ → ℕ → List ℕ → List ℕ
padded k unit bytes = bytes ++ replicate (stripe_count k unit (length bytes) * (k * unit) - length bytes) 0

-- the chunk with this index in a list of chunks: `unit` bytes
abbrev pub chunk_at : ℕ → List ℕ → ℕ → List ℕ
chunk_at unit list index = take unit (drop (index * unit) list)

-- data chunk j of a stripe, if the bytes are whole stripes already: `unit` bytes
abbrev pub data_chunk : ℕ → ℕ → List ℕ → ℕ → ℕ → List ℕ
data_chunk k unit whole j stripe = chunk_at unit whole (stripe * k + j)

-- the bytes of data position j: its chunk of each stripe, one after another
abbrev pub data_list : ℕ → ℕ → List ℕ → ℕ → List ℕ
data_list k unit bytes j =
    flat_map (data_chunk k unit (padded k unit bytes) j) (range_with_len 0 (stripe_count k unit (length bytes)))

-- the bytes of all k data positions
abbrev pub data_lists : ℕ → ℕ → List ℕ → List (List ℕ)
data_lists k unit bytes = map (data_list k unit bytes) (range_with_len 0 k)

-- the stripe with this index: a chunk of each list
abbrev pub stripe_at : ℕ → List (List ℕ) → ℕ → List ℕ
stripe_at unit lists stripe = flat_map (λ list. chunk_at unit list stripe) lists

-- the object of `size` bytes that the lists of its data positions give: stripe by stripe, without the padding
abbrev pub joined : ℕ → List (List ℕ) → ℕ → List ℕ
joined unit lists size =
    take size (flat_map (stripe_at unit lists) (range_with_len 0 (stripe_count (length lists) unit size)))
