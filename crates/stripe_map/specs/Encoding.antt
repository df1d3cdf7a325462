-- The list of one position of an object. Source: Ceph developer guide, "Erasure Coded pool" (stripe_width = k * stripe_unit,
-- the last stripe is padded with zeros).
-- `k` is the number of data chunks of a stripe, `unit` the number of bytes of a chunk in one stripe.
use Rattle.std.specs.Prelude.{◌≡◌, ℕ, ◌+◌, ◌-◌, ◌*◌, ◌/◌, ◌<◌, List, ◌++◌, length, drop, replicate, slice_index}
use Rattle.ec_model.specs.Field.{field_product}
use Rattle.ec_model.specs.Rows.{sum_below}
use Rattle.ec_model.specs.Stripes.{padded}

-- the bytes behind the whole stripes, padded with zeros to a stripe of `width` bytes
abbrev pub last_stripe : ℕ → List ℕ → List ℕ
last_stripe width bytes =
    let rest = drop (length bytes / width * width) bytes in
    rest ++ replicate (width - length rest) 0

-- a list begins with the chunks of the first `count` stripes by a row of k entries
abbrev pub HasStripes : ℕ → ℕ → List ℕ → List ℕ → ℕ → List ℕ → Type 0
HasStripes k unit row bytes count list = (t b : ℕ) → t < count → b < unit →
    slice_index list (t * unit + b) ≡ sum_below k (λ j.
    field_product (slice_index row j) (slice_index (padded k unit bytes) ((t * k + j) * unit + b)))
