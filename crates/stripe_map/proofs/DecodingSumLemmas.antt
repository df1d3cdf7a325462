-- Sums of multiples of chunks, and lists that are made one after another.
use Rattle.std.proofs.Common.{◌≡◌, ◌<◌, ◌≤◌, ◌+◌, ℕ, List, [], Option, Some, None, IsSome, length, slice_index, bit_xor, refl, sym, ap, ◌∙◌, add-one}
use Rattle.std.specs.Int.Bits.{xor_zero_r}
use Rattle.ec_model.specs.Field.{field_product}
use Rattle.ec_model.specs.Rows.{sum_below}
use Rattle.ec_model.specs.Stripes.{shard_len}
use Rattle.ec_model.specs.Codes.{CodeRows, Combines, IsPositionList}
use Rattle.gf256.proofs.CallerLemmas.{field_product-zero}
use Rattle.stripe_map.specs.Chunks.{chunk_of_position}
use Rattle.stripe_map.specs.Decoding.{IsMaskOf, ArePositionLists, bytes_of}
use Rattle.stripe_map.proofs.DecodingLemmas.{sum_is_position_list}

-- a chunk that is not there adds nothing
pub nothing_added : (coefficient byte i : ℕ) → byte ≡ bit_xor byte (field_product coefficient (slice_index [] i))
nothing_added coefficient byte i = sym (ap (bit_xor byte) (field_product-zero coefficient) ∙ xor_zero_r byte)

-- one chunk more is added
pub next_sum : (q : ℕ) (f : ℕ → ℕ) (old new : ℕ) → new ≡ bit_xor old (f q) → old ≡ sum_below q f → new ≡ sum_below (q + 1) f
unfolding sum_below
next_sum q f old new step so_far = rw (add-one q) (step ∙ ap (λ t. bit_xor t (f q)) so_far)

there : (chunk : Option (List ℕ)) → IsSome chunk → chunk ≡ Some (bytes_of chunk)
there (Some bytes) is = refl
there None is = absurd cc

-- the sum of the multiples of the chunks is the list of a position
pub chunks_make_list : (code : CodeRows) (unit : ℕ) (bytes : List ℕ) (from p : ℕ) (coefficients : List ℕ) (chunks : List (Option (List ℕ))) (list : List ℕ) → code.n ≤ 16
    → IsMaskOf chunks from → Combines code from p coefficients → ArePositionLists code unit chunks bytes → length list ≡ shard_len code.k unit (length bytes)
    → ((i : ℕ) → i < length list → slice_index list i
    ≡ sum_below code.n (λ q. field_product (slice_index coefficients q) (slice_index (bytes_of (chunk_of_position chunks q)) i)))
    → IsPositionList code unit bytes p list
chunks_make_list code unit bytes from p c chunks list few is makes lists long sums =
    sum_is_position_list code unit bytes from p c (λ q. bytes_of (chunk_of_position chunks q)) list few makes
    (λ q lt has. lists q (bytes_of (chunk_of_position chunks q)) lt (there (chunk_of_position chunks q) ((is q).0 has)))
    long sums
