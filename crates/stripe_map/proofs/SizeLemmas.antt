-- The size of a chunk as it is computed is the closed form and the least one.
use Rattle.std.proofs.Common.{◌≡◌, ℕ, ◌*◌, ◌/◌, ◌%◌, ◌+◌, ◌<◌, ◌≤◌, ◌∙◌, sym, ap, arith}
use Rattle.std.specs.Int.{div_ceil}
use Rattle.std.proofs.lemmas.Grind.{div_ceil_times}
use Rattle.std.proofs.Math.Nat.{mul-div_cancel}
use Rattle.stripe_map.specs.Sizes.{chunk_size_of, IsLeastChunk}

regroup : (count lead : ℕ) → count * (32 * lead) ≡ count * 32 * lead
regroup count lead = grind arith

pub times_alignment-chunk_size_of : (lead size : ℕ) → 0 < lead → div_ceil size (32 * lead) * 32 ≡ chunk_size_of lead size
times_alignment-chunk_size_of lead size pos =
    sym (ap (λ n. n / lead) (regroup (div_ceil size (32 * lead)) lead) ∙ mul-div_cancel (div_ceil size (32 * lead) * 32) pos)

turned : (lead pieces : ℕ) → lead * (pieces * 32) ≡ pieces * (32 * lead)
turned lead pieces = grind arith

-- fewer pieces do not hold the bytes
no_fewer : (piece size count fewer : ℕ) → count * piece < size + piece → size ≤ fewer * piece → count ≤ fewer
no_fewer piece size count fewer tight holds = grind arith

-- an aligned chunk is a count of 32 bytes from each of the others
least : (lead size count other : ℕ) → count * (32 * lead) < size + 32 * lead → other % 32 ≡ 0 → size ≤ lead * other → count * 32 ≤ other
least lead size count other tight aligned holds =
    let whole : other ≡ other / 32 * 32 = omega arith in
    let same : lead * other ≡ other / 32 * (32 * lead) = ap (λ n. lead * n) whole ∙ turned lead (other / 32) in
    let below : count ≤ other / 32 = no_fewer (32 * lead) size count (other / 32) tight (omega (arith, same)) in
    omega arith

pub times_alignment-IsLeastChunk : (lead size : ℕ) → 0 < lead → IsLeastChunk lead size (div_ceil size (32 * lead) * 32)
times_alignment-IsLeastChunk lead size pos =
    let bounds = div_ceil_times size (32 * lead) (omega arith) in
    record {
      aligned = omega arith;
      holds = omega (arith, bounds.0, turned lead (div_ceil size (32 * lead)));
      least = λ other aligned holds. least lead size (div_ceil size (32 * lead)) other bounds.1 aligned holds;
    }
