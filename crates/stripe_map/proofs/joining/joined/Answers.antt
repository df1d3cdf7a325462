use Rattle.std.proofs.Common.{◌≡◌, ◌∙◌, ◌*◌, [], ℕ, length, drop, arith, refl, ap, subst}
use Rattle.std.proofs.lemmas.List.{take_at}
use Rattle.std.proofs.lemmas.Nat.{mul-le}
use Rattle.ec_model.specs.Stripes.{stripe_count, shard_len}
use Rattle.stripe_map.specs.Decoding.{stripe_of, stripes_of, made_lists, HaveLength}
use Rattle.stripe_map.proofs.DecodingJoinLemmas.{pieces_more, joined_long}
use Rattle.stripe_map.proofs.MadeLemmas.{made_have_length}
use Rattle.stripe_map.proofs.joining.joined.Goals as goal

pub loop-stripe-preserved : goal.loop-stripe-preserved
loop-stripe-preserved c =
    let piece = c.join_stripe.new.piece in
    let lists = made_lists c.args.g.k c.args.n c.args.rows.now c.args.chunks.now (c.div_ceil-count.result * c.args.g.unit) in (
      ap length (take_at piece (drop (length piece) c.loop-stripe.piece.items) c.loop-stripe.piece.len (omega (arith, c.join_stripe.ensures.piece))) ∙ c.join_stripe.ensures.piece,
      pieces_more (stripe_of c.args.g.k c.args.g.unit lists) [] _ _ _ c.loop-stripe.stripe c.loop-stripe.invariant.1 c.in_ok-join_stripe.ensures.value refl,
    )

pub returns-clause-long : goal.returns-clause-long
returns-clause-long c =
    let k = c.args.g.k in
    let unit = c.args.g.unit in
    let count = stripe_count k unit c.args.size in
    let all : c.div_ceil-count.result ≡ count = c.div_ceil-count.ensures in
    let last : c.loop-stripe.stripe ≡ c.div_ceil-count.result = omega (arith, c.loop-stripe-test.false, c.loop-stripe.auto.stripe-end) in
    let lists = made_lists k c.args.n c.args.rows.now c.args.chunks.now (c.div_ceil-count.result * unit) in
    let have : HaveLength k (shard_len k unit c.args.size) lists =
    subst (λ (n : ℕ). HaveLength k (n * unit) lists) all (made_have_length k c.args.n c.args.rows.now c.args.chunks.now (c.div_ceil-count.result * unit)) in
    ap length c.truncate.ensures.items
    ∙ joined_long k unit c.args.size lists c.loop-stripe.whole.items (mul-le 1 1 k unit c.args.g.some_chunks c.args.g.some_bytes) have
    (c.loop-stripe.invariant.1 ∙ ap (stripes_of k unit lists) (last ∙ all))
