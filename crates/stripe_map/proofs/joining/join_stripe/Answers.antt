use Rattle.std.proofs.Common.{◌≡◌, ◌∙◌, ◌*◌, length, arith}
use Rattle.ec_model.specs.Stripes.{chunk_at}
use Rattle.stripe_map.specs.Decoding.{list_at, made_lists}
use Rattle.stripe_map.proofs.DecodingJoinLemmas.{pieces_more}
use Rattle.stripe_map.proofs.MadeLemmas.{made_piece}
use Rattle.stripe_map.proofs.joining.join_stripe.Goals as goal

pub loop-j-preserved : goal.loop-j-preserved
loop-j-preserved c =
    let k = c.args.g.k in
    let unit = c.args.g.unit in
    let lists = made_lists k c.args.n c.args.rows.now c.args.chunks.now (c.args.count * unit) in
    let long : length c.make_piece.new.piece ≡ unit = c.make_piece.ensures.long ∙ c.loop-j.invariant.0 in (
      long,
      pieces_more (λ j. chunk_at unit (list_at lists j) c.args.stripe) _ _ _ _ c.loop-j.j c.loop-j.invariant.1 c.in_ok-extend_from_slice.ensures.items
          (made_piece k c.args.n unit c.args.count c.args.stripe c.loop-j.j c.args.rows.now c.args.chunks.now c.make_piece.new.piece (omega (arith, c.loop-j-test.true)) c.requires.inside long
          (λ b lt. c.make_piece.ensures.value b (omega (arith, c.loop-j.invariant.0)))),
    )
