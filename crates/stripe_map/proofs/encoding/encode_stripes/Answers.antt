use Rattle.std.proofs.Common.{◌≡◌, ◌∙◌, ◌+◌, ◌++◌, List, ℕ, length, drop, ap, sym, subst, arith, length-append}
use Rattle.std.proofs.lemmas.List.{take_at}
use Rattle.stripe_map.specs.Encoding.{HasStripes}
use Rattle.stripe_map.proofs.EncodingLemmas.{next_stripe, times_next}
use Rattle.stripe_map.proofs.encoding.encode_stripes.Goals as goal

pub loop-stripe-preserved : goal.loop-stripe-preserved
loop-stripe-preserved c =
    let new = c.encode_chunk.new.chunk in
    let out = c.loop-stripe.list.items in
    let stripe = c.loop-stripe.stripe in
    let long : length new ≡ c.args.g.unit = omega arith in
    let whole = take_at new (drop (length new) c.loop-stripe.chunk.items) c.loop-stripe.chunk.len (omega arith) in
    let appended : c.extend_from_slice.new.self.items ≡ out ++ new = c.in_ok-extend_from_slice.ensures.items ∙ ap (λ t. out ++ t) (c.deref.ensures.value ∙ whole) in (
      ap length whole ∙ long,
      ap length appended ∙ length-append out new ∙ omega (arith, c.loop-stripe.invariant.1, times_next stripe c.args.g.unit),
      subst (λ (l : List ℕ). HasStripes c.args.g.k c.args.g.unit c.args.row.now c.args.bytes.now (stripe + 1) l) (sym appended)
          (next_stripe c.args.g.k c.args.g.unit c.args.row.now c.args.bytes.now c.stripe_of-stripe.result.now out new stripe c.loop-stripe.invariant.1 long
          c.stripe_of-stripe.ensures.value c.encode_chunk.ensures c.loop-stripe.invariant.2),
    )
