use Rattle.std.proofs.Common.{◌≡◌, ◌+◌, ◌*◌, ◌<◌, ◌∙◌, ℕ, arith, slice_index, sym}
use Rattle.ec_model.specs.Field.{field_product}
use Rattle.ec_code.proofs.EncodeLemmas.{next_sum, zeros_add_nothing, first_product}
use Rattle.ec_code.proofs.encode.encode_chunk.Goals as goal

pub returns-then-first-k : goal.returns-then-first-k
returns-then-first-k c = λ b lt.
    let all : (j : ℕ) → j < c.args.k → slice_index c.args.row.now j ≡ 0 = λ j below. c.leading_zeros-first.ensures.zeros j (omega (arith, c.if-first-k.true)) in
    c.clear.ensures b (omega arith) ∙ sym (zeros_add_nothing c.args.k c.args.row.now (λ j. slice_index c.args.stripe.now (j * c.args.unit + b)) all)

pub loop-j-init : goal.loop-j-init
loop-j-init c = λ b lt. first_product c.leading_zeros-first.result c.args.row.now (λ j. slice_index c.args.stripe.now (j * c.args.unit + b)) (slice_index c.put_unit.new.chunk b)
    c.leading_zeros-first.ensures.zeros (c.put_unit.ensures b (omega arith))

pub loop-j-preserved : goal.loop-j-preserved
loop-j-preserved c = λ b lt. next_sum c.loop-j.j (λ j. field_product (slice_index c.args.row.now j) (slice_index c.args.stripe.now (j * c.args.unit + b)))
    (slice_index c.loop-j.chunk b) (slice_index c.add_unit.new.chunk b) (c.add_unit.ensures b (omega arith)) (c.loop-j.invariant b (omega arith))
