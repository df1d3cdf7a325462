use Rattle.std.proofs.Common.{◌≡◌, ◌∙◌, ◌*◌, ◌/◌, ◌%◌, ◌-◌, ◌+◌, ap, arith, bit_xor}
use Rattle.ec_model.specs.Field.{field_product}
use Rattle.gf256.proofs.NibbleLemmas.{even_product, odd_product}
use Rattle.gf256.proofs.lanes.next_product.Goals as goal

pub returns-then-i-eq0 : goal.returns-then-i-eq0
returns-then-i-eq0 c =
    let half = c.args.i / 2 in
    let same : half % 16 ≡ half = omega (arith, c.if-i-ge16.false) in
    let whole : half * 2 ≡ c.args.i % 16 = omega (arith, c.if-i-ge16.false, c.if-i-eq0.true) in
    c.doubled.ensures
    ∙ ap (λ t. field_product t 2) (c.requires.before half (omega (arith, c.requires.from)) ∙ ap (field_product c.args.factor) same)
    ∙ even_product c.args.factor half (omega (arith, c.if-i-ge16.false))
    ∙ ap (field_product c.args.factor) whole

pub returns-else-i-eq0 : goal.returns-else-i-eq0
returns-else-i-eq0 c =
    let half = c.args.i / 2 in
    let even : (c.args.i - 1) % 16 ≡ half * 2 = omega (arith, c.if-i-ge16.false, c.if-i-eq0.false) in
    let whole : half * 2 + 1 ≡ c.args.i % 16 = omega (arith, c.if-i-ge16.false, c.if-i-eq0.false) in
    ap (λ t. bit_xor t c.args.factor) (c.requires.before (c.args.i - 1) (omega (arith, c.requires.from)) ∙ ap (field_product c.args.factor) even)
    ∙ odd_product c.args.factor half c.ranges.factor.fits
    ∙ ap (field_product c.args.factor) whole
