use Rattle.std.proofs.Common.{◌∙◌, ap}
use Rattle.std.proofs.lemmas.Simd.{get_or-chunk}
use Rattle.ec_model.specs.Field.{field_product}
use Rattle.gf256.proofs.NibbleLemmas.{block_sums}
use Rattle.gf256.proofs.lanes.add_multiple_block.Goals as goal

pub returns : goal.returns
returns c =
    let coef = c.args.multiples.now.coef in
    block_sums (field_product coef) c.args.at c.args.to.now c.args.from.now c.of-products.result c.requires.to c.of-products.ensures.long
    (λ k inside. c.of-products.ensures.products k inside ∙ ap (field_product coef) (get_or-chunk c.args.at 32 c.args.from.now k 0 inside))
