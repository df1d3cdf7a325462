use Rattle.std.proofs.Common.{◌∙◌, ap}
use Rattle.ec_model.specs.Field.{field_product}
use Rattle.gf256.proofs.FieldLemmas.{field_product_assoc, field_product_comm}
use Rattle.gf256.proofs.InverseLemmas.{field_product-one}
use Rattle.gf256.proofs.field.div.Goals as goal

pub returns : goal.returns
returns c =
    ap (λ t. field_product t c.args.b) c.mul.ensures
    ∙ field_product_assoc c.args.a c.inv.result c.args.b
    ∙ ap (λ t. field_product c.args.a t) (field_product_comm c.inv.result c.args.b ∙ c.inv.ensures.product)
    ∙ field_product-one c.args.a c.ranges.a.fits
