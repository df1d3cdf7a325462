use Rattle.std.proofs.Common.{◌∙◌, ◌%◌, ap, lit<}
use Rattle.std.proofs.Math.Nat.{mod-lt}
use Rattle.ec_model.specs.Field.{field_product}
use Rattle.gf256.proofs.NibbleLemmas.{high_product}
use Rattle.gf256.proofs.lanes.Multiples.new.Goals as goal

pub invariant_of-result : goal.invariant_of-result
invariant_of-result c = record {
  low_products = c.table_of-low.ensures;
  high_products = λ i lt.
      c.table_of-high.ensures i lt
      ∙ ap (λ t. field_product t (i % 16)) c.mul.ensures
      ∙ high_product c.args.coef (i % 16) (mod-lt i (lit< tt));
}
