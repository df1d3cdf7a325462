use Rattle.gf256.specs.declared.inverses.TheConstants.{INVERSES}
use Rattle.std.specs.Prelude.{slice_index_or}
use Rattle.gf256.proofs.FieldLemmas.{field_product_comm, field_product_assoc, field_product-sum, field_product-lt, field_product-zero}
use Rattle.gf256.proofs.InverseLemmas.{field_product-one, inverse_in_table}
use Rattle.gf256.proofs.laws.bytes_are_a_field.Goals as goal

pub returns : goal.returns
returns c = record {
  byte = field_product-lt;
  commutative = field_product_comm;
  associative = field_product_assoc;
  distributive = field_product-sum;
  one = field_product-one;
  zero = field_product-zero;
  inverse = λ a some byte. (slice_index_or INVERSES a 0, inverse_in_table a some byte);
}
