-- What layers above cite: the laws of the field.
pub use Rattle.gf256.proofs.FieldLemmas.{field_product_comm, field_product_assoc, field_product-sum, sum-field_product, field_product-lt, field_product-zero, zero-field_product, one-field_product, field_product_low_left, field_product_low_right}
pub use Rattle.gf256.proofs.InverseLemmas.{field_product-one, inverse_only, no_zero_divisor}
