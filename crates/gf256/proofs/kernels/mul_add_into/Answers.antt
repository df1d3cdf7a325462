use Rattle.std.proofs.Common.{◌<◌, ◌^◌, sym, ap, ◌∙◌, get_or, bit_xor, arith}
use Rattle.std.specs.Int.Bits.{xor_zero_r}
use Rattle.std.proofs.Math.Nat.{mod-eq_of_lt}
use Rattle.ec_model.specs.Field.{field_product}
use Rattle.gf256.proofs.FieldLemmas.{zero-field_product, one-field_product}
use Rattle.gf256.proofs.kernels.mul_add_into.Goals as goal

pub returns-in-0 : goal.returns-in-0
returns-in-0 c = λ i inside. sym (ap (bit_xor (get_or c.args.to.now i 0)) (ap (λ a. field_product a (get_or c.args.from.now i 0)) c.in-0.is ∙ zero-field_product (get_or c.args.from.now i 0)) ∙ xor_zero_r (get_or c.args.to.now i 0))

pub returns-in-1 : goal.returns-in-1
returns-in-1 c = λ i inside.
    c.add_into.ensures i inside
    ∙ ap (bit_xor (get_or c.args.to.now i 0)) (let byte : get_or c.args.from.now i 0 < 2 ^ 8 = omega (arith, c.type_inv.from i) in sym (one-field_product (get_or c.args.from.now i 0) ∙ mod-eq_of_lt byte))
    ∙ ap (λ a. bit_xor (get_or c.args.to.now i 0) (field_product a (get_or c.args.from.now i 0))) (sym c.in-1.is)
