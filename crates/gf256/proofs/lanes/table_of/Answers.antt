use Rattle.std.proofs.Common.{◌≡◌, refl, sym, arith}
use Rattle.gf256.proofs.FieldLemmas.{field_product-zero}
use Rattle.gf256.proofs.lanes.table_of.Goals as goal

pub loop-i-init : goal.loop-i-init
loop-i-init c = (refl, λ k lt. let first : k ≡ 0 = omega arith in rw first (sym (field_product-zero c.args.factor)))
