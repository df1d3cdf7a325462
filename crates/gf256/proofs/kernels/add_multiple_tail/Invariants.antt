use Rattle.ec_model.specs.Field.{field_product}
use Rattle.gf256.specs.Kernels.{AddsWithin}
use Rattle.gf256.proofs.kernels.add_multiple_tail.Given as goal

abbrev pub invariant-loop-i : goal.invariant-loop-i
invariant-loop-i l = AddsWithin (field_product l.coef) l.start l.i l.fn.to l.from l.to
