use Rattle.std.proofs.Common.{◌*◌}
use Rattle.ec_model.specs.Field.{field_product}
use Rattle.gf256.specs.Kernels.{AddsWithin}
use Rattle.gf256.proofs.kernels.add_multiple_blocks.Given as goal

abbrev pub invariant-loop-block : goal.invariant-loop-block
invariant-loop-block l = AddsWithin (field_product l.multiples.coef) 0 (l.block * 32) l.fn.to l.from l.to
