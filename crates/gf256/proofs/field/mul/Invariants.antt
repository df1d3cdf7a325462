use Rattle.std.proofs.Common.{◌≡◌, ◌^◌, ◌<◌, ◌%◌}
use Rattle.ec_model.specs.Field.{field_product}
use Rattle.gf256.proofs.field.mul.Given as goal

abbrev pub invariant-loop-i : goal.invariant-loop-i
invariant-loop-i l = (l.i < 8 → l.term ≡ field_product l.a (2 ^ l.i)) × (l.sum ≡ field_product l.a (l.b % 2 ^ l.i))
