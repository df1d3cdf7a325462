use Rattle.std.proofs.Common.{◌<◌, ◌^◌, ℕ, refl, subst}
use Rattle.codes_tests.proofs.stripes.decoded.Goals as goal

pub decode_object-requires-clause-below : goal.decode_object-requires-clause-below
decode_object-requires-clause-below g c = record {
  mask = c.mask.result.0;
  is_theirs = c.mask.ensures.value;
  below = subst (λ (n : ℕ). c.mask.result.0 < 2 ^ n) c.shape-shape.ensures.0.same_n (c.if-not-lies_below.ensures.0 refl);
}
