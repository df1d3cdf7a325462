use Rattle.std.proofs.Common.{◌<◌, ℕ, slice_index}
use Rattle.ec_model.specs.Codes.{DecidesOne}
use Rattle.stripe_map.proofs.decoding.decides_data.Given as goal

abbrev pub invariant-loop-j : goal.invariant-loop-j
invariant-loop-j g l =
    let code = (goal.Code-dyn g l.code.now).meaning l.code.now.1 in
    (j : ℕ) → j < l.j → DecidesOne code l.from.0 (slice_index code.places j)
