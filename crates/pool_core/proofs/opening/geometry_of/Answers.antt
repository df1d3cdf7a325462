use Rattle.std.proofs.Common.{arith}
use Rattle.pool_core.proofs.ProfileLemmas.{unit_lies}
use Rattle.pool_core.proofs.opening.geometry_of.Goals as goal

pub invariant_of-result : goal.invariant_of-result
invariant_of-result c =
    let unit = unit_lies c.args.profile.now c.requires.accepted in
    record { some_chunks = c.requires.some; some_bytes = omega (arith, unit.0); within_limit = unit.1 }
