use Rattle.std.proofs.Common.{arith, length, ◌≤◌, ◌*◌}
use Rattle.std.proofs.lemmas.Nat.{mul-le}
use Rattle.ec_code.proofs.EncodeLemmas.{next_chunk}
use Rattle.ec_code.proofs.encode.encode_rows.Goals as goal

pub loop-p-preserved : goal.loop-p-preserved
loop-p-preserved c =
    let room : c.loop-p.p * c.args.unit ≤ length c.loop-p.out = omega (arith, mul-le c.loop-p.p c.args.unit c.args.n c.args.unit (omega arith) (omega arith)) in
    next_chunk c.args.k c.args.unit c.loop-p.p c.args.rows.now c.args.stripe.now c.loop-p.out c.encode_chunk.new.chunk room (omega arith) c.loop-p.invariant c.encode_chunk.ensures
