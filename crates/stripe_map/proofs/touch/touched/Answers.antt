use Rattle.std.proofs.Common.{◌<◌, ◌*◌, arith}
use Rattle.stripe_map.proofs.TouchLemmas.{first_to_last-IsTouched, count_below_len}
use Rattle.stripe_map.proofs.touch.touched.Goals as goal

pub overflow_cast-result-2 : goal.overflow_cast-result-2
overflow_cast-result-2 c =
    let pos : 0 < c.args.g.k * c.args.g.unit = grind (arith, c.args.g.some_chunks, c.args.g.some_bytes) in
    rw (c.from.ensures, c.from-2.ensures, c.from-3.ensures, c.from-4.ensures, c.from-5.ensures)
    (omega (arith, count_below_len (c.args.g.k * c.args.g.unit) c.args.off c.args.len pos (omega arith)))

pub returns-clause-value : goal.returns-clause-value
returns-clause-value c =
    let pos : 0 < c.args.g.k * c.args.g.unit = grind (arith, c.args.g.some_chunks, c.args.g.some_bytes) in
    rw (c.from.ensures, c.from-2.ensures, c.from-3.ensures, c.from-4.ensures, c.from-5.ensures)
    (first_to_last-IsTouched (c.args.g.k * c.args.g.unit) c.args.off c.args.len pos (omega arith))
