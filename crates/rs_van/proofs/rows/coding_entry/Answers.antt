use Rattle.std.proofs.Common.{◌∙◌, sym, arith, ◌+◌, ◌<◌, ◌^◌, bit_xor}
use Rattle.std.proofs.Math.Nat.{mod-eq_of_lt}
use Rattle.std.proofs.lemmas.Nat.{xor_lt}
use Rattle.gf256.proofs.CallerLemmas.{no_zero_divisor}
use Rattle.rs_van.proofs.PolynomialLemmas.{equal_from_sum}
use Rattle.rs_van.proofs.rows.coding_entry.Goals as goal

pub div-requires-else-r-m : goal.div-requires-else-r-m
div-requires-else-r-m c = λ e.
    let small : bit_xor (c.args.k + c.args.r) c.args.j < 2 ^ 8 = xor_lt 8 (c.args.k + c.args.r) c.args.j (omega arith) (omega arith) in
    let z = no_zero_divisor c.args.k (bit_xor (c.args.k + c.args.r) c.args.j) (λ q. omega arith) (omega arith) (sym c.mul-else-r-m.ensures ∙ e) in
    let same = equal_from_sum (c.args.k + c.args.r) c.args.j (sym (mod-eq_of_lt small) ∙ z) in
    omega arith
