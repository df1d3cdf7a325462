use Rattle.std.proofs.Common.{arith}
use Rattle.ec_matrix.proofs.MatrixLemmas.{product_is_matrix, product_entry}
use Rattle.ec_matrix.proofs.matrix.Mat.product.Goals as goal

pub invariant_of-result : goal.invariant_of-result
invariant_of-result c =
    product_is_matrix (record { height = c.self.inside.height; width = c.self.inside.width; rows = c.self.inside.rows })
    (record { height = c.other.inside.height; width = c.other.inside.width; rows = c.other.inside.rows }) c.loop-r.rows
    (record {
      left = c.self.invariant;
      right = c.other.invariant;
      count = c.loop-r.invariant.count;
      long = λ r lt. c.loop-r.invariant.long r (omega arith);
      sums = λ r k lt lk. c.loop-r.invariant.sums r k (omega arith) lk;
    })

pub returns-clause-entries : goal.returns-clause-entries
returns-clause-entries c = λ r k.
    rw (← c.self.view_is, ← c.other.view_is)
    (product_entry (record { height = c.self.inside.height; width = c.self.inside.width; rows = c.self.inside.rows })
    (record { height = c.other.inside.height; width = c.other.inside.width; rows = c.other.inside.rows }) c.loop-r.rows
    (record {
      left = c.self.invariant;
      right = c.other.invariant;
      count = c.loop-r.invariant.count;
      long = λ r lt. c.loop-r.invariant.long r (omega arith);
      sums = λ r k lt lk. c.loop-r.invariant.sums r k (omega arith) lk;
    }) r k)
