use Rattle.std.proofs.Common.{◌≡◌, ◌∙◌, ap, refl, arith, ◌<◌, slice_index, bit_xor}
use Rattle.ec_model.specs.Field.{field_product}
use Rattle.ec_model.specs.Rows.{row_at}
use Rattle.ec_matrix.proofs.CombinationLemmas.{left_at_first, left_at_some, left_at_none, left_byte, combined_at_last, zero_at}
use Rattle.ec_matrix.proofs.solution.coefficients.Goals as goal
use Rattle.ec_matrix.proofs.solution.coefficients.Goals.{in-Some, in-None}

pub loop-i-init : goal.loop-i-init
loop-i-init c = left_at_first c.args.rows.now c.args.columns.now c.args.owners.now c.args.height c.args.wanted.now _ refl (zero_at 16) c.requires.inside

pub loop-i-preserved : goal.loop-i-preserved
loop-i-preserved c = elim c.match-owners-i.branch [
  | in-Some w ↦
      let lt : w.in-Some.q < 16 = omega (arith, c.requires.reduced.bound c.loop-i.i w.in-Some.q c.loop-i-test.true w.in-Some.is, c.requires.few) in
      rw (w.coefficients-is, w.left-is, w.product_of-coefficient.ensures)
      (left_at_some c.args.rows.now c.args.columns.now c.args.owners.now c.args.height c.args.wanted.now c.loop-i.coefficients c.loop-i.left w.add_times.new.column c.loop-i.i w.in-Some.q
      c.requires.reduced c.loop-i-test.true lt c.loop-i.invariant w.in-Some.is
      (λ j hj. w.add_times.ensures j hj
      ∙ ap (λ t. bit_xor (slice_index c.loop-i.left j) (field_product t (slice_index (row_at c.args.rows.now w.in-Some.q) j))) w.product_of-coefficient.ensures))
  | in-None w ↦
      rw (w.coefficients-is, w.left-is)
      (left_at_none c.args.rows.now c.args.columns.now c.args.owners.now c.args.height c.args.wanted.now c.loop-i.coefficients c.loop-i.left c.loop-i.i c.loop-i.invariant w.in-None.is)
]

pub returns : goal.returns
returns c =
    let e : c.loop-i.i ≡ 16 = omega arith in
    let inv = rw e at c.loop-i.invariant in
    record {
      long = inv.long;
      bytes = inv.bytes;
      past = inv.past;
      makes = λ j hj.
          combined_at_last c.args.rows.now c.args.columns.now c.args.owners.now c.args.height c.args.wanted.now c.loop-i.coefficients c.loop-i.left c.requires.reduced inv j hj
          (left_byte c.args.rows.now c.args.columns.now c.args.owners.now c.args.height c.args.wanted.now c.loop-i.coefficients c.loop-i.left 16 inv j hj (c.fits-wanted j));
    }
