use Rattle.std.proofs.Common.{◌∙◌, length-set, arith}
use Rattle.shec_matrix.proofs.ShecRowLemmas.{one_more}
use Rattle.shec_matrix.proofs.rows.coding_row.Goals as goal

pub loop-j-preserved : goal.loop-j-preserved
loop-j-preserved c = (
  length-set c.loop-j.row c.loop-j.j c.shec_entry.result ∙ c.loop-j.invariant.0,
  one_more c.args.k c.args.m c.args.c c.args.r c.loop-j.row c.loop-j.j c.shec_entry.result (omega arith) c.loop-j.invariant.1 c.shec_entry.ensures,
)
