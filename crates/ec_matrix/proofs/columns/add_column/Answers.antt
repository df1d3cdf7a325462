use Rattle.std.proofs.Common.{arith, ◌<◌, length, get_or-set_same}
use Rattle.ec_matrix.specs.Columns.{column_at}
use Rattle.ec_matrix.proofs.SumLaws.{dot_of_sum}
use Rattle.ec_matrix.proofs.columns.add_column.Goals as goal

pub returns-clause-sums : goal.returns-clause-sums
returns-clause-sums c = λ x.
    let lt : c.args.i < length c.args.columns.now = omega arith in
    rw get_or-set_same (dot_of_sum 16 c.args.by x (column_at c.args.columns.now c.args.i) (column_at c.args.columns.now c.args.pivot) c.add_times.new.column c.add_times.ensures)
