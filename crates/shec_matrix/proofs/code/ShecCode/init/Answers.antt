use Rattle.std.proofs.Common.{◌+◌, arith}
use Rattle.ec_code.proofs.ShecLemmas.{shec_by_name, shec_code_by, shec_promise_by}
use Rattle.rs_van.specs.Systematic.{systematic}
use Rattle.rs_van.proofs.SystematicLemmas.{code_of_rows}
use Rattle.shec_matrix.proofs.ShecRowLemmas.{shec_of}
use Rattle.shec_matrix.proofs.code.ShecCode.init.Goals as goal

pub invariant_of-self : goal.invariant_of-self
invariant_of-self c = record {
  is_code = code_of_rows c.in_ok-counts.counts.k (c.in_ok-counts.counts.k + c.in_ok-counts.counts.m) c.rows_of-rows.result c.read_rows.ensures c.in_ok-counts.counts.some_data (omega arith) c.in_ok-counts.counts.few c.rows_of-rows.ensures.units;
}

pub returns-clause-made : goal.returns-clause-made
returns-clause-made c = λ _.
    shec_code_by c.args.profile.now (shec_by_name c.args.profile.now.plugin c.requires) (systematic c.in_ok-counts.counts.k (c.in_ok-counts.counts.k + c.in_ok-counts.counts.m) c.rows_of-rows.result)
    c.in_ok-counts.counts.k c.in_ok-counts.counts.m c.in_ok-counts.counts.c c.in_ok-counts.ensures.numbers.0 c.in_ok-counts.ensures.numbers.1 c.in_ok-counts.ensures.numbers.2
    (shec_of c.in_ok-counts.counts.k c.in_ok-counts.counts.m c.in_ok-counts.counts.c c.rows_of-rows.result c.rows_of-rows.ensures.units c.rows_of-rows.ensures.coding)

pub returns-clause-promise : goal.returns-clause-promise
returns-clause-promise c = λ _.
    shec_promise_by c.args.profile.now.plugin (shec_by_name c.args.profile.now.plugin c.requires) (systematic c.in_ok-counts.counts.k (c.in_ok-counts.counts.k + c.in_ok-counts.counts.m) c.rows_of-rows.result)
