use Rattle.std.proofs.Common.{◌+◌, arith}
use Rattle.ec_code.proofs.RefusalLemmas.{code_by, promise_by, jerasure_by_name}
use Rattle.rs_van.specs.Systematic.{systematic}
use Rattle.rs_van.proofs.AnyKLemmas.{any_k_decide_all}
use Rattle.rs_van.proofs.SystematicLemmas.{code_of_rows, reed_sol_van_of}
use Rattle.rs_van.proofs.code.RsVanCode.init.Goals as goal

pub invariant_of-self : goal.invariant_of-self
invariant_of-self c = record {
  is_code = code_of_rows c.in_ok-counts.counts.k (c.in_ok-counts.counts.k + c.in_ok-counts.counts.m) c.rows_of-rows.result c.read_rows.ensures (omega (arith, c.in_ok-counts.counts.some_data)) (omega arith) c.in_ok-counts.counts.few c.rows_of-rows.ensures.units;
}

pub returns-clause-made : goal.returns-clause-made
returns-clause-made c = λ _.
    code_by c.args.profile.now (jerasure_by_name c.args.profile.now.plugin c.requires) (systematic c.in_ok-counts.counts.k (c.in_ok-counts.counts.k + c.in_ok-counts.counts.m) c.rows_of-rows.result)
    c.in_ok-counts.counts.k c.in_ok-counts.counts.m c.in_ok-counts.ensures.numbers.0 c.in_ok-counts.ensures.numbers.1
    (reed_sol_van_of c.in_ok-counts.counts.k c.in_ok-counts.counts.m c.rows_of-rows.result c.rows_of-rows.ensures.units c.rows_of-rows.ensures.coding)

pub returns-clause-promise : goal.returns-clause-promise
returns-clause-promise c = λ _.
    promise_by c.args.profile.now.plugin (jerasure_by_name c.args.profile.now.plugin c.requires) (systematic c.in_ok-counts.counts.k (c.in_ok-counts.counts.k + c.in_ok-counts.counts.m) c.rows_of-rows.result)
    (any_k_decide_all c.in_ok-counts.counts.k c.in_ok-counts.counts.m (systematic c.in_ok-counts.counts.k (c.in_ok-counts.counts.k + c.in_ok-counts.counts.m) c.rows_of-rows.result)
    c.in_ok-counts.counts.some_data c.in_ok-counts.counts.some_coding c.in_ok-counts.counts.few
    (reed_sol_van_of c.in_ok-counts.counts.k c.in_ok-counts.counts.m c.rows_of-rows.result c.rows_of-rows.ensures.units c.rows_of-rows.ensures.coding))
