use Rattle.ec_files.proofs.PlanLemmas.{all_below_16, listed_below, data_below, plan_if, decides_if, listed_if, decided}
use Rattle.ec_files.proofs.decoding.read_set.Goals as goal

pub set_of-given-requires : goal.set_of-given-requires
set_of-given-requires g c =
    let code = (goal.Code-dyn g c.args.code.now).meaning c.args.code.now.1 in
    all_below_16 code.n c.args.listed.now c.data_set-data.ensures.is_code.few c.requires

pub plan-requires-clause-avail : goal.plan-requires-clause-avail
plan-requires-clause-avail g c =
    let code = (goal.Code-dyn g c.args.code.now).meaning c.args.code.now.1 in
    listed_below code.n c.args.listed.now c.set_of-given.result.0 c.requires c.set_of-given.ensures

pub plan-requires-clause-wanted : goal.plan-requires-clause-wanted
plan-requires-clause-wanted g c =
    let code = (goal.Code-dyn g c.args.code.now).meaning c.args.code.now.1 in
    data_below code c.data_set-data.result.0 c.data_set-data.ensures.is_code c.data_set-data.ensures.value

pub returns-clause-some : goal.returns-clause-some
returns-clause-some g c =
    let code = (goal.Code-dyn g c.args.code.now).meaning c.args.code.now.1 in
    plan_if code c.args.listed.now c.set_of-given.result c.data_set-data.result c.plan.result c.set_of-given.ensures c.data_set-data.ensures.value c.plan.ensures.itself c.plan.ensures.least

pub returns-clause-decides : goal.returns-clause-decides
returns-clause-decides g c =
    let code = (goal.Code-dyn g c.args.code.now).meaning c.args.code.now.1 in
    decides_if code c.set_of-given.result.0 c.data_set-data.result.0 c.plan.result c.data_set-data.ensures.is_code c.data_set-data.ensures.value c.plan.ensures.some

pub returns-clause-listed : goal.returns-clause-listed
returns-clause-listed g c =
    let code = (goal.Code-dyn g c.args.code.now).meaning c.args.code.now.1 in
    listed_if code c.args.listed.now c.set_of-given.result.0 c.data_set-data.result.0 c.plan.result c.set_of-given.ensures c.plan.ensures.some

pub returns-clause-none : goal.returns-clause-none
returns-clause-none g c =
    let code = (goal.Code-dyn g c.args.code.now).meaning c.args.code.now.1 in
    let both = decided code c.args.listed.now c.set_of-given.result.0 c.data_set-data.result.0 c.data_set-data.ensures.is_code c.set_of-given.ensures c.data_set-data.ensures.value in
    (λ none decide. c.plan.ensures.none.0 none (both.0 decide), λ never. c.plan.ensures.none.1 (λ decides. never (both.1 decides)))
