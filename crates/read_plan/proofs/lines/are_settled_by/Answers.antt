use Rattle.read_plan.proofs.SettlingLemmas.{settled_by_zero, settled_by}
use Rattle.read_plan.proofs.lines.are_settled_by.Goals as goal

pub returns-in-None : goal.returns-in-None
returns-in-None c = λ one w.
    let same = settled_by_zero c.args.rows.now c.args.q c.args.set.0 one c.in-None.ensures.none w in
    (λ e. same.0 (c.are_settled.ensures.0 e), λ settles. c.are_settled.ensures.1 (same.1 settles))

pub returns-in-Some : goal.returns-in-Some
returns-in-Some c = λ one w.
    settled_by c.args.rows.now c.args.q c.in-Some.lead c.inv.result c.args.set.0 one c.all_vanish.result c.requires c.in-Some.ensures.place c.inv.ensures.product c.all_vanish.ensures w
