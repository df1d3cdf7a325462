use Rattle.ec_model.specs.Rows.{row_at}
use Rattle.read_plan.proofs.SettlingLemmas.{taken_of_zero, taken_by, less_by_scaled}
use Rattle.read_plan.proofs.lines.taken.Goals as goal

pub returns-in-None : goal.returns-in-None
returns-in-None c = taken_of_zero c.args.rows.now c.args.q c.args.needed.0 c.in-None.ensures.none

pub returns-in-Some : goal.returns-in-Some
returns-in-Some c =
    taken_by c.args.rows.now c.args.q c.in-Some.lead c.inv-by.result c.args.needed.0 c.all_reduced.result c.requires c.in-Some.ensures.place c.inv-by.ensures.product
    (λ p lt has. less_by_scaled (row_at c.args.rows.now p) (row_at c.args.rows.now c.args.q) c.scaled.result (row_at c.all_reduced.result p) c.in-Some.lead c.inv-by.result c.scaled.ensures (λ j lj. c.all_reduced.ensures p j lt lj has))
