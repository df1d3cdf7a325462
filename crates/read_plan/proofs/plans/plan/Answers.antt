use Rattle.read_plan.specs.Settling.{Settles}
use Rattle.read_plan.proofs.TableLemmas.{least_plan_if, plan_decides_if, below_if, settles_of_decides, none_if}
use Rattle.read_plan.proofs.plans.plan.Goals as goal

pub returns-then-decides-clause-some : goal.returns-then-decides-clause-some
returns-then-decides-clause-some g c =
    plan_decides_if ((goal.Code-dyn g c.args.code.now).meaning c.args.code.now.1) c.args.avail.0 c.args.wanted.0 c.least.result
    (least_plan_if ((goal.Code-dyn g c.args.code.now).meaning c.args.code.now.1) c.table.result c.table.ensures.is_code c.table.ensures.value c.args.avail.0 c.args.wanted.0 c.least.result c.requires.avail c.requires.wanted c.least.ensures.some)

pub returns-then-decides-clause-below : goal.returns-then-decides-clause-below
returns-then-decides-clause-below g c =
    below_if ((goal.Code-dyn g c.args.code.now).meaning c.args.code.now.1) c.args.avail.0 c.args.wanted.0 c.least.result c.requires.avail
    (least_plan_if ((goal.Code-dyn g c.args.code.now).meaning c.args.code.now.1) c.table.result c.table.ensures.is_code c.table.ensures.value c.args.avail.0 c.args.wanted.0 c.least.result c.requires.avail c.requires.wanted c.least.ensures.some)

pub returns-then-decides-clause-least : goal.returns-then-decides-clause-least
returns-then-decides-clause-least g c = λ _.
    least_plan_if ((goal.Code-dyn g c.args.code.now).meaning c.args.code.now.1) c.table.result c.table.ensures.is_code c.table.ensures.value c.args.avail.0 c.args.wanted.0 c.least.result c.requires.avail c.requires.wanted c.least.ensures.some

pub returns-then-decides-clause-none : goal.returns-then-decides-clause-none
returns-then-decides-clause-none g c = (
  λ none decides.
      none_if (Settles c.table.result c.args.avail.0 c.args.wanted.0 → ⊥) c.least.result none c.least.ensures.none
      (settles_of_decides ((goal.Code-dyn g c.args.code.now).meaning c.args.code.now.1) c.table.result c.table.ensures.is_code c.table.ensures.value c.args.avail.0 c.args.wanted.0 c.requires.wanted decides),
  λ undecided. absurd (undecided (c.decides.ensures.0 c.if-decides.true)),
)
