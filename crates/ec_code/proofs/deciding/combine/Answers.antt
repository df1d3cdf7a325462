use Rattle.std.proofs.Common.{◌≡◌, refl, arith, false, true}
use Rattle.ec_code.proofs.DecidingLemmas.{combines_by, decides_by, undecided_by}
use Rattle.ec_code.proofs.deciding.combine.Goals as goal

pub returns-in-Coefficients-clause-value : goal.returns-in-Coefficients-clause-value
returns-in-Coefficients-clause-value g c =
    combines_by ((goal.Code-dyn g c.args.code.now).meaning c.args.code.now.1) c.args.from.0 c.args.p c.chosen.result c.row_of.result c.in-Coefficients.coefficients c.masked.result
    c.chosen.ensures.is_code.few c.chosen.ensures.value c.row_of.ensures.inside (c.solve.ensures.combines c.in-Coefficients.coefficients c.in-Coefficients.is) c.masked.ensures

pub returns-in-Coefficients-clause-some : goal.returns-in-Coefficients-clause-some
returns-in-Coefficients-clause-some g c = (
  λ _. decides_by ((goal.Code-dyn g c.args.code.now).meaning c.args.code.now.1) c.args.from.0 c.args.p c.masked.result
      c.chosen.ensures.is_code.few
      (combines_by ((goal.Code-dyn g c.args.code.now).meaning c.args.code.now.1) c.args.from.0 c.args.p c.chosen.result c.row_of.result c.in-Coefficients.coefficients c.masked.result
      c.chosen.ensures.is_code.few c.chosen.ensures.value c.row_of.ensures.inside (c.solve.ensures.combines c.in-Coefficients.coefficients c.in-Coefficients.is) c.masked.ensures),
  λ _. refl,
)

pub returns-in-Separates-clause-some : goal.returns-in-Separates-clause-some
returns-in-Separates-clause-some g c = (
  λ e. absurd (never e),
  λ decides. absurd (undecided_by ((goal.Code-dyn g c.args.code.now).meaning c.args.code.now.1) c.args.from.0 c.args.p c.chosen.result c.row_of.result c.in-Separates.field-0
      (omega (arith, c.chosen.ensures.is_code.few, c.chosen.ensures.is_code.as_many)) c.chosen.ensures.value c.row_of.ensures.inside (c.solve.ensures.tells_apart c.in-Separates.field-0 c.in-Separates.is) decides),
)
  where
    never : false ≡ true → ⊥
    never e = cc
