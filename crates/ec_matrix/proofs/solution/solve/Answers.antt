use Rattle.std.proofs.Common.{◌≡◌, arith, subst, List, ℕ}
use Rattle.ec_matrix.specs.Solution.{TellsApart}
use Rattle.ec_matrix.proofs.ColumnLemmas.{reduced_at_first}
use Rattle.ec_matrix.proofs.SolutionLemmas.{told_apart}
use Rattle.ec_matrix.proofs.solution.solve.Goals as goal

pub loop-at-init : goal.loop-at-init
loop-at-init c = reduced_at_first c.lines-lines.result.now c.unit_columns-columns.result c.unit_columns-columns.ensures

pub returns-in-Some-clause-tells_apart : goal.returns-in-Some-clause-tells_apart
returns-in-Some-clause-tells_apart c = λ d e.
    let same : c.front.result ≡ d = cc in
    let all : c.loop-at.at ≡ c.args.rows.now.height = omega (arith, c.rows-height.ensures.value, c.rows-height.ensures.few) in
    let P : List ℕ → Type 0 = λ t. TellsApart c.args.rows.now c.args.wanted.now t in
    subst P same
    (told_apart c.args.rows.now c.loop-at.columns c.loop-at.owners c.args.wanted.now c.front-inside.result c.front.result c.in-Some.place
    c.lines-lines.ensures.whole (rw (c.lines-lines.ensures.value, all) at c.loop-at.invariant) c.in-Some.ensures.place c.in-Some.ensures.free c.in-Some.ensures.nonzero
    (rw c.cols-width.ensures.value at c.front-inside.ensures)
    (rw c.cols-width.ensures.value at c.front.ensures))
