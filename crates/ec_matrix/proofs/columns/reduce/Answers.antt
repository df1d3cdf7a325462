use Rattle.std.proofs.Common.{◌≡◌, ◌∙◌, ap, sym, arith, ◌<◌, length}
use Rattle.ec_model.specs.Field.{field_product}
use Rattle.ec_model.specs.Rows.{row_at}
use Rattle.ec_matrix.proofs.ColumnLemmas.{reduced_by, cleared_by}
use Rattle.ec_matrix.proofs.columns.reduce.Goals as goal

pub returns-in-Some : goal.returns-in-Some
returns-in-Some c =
    let lt : c.in-Some.pivot < length c.args.columns.now = omega (arith, c.in-Some.ensures.place) in
    let long : length c.args.owners.now ≡ 16 = omega arith in
    reduced_by c.args.rows.now c.args.columns.now c.clear.new.columns c.args.owners.now c.args.at c.in-Some.pivot c.inv-by.result
    c.requires.before c.in-Some.ensures.place long c.in-Some.ensures.free
    (cleared_by (row_at c.args.rows.now c.args.at) c.args.columns.now c.clear.new.columns c.scale.new.column c.in-Some.pivot c.inv-by.result lt
    (ap (λ t. field_product t c.inv-by.result) (sym c.product_of.ensures) ∙ c.inv-by.ensures.product)
    c.scale.ensures c.clear.ensures.pivot c.clear.ensures.others)
