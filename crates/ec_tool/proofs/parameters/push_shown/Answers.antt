use Rattle.std.proofs.Common.{◌≡◌, ◌++◌, List, ℕ, OnOk, length, sym, subst, arith}
use Rattle.ec_model.specs.Codes.{CodeRows}
use Rattle.ec_code.specs.Shapes.{HasShape}
use Rattle.ec_tool.specs.Parameters.{parameters_text}
use Rattle.ec_tool.proofs.ParameterLemmas.{no_texts}
use Rattle.ec_tool.proofs.parameters.push_shown.Goals as goal

pub returns-then-is_empty : goal.returns-then-is_empty
returns-then-is_empty c =
    let none : length c.args.parameters.now ≡ 0 = grind (arith, c.is_empty.ensures, c.if-is_empty.true) in
    subst (λ (t : List (List ℕ)). OnOk c.push_all.result ((code : CodeRows) → HasShape code c.args.shape.k c.args.shape.n c.args.shape.lead
    → c.push_all.new.list.items ≡ c.args.list.now.items ++ parameters_text code t)) (sym (no_texts c.args.parameters.now none)) c.push_all.ensures
