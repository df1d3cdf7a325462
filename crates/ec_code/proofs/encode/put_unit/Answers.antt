use Rattle.std.proofs.Common.{◌<◌, ◌+◌, ◌^◌, ◌∙◌, drop, get_or, sym, ap, arith}
use Rattle.std.proofs.lemmas.List.{get_or-take, get_or-drop}
use Rattle.std.proofs.Math.Nat.{mod-eq_of_lt}
use Rattle.ec_model.specs.Field.{field_product}
use Rattle.gf256.proofs.CallerLemmas.{one-field_product}
use Rattle.ec_code.proofs.encode.put_unit.Goals as goal

pub returns-then-coefficient-eq1 : goal.returns-then-coefficient-eq1
returns-then-coefficient-eq1 c = λ b lt.
    let byte : get_or c.args.stripe.now (c.args.at + b) 0 < 2 ^ 8 = omega (arith, c.type_inv.stripe (c.args.at + b)) in
    ap (λ t. get_or t b 0) c.copy_from_slice.ensures.after
    ∙ get_or-take _ (drop c.args.at c.args.stripe.now) b 0 (omega arith)
    ∙ get_or-drop c.args.at c.args.stripe.now b 0
    ∙ sym (one-field_product (get_or c.args.stripe.now (c.args.at + b) 0) ∙ mod-eq_of_lt byte)
    ∙ ap (λ a. field_product a (get_or c.args.stripe.now (c.args.at + b) 0)) (sym c.if-coefficient-eq1.true)
