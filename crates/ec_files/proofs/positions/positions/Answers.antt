use Rattle.std.proofs.Common.{◌<◌, ◌++◌, [], ◌∷◌, length, get_or, ap, sym, ◌∙◌, arith}
use Rattle.std.proofs.lemmas.List.{take_more}
use Rattle.std.proofs.lemmas.List.Elements.{All-more}
use Rattle.ec_files.proofs.positions.positions.Goals as goal

pub loop-p-preserved : goal.loop-p-preserved
loop-p-preserved c =
    let lt : c.loop-p.p-index < length c.args.wanted.now = omega arith in (
      c.in_ok-push.ensures.items ∙ ap (λ l. l ++ get_or c.args.wanted.now c.loop-p.p-index 0 ∷ []) c.loop-p.invariant.0 ∙ sym (take_more c.args.wanted.now c.loop-p.p-index 0 lt),
      All-more (λ p. p < c.args.n) c.args.wanted.now c.loop-p.p-index 0 lt c.loop-p.invariant.1 (omega arith),
    )
