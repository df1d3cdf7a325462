use Rattle.std.proofs.Common.{[], get_or, cond, ◌∙◌, sym, ap, Some, None}
use Rattle.shard_state.proofs.attrs.take_pair.Goals as goal

pub returns-then-not-found-clause-before : goal.returns-then-not-found-clause-before
returns-then-not-found-clause-before c =
    ap (λ b. cond b (Some (get_or c.args.list.now.items c.spot-i.result.0 ([], [])).1) None) (sym c.if-not-found.true)
    ∙ sym (c.spot-i.ensures.value ([], []))
