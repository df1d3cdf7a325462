use Rattle.std.proofs.Common.{◌+◌, ◌∷◌, ◌++◌, [], take, drop, get_or, cond, ◌∙◌, sym, ap, Some, None}
use Rattle.shard_state.proofs.AttrLemmas.{set_parts}
use Rattle.std.proofs.Common.{slice_set}
use Rattle.shard_state.proofs.attrs.put_pair.Goals as goal

pub returns-then-found-clause-ok : goal.returns-then-found-clause-ok
returns-then-found-clause-ok c =
    let list = c.args.list.now.items in
    let i = c.spot-i.result.0 in
    ap (slice_set list i) c.replace-before.ensures.after
    ∙ set_parts list i (c.args.name, c.args.value) (c.spot-i.ensures.inside c.if-found.true)
    ∙ ap (λ b. take i list ++ (c.args.name, c.args.value) ∷ drop (cond b (i + 1) i) list) (sym c.if-found.true)
    ∙ sym (c.spot-i.ensures.put c.args.value)

pub returns-clause-before : goal.returns-clause-before
returns-clause-before c =
    ap (λ b. cond b (Some (get_or c.args.list.now.items c.spot-i.result.0 ([], [])).1) None) (sym c.if-found.false)
    ∙ sym (c.spot-i.ensures.value ([], []))
