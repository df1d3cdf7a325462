use Rattle.std.proofs.Common.{◌+◌, ◌∷◌, ◌++◌, take, drop, cond, ◌∙◌, sym, ap, rules}
use Rattle.shard_state.proofs.AttrLemmas.{set_parts, has_room}
use Rattle.shard_state.proofs.attrs.give_pair.Goals as goal

pub returns-then-found : goal.returns-then-found
returns-then-found c =
    let list = c.args.list.now.items in
    let i = c.spot-i.result.0 in
    set_parts list i (c.args.name, c.args.value) (c.spot-i.ensures.inside c.if-found.true)
    ∙ ap (λ b. take i list ++ (c.args.name, c.args.value) ∷ drop (cond b (i + 1) i) list) (sym c.if-found.true)
    ∙ sym (c.spot-i.ensures.put c.args.value)

pub unreachable-requires : goal.unreachable-requires
unreachable-requires c =
    let room = has_room c.args.name c.args.list.now.items c.spot-i.result.0 c.spot-i.result.1 c.args.spare c.spot-i.ensures c.if-found.false c.requires.room in
    let empty = c.spare.invariant in
    let is = c.spare.view_is in
    let full = c.in-Err.ensures.full in
    search rules

pub unreachable-requires-in-Err-insert : goal.unreachable-requires-in-Err-insert
unreachable-requires-in-Err-insert c =
    let room = has_room c.args.name c.args.list.now.items c.spot-i.result.0 c.spot-i.result.1 c.args.spare c.spot-i.ensures c.if-found.false c.requires.room in
    let empty = c.spare.invariant in
    let is = c.spare.view_is in
    let full = c.in-Err-insert.ensures.full in
    let grown = c.in-Ok.ensures.capacity in
    let long = c.in-Ok.ensures.len in
    search rules
