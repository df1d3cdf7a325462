use Rattle.std.proofs.Common.{◌≡◌, ◌-◌, take, ap, ◌∙◌, length, rules}
use Rattle.shard_state.proofs.LogLemmas.{turned_and_cut}
use Rattle.shard_state.proofs.log.take_off.Goals as goal

pub returns : goal.returns
returns c =
    let old = c.args.log.now.items in
    let cut = c.args.cut in
    let long : c.len.result ≡ length old = search rules in
    c.truncate.ensures.items ∙ ap (λ xs. take (c.len.result - cut) xs) c.rotate_left.ensures.items ∙ turned_and_cut old cut c.len.result c.requires long
