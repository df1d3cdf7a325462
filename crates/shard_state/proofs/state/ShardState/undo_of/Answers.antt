use Rattle.std.proofs.Common.{◌<◌, length, get_or, map as each, sym, ap, ◌∙◌, arith}
use Rattle.std.proofs.lemmas.List.{length-map}
use Rattle.shard_state.specs.Records.{recorded, entry_in}
use Rattle.shard_state.specs.Sound.{logged_in}
use Rattle.shard_state.proofs.LogLemmas.{log_at}
use Rattle.shard_state.proofs.state.ShardState.undo_of.Goals as goal

pub returns : goal.returns
returns c = λ d.
    let items = c.self.inside.log.items in
    let r = c.index.result.now in
    let inside : c.args.i < length items =
    omega (arith, c.requires, ap (λ s. length s.state.log) c.self.view_is, length-map (each recorded items) logged_in, length-map items recorded) in
    let here = ap (λ s. get_or s.state.log c.args.i d) (sym c.self.view_is) ∙ log_at items c.args.i d r inside ∙ ap entry_in (sym c.index.ensures) in
    ap (λ n. n.undo) (sym here)
