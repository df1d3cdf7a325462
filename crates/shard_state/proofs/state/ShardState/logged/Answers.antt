use Rattle.std.proofs.Common.{◌<◌, length, get_or, sym, ap, ◌∙◌, rules}
use Rattle.shard_state.specs.EntryMeanings.{logged_of}
use Rattle.shard_state.specs.Records.{entry_in}
use Rattle.shard_state.proofs.LogLemmas.{log_at}
use Rattle.shard_state.proofs.state.ShardState.logged.Goals as goal

pub returns-then-i-len-clause-value : goal.returns-then-i-len-clause-value
returns-then-i-len-clause-value c = λ d.
    let items = c.self.inside.log.items in
    let r = c.index.result.now in
    let inside : c.args.i < length items = search rules in
    let here = ap (λ s. get_or s.state.log c.args.i d) (sym c.self.view_is) ∙ log_at items c.args.i d r inside ∙ ap entry_in (sym c.index.ensures) in
    ap (λ n. logged_of r.entry.what n.undo) here ∙ sym here
