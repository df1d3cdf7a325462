use Rattle.std.proofs.Common.{◌≡◌, ◌∙◌, length, take, drop, rules, arith}
use Rattle.std.proofs.lemmas.List.{take_at}
use Rattle.slot_journal.proofs.PieceLemmas.{completed}
use Rattle.slot_journal.proofs.read.read_body.Goals as goal

pub returns-clause-value : goal.returns-clause-value
returns-clause-value g c there told within piece =
    let old = c.deref_mut.result.now in
    let known = c.args.known.now in
    let size : length old ≡ c.args.len = search rules in
    let front : take (length known) old ≡ known = search rules in
    let long : length c.fill_behind.new.body ≡ c.in_ok-body.body.len = search rules in
    let shape = c.of.ensures ∙ take_at c.fill_behind.new.body (drop (length c.fill_behind.new.body) c.in_ok-body.body.items) c.in_ok-body.body.len long in
    let fresh = c.in_ok-n.ensures.value there told (omega (arith, size, within)) in
    completed there c.args.at c.args.len known old c.of.result (omega (arith, c.if-known-len.false)) piece size front (shape ∙ fresh)
