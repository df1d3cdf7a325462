use Rattle.std.proofs.Common.{◌≡◌, min, ap, ◌∙◌, arith}
use Rattle.shard_model.specs.Listings.{usage}
use Rattle.shard_state.specs.Places.{inside}
use Rattle.shard_state.specs.Totals.{most}
use Rattle.shard_state.proofs.TotalsLemmas.{used_is}
use Rattle.shard_state.proofs.places.Places.usage.Goals as goal

pub returns-then-self-from : goal.returns-then-self-from
returns-then-self-from c =
    let used : min c.self.inside.totals.used most ≡ min (usage (inside c.args.self.now)) most = used_is _ _ _ c.self.invariant ∙ ap (λ m. min (usage (inside m)) most) c.self.view_is in
    omega (arith, used, c.if-self-from.true, c.from.ensures)

pub returns-else-self-from : goal.returns-else-self-from
returns-else-self-from c =
    let used : min c.self.inside.totals.used most ≡ min (usage (inside c.args.self.now)) most = used_is _ _ _ c.self.invariant ∙ ap (λ m. min (usage (inside m)) most) c.self.view_is in
    omega (arith, used, c.if-self-from.false, c.from.ensures)
