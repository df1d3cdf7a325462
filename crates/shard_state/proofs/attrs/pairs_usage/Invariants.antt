use Rattle.std.proofs.Common.{◌≡◌, min, take}
use Rattle.std.specs.List.{sum_by}
use Rattle.shard_model.specs.Listings.{attr_usage}
use Rattle.shard_state.specs.Totals.{most}
use Rattle.shard_state.proofs.attrs.pairs_usage.Given as goal

abbrev pub invariant-loop-i : goal.invariant-loop-i
invariant-loop-i l = l.sum ≡ min (sum_by attr_usage (take l.i l.list)) most
