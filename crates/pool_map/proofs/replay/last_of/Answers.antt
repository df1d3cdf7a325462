use Rattle.std.proofs.Common.{◌∙◌, sym}
use Rattle.map_model.proofs.LastLemmas.{last_is}
use Rattle.pool_map.proofs.replay.last_of.Goals as goal

pub returns : goal.returns
returns c = c.copied.ensures ∙ c.last.ensures.value ∙ sym (last_is c.args.intervals.now)
