use Rattle.shard_model.proofs.BroughtLemmas.{may_be_brought}
use Rattle.shard_model.proofs.laws.held_objects_may_be_brought.Goals as goal

pub returns : goal.returns
returns c = may_be_brought
