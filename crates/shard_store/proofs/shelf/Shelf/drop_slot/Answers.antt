use Rattle.std.proofs.Common.{None}
use Rattle.shard_store.proofs.OnSlotLemmas.{own_put}
use Rattle.shard_store.proofs.shelf.Shelf.drop_slot.Goals as goal

pub returns-clause-own : goal.returns-clause-own
returns-clause-own c own = own_put c.args.self.now c.set.new.self c.args.slot None c.set.ensures.others c.set.ensures.value tt own
