use Rattle.std.proofs.Common.{◌≡◌, Some, sym}
use Rattle.std.proofs.lemmas.Result.{on_ok_weaker}
use Rattle.shard_store.specs.Lending.{with_store}
use Rattle.shard_store.specs.OnSlot.{HasFlushed}
use Rattle.shard_store.specs.Shelved.{Shelved}
use Rattle.shard_store.specs.Shelves.{store_at}
use Rattle.shard_store.proofs.OnSlotLemmas.{store_set, changed_at, flushes_at}
use Rattle.shard_store.proofs.shelf.Shelf.flush.Goals as goal

pub returns-in-Some-clause-ok : goal.returns-in-Some-clause-ok
returns-in-Some-clause-ok g c =
    let after : Shelved = with_store c.args.self.now c.args.slot c.flush.new.self in
    let is : store_at after c.args.slot ≡ Some c.flush.new.self = store_set c.args.self.now.stores c.args.slot c.in-Some.store.now c.flush.new.self c.in-Some.ensures.value in
    on_ok_weaker c.flush.result
    (changed_at (HasFlushed (g.R.Rig.reads c.args.rig.now) (g.R.Rig.images c.args.rig.now (g.R.Rig.clock c.args.rig.now)) (g.R.Rig.reads c.flush.new.rig) (g.R.Rig.images c.flush.new.rig (g.R.Rig.clock c.flush.new.rig)))
    (store_at c.args.self.now c.args.slot) (store_at after c.args.slot) c.in-Some.store.now c.flush.new.self c.in-Some.ensures.value (sym is))
    c.flush.ensures.ok

pub returns-in-Some-clause-any_moment : goal.returns-in-Some-clause-any_moment
returns-in-Some-clause-any_moment g c =
    flushes_at g.R.Rig.clock g.R.Rig.images c.args.rig.now c.flush.new.rig (g.R.Rig.is_here c.args.rig.now) (g.R.Rig.reads c.args.rig.now) c.args.slot (store_at c.args.self.now c.args.slot) c.in-Some.store.now
    c.in-Some.ensures.value c.requires.ready c.flush.ensures.any_moment
