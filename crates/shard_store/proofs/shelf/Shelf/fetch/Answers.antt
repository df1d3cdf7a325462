use Rattle.std.proofs.lemmas.Result.{on_ok_weaker}
use Rattle.shard_store.specs.Ranges.{object_bytes}
use Rattle.shard_store.specs.Shelves.{store_at}
use Rattle.shard_store.specs.declared.shelf.FetchFault.TheVariants.{NoSuch}
use Rattle.shard_store.proofs.FetchLemmas.{told_range, no_such}
use Rattle.shard_store.proofs.shelf.Shelf.fetch.Goals as goal

pub returns-clause-ok : goal.returns-clause-ok
returns-clause-ok g c =
    let store = store_at c.args.self.now c.args.slot in
    on_ok_weaker c.fetch_known.result
    (told_range (g.R.Rig.reads c.args._rig.now) (g.R.Rig.images c.args._rig.now (g.R.Rig.clock c.args._rig.now)) store c.args.name.now c.args.at _ c.fetch_known.new.into)
    c.fetch_known.ensures.ok

pub returns-clause-no_such : goal.returns-clause-no_such
returns-clause-no_such g c =
    no_such c.fetch_known.result NoSuch (object_bytes (store_at c.args.self.now c.args.slot) c.args.name.now) c.args.at _ c.fetch_known.new.into
    c.fetch_known.ensures.ok c.fetch_known.ensures.no_such c.fetch_known.ensures.faults
