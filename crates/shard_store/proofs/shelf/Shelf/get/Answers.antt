use Rattle.std.proofs.Common.{◌≡◌, None, subst, arith}
use Rattle.std.proofs.lemmas.List.{get_or_past}
use Rattle.shard_store.specs.Shelved.{Shelved}
use Rattle.shard_store.specs.Shelves.{store_at}
use Rattle.shard_store.proofs.shelf.Shelf.get.Goals as goal

pub returns-clause-none : goal.returns-clause-none
returns-clause-none c s past =
    subst (λ (x : Shelved). store_at x s ≡ None) c.self.view_is (get_or_past c.self.inside.stores.items s None (omega (arith, c.self.invariant, past)))
