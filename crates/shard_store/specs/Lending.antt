-- What a shelf ends as, if a store of it is lent. Source: this project.
use Rattle.std.specs.Prelude.{ℕ, Option, Some, slice_set}
use Rattle.std.specs.Borrow.{LendsIf, MutBor, Fml}
use Rattle.shard_store.specs.declared.store.Store.{Store}
use Rattle.shard_store.specs.contracts.store.Store as lent
use Rattle.shard_store.specs.contracts.shelf.Shelf.{the_row}
use Rattle.shard_store.specs.Shelved.{Shelved}

-- a shelf with a store in the place of what a slot has
abbrev pub with_store : Shelved → ℕ → Store → Shelved
with_store shelf slot store = record shelf { stores = slice_set shelf.stores slot (Some store) }

-- the shelf ends with the last value of the lent store at the slot, or as it was if none is lent
abbrev pub LendsStore : MutBor Shelved → ℕ → Option (MutBor Store) → Fml
LendsStore shelf slot r = LendsIf the_row lent.the_row shelf r (with_store shelf.now slot) shelf.now
