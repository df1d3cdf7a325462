use Rattle.std.proofs.Common.{◌≡◌, ◌∙◌, sym, subst, OnOk, Err}
use Rattle.shard_store.specs.Stored.{told_in, Becomes}
use Rattle.shard_store.specs.declared.fault.StoreFault.TheVariants.{NoMemory}
use Rattle.shard_store.specs.declared.store.Store.{Store}
use Rattle.shard_store.proofs.OnSlotLemmas.{store_set}
use Rattle.pool_slots.specs.Slots.{HasRecord, IsSameSlot, start_steps}
use Rattle.pool_slots.proofs.StartLemmas.{some_same}
use Rattle.pool_slots.proofs.starting.start_stored.Goals as goal

pub returns-clause-lent : goal.returns-clause-lent
returns-clause-lent g c store there =
    let later = c.start_epoch.new.store in
    let same : c.in-Some.store.now ≡ store = some_same c.in-Some.store.now store (c.in-Some.ensures.value ∙ there) in (
      later,
      store_set c.args.shelf.now.stores c.args.slot store later (sym there),
      subst (λ (s : Store). IsSameSlot s later) same c.start_epoch.ensures.same,
      subst (λ (s : Store). OnOk c.start_epoch.result (HasRecord (g.R.Rig.reads c.args.rig.now) (g.R.Rig.reads c.start_epoch.new.rig) (g.R.Rig.images c.args.rig.now (g.R.Rig.clock c.args.rig.now))
          (g.R.Rig.images c.start_epoch.new.rig (g.R.Rig.clock c.start_epoch.new.rig)) s later (start_steps c.args.epoch c.args.base.now (told_in s).shard.state.head))) same c.start_epoch.ensures.ok,
      subst (λ (s : Store). c.start_epoch.result ≡ Err NoMemory → (c.start_epoch.new.rig ≡ c.args.rig.now) × Becomes s later (told_in s)) same c.start_epoch.ensures.untouched,
    )
