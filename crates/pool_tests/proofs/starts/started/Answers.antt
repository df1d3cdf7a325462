use Rattle.std.proofs.Common.{◌≡◌, ◌<◌, ◌≤◌, ℕ, ap, sym, subst, arith}
use Rattle.shard_model.specs.States.{holds}
use Rattle.shard_store.specs.Stored.{room_in}
use Rattle.shard_store.specs.Told.{Told}
use Rattle.shard_store.specs.declared.store.Store.{Store}
use Rattle.pool_tests.proofs.starts.started.Goals as goal

pub start_stored-requires-clause-may : goal.start_stored-requires-clause-may
start_stored-requires-clause-may c =
    let told = c.requires.first.told in record {
      store = c.args.store;
      there = c.put.ensures.value;
      whole = ap (λ (t : Told). t.shard.state.partial) told;
      held = ap (λ (t : Told). holds t.shard.state (record { epoch = 0; seq = 0 })) told;
      older = subst (λ (les : ℕ). les < 4) (sym (ap (λ (t : Told). t.shard.state.les) told)) (omega arith);
    }

pub start_stored-requires-clause-ready : goal.start_stored-requires-clause-ready
start_stored-requires-clause-ready c store there = rw (← same) c.requires.first.ready
  where
    same : c.args.store ≡ store
    same = cc

pub start_stored-requires-clause-room : goal.start_stored-requires-clause-room
start_stored-requires-clause-room c store there =
    subst (λ (s : Store). 64 ≤ room_in s) same (subst (λ (n : ℕ). 64 ≤ n) c.room.ensures c.if-room-lt64.false)
  where
    same : c.args.store ≡ store
    same = cc
