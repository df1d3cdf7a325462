use Rattle.std.proofs.Common.{◌≡◌, ◌+◌, true, refl, sym, subst, arith}
use Rattle.map_model.specs.States.{fits, last_epoch}
use Rattle.pool_map.specs.Maps.{PoolImage}
use Rattle.pool_map.specs.Pool.{map_of}
use Rattle.map_model.specs.Steps.{Alive}
use Rattle.pool_map.proofs.CallerLemmas.{begun_may_join}
use Rattle.pool_tests.proofs.maps.gone_alive.Goals as goal

pub alive-requires-clause-ready : goal.alive-requires-clause-ready
alive-requires-clause-ready g c = record {
  here = (c.begin.ensures.kept.on_slot.kept.here 16).0 c.requires.ready.here;
  unspent = c.in_ok-begin.ensures.stepped.unspent;
  settled = c.in_ok-begin.ensures.stepped.settled;
}

pub alive-requires-clause-fits : goal.alive-requires-clause-fits
alive-requires-clause-fits g c =
    let old = map_of c.args.map.now in
    subst (λ (m : PoolImage). fits m.n m.state (Alive (last_epoch m.state.intervals) 1 (record { epoch = 1; seq = 5 })) ≡ true) (sym c.in_ok-begin.ensures.stepped.step)
    (begun_may_join old.state.intervals (last_epoch old.state.intervals + 1) 3 1 refl (omega arith))
