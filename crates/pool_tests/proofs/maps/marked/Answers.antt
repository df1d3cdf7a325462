use Rattle.std.proofs.Common.{ap, ◌∙◌}
use Rattle.pool_map.specs.Maps.{PoolImage}
use Rattle.pool_tests.proofs.maps.marked.Goals as goal

pub returns : goal.returns
returns g c = record {
  ready = record {
    here = (c.mark.ensures.kept.on_slot.kept.here 16).0 c.requires.ready.here;
    unspent = c.in_ok-mark.ensures.stepped.unspent;
    settled = c.in_ok-mark.ensures.stepped.settled;
  };
  three = ap (λ (m : PoolImage). m.n) c.in_ok-mark.ensures.stepped.step ∙ c.requires.three;
}
