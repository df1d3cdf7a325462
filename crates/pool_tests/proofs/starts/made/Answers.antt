use Rattle.pool_tests.proofs.starts.made.Goals as goal

pub returns : goal.returns
returns c = record {
  ready = record {
    slot_is = c.in_ok-make.ensures.fresh.slot_is;
    here = (c.make.ensures.kept.here 0).0 c.in_ok-place.ensures.placed;
    idle = record { accepted = c.in_ok-make.ensures.fresh.accepted; flushed = c.in_ok-make.ensures.fresh.flushed; unspent = c.in_ok-make.ensures.fresh.unspent };
    at_rest = c.in_ok-make.ensures.settled;
  };
  told = c.in_ok-make.ensures.steps;
}
