use Rattle.pool_tests.proofs.maps.made_of.Goals as goal

pub make-requires-clause-profile : goal.make-requires-clause-profile
make-requires-clause-profile g c = record { accepted = c.requires.accepted; writable = c.requires.writable; shape = c.requires.shape }
