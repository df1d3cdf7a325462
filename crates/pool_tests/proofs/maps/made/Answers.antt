use Rattle.pool_tests.proofs.maps.made.Goals as goal

pub made_with-requires-clause-boxes : goal.made_with-requires-clause-boxes
made_with-requires-clause-boxes g c = λ q. rw c.deref_mut.ensures.value rw (← c.deref.ensures.value) (c.has_each_plugin.ensures.0 c.if-not-has_each_plugin.false q)
