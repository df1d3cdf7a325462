use Rattle.pool_tests.proofs.pools.made.Goals as goal

pub made_with-requires : goal.made_with-requires
made_with-requires c = λ q. rw c.deref_mut.ensures.value rw (← c.deref.ensures.value) (c.has_each_plugin.ensures.0 c.if-not-has_each_plugin.false q)
