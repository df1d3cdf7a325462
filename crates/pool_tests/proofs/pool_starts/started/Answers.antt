use Rattle.pool_tests.proofs.pool_starts.started.Goals as goal

pub started_with-requires : goal.started_with-requires
started_with-requires c = λ q. rw c.deref_mut.ensures.value rw (← c.deref.ensures.value) (c.has_each_plugin.ensures.0 c.if-not-has_each_plugin.false q)
