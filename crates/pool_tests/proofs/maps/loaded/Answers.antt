use Rattle.pool_tests.proofs.maps.loaded.Goals as goal

pub load-requires : goal.load-requires
load-requires g c = λ q. rw c.deref_mut.ensures.value rw (← c.deref.ensures.value) (c.has_each_plugin.ensures.0 c.if-not-has_each_plugin.false q)
