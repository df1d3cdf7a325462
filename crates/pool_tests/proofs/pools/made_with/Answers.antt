use Rattle.pool_map.proofs.CallerLemmas.{given_is_writable}
use Rattle.pool_tests.proofs.pools.made_with.Goals as goal

pub make_pool-requires-clause-writable : goal.make_pool-requires-clause-writable
make_pool-requires-clause-writable g c = given_is_writable _ c.in-Ok.opened.profile c.read_profiles_are_writable.ensures c.in-Ok.ensures.gives
