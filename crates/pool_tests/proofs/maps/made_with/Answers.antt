use Rattle.pool_map.proofs.CallerLemmas.{given_is_writable}
use Rattle.pool_tests.proofs.maps.made_with.Goals as goal

pub made_of-requires-clause-writable : goal.made_of-requires-clause-writable
made_of-requires-clause-writable g c = given_is_writable _ c.in-Ok.opened.profile c.read_profiles_are_writable.ensures c.in-Ok.ensures.gives
