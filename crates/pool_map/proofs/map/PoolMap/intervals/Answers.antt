use Rattle.std.proofs.Common.{refl, sym}
use Rattle.map_model.proofs.SoundLemmas.{joined_below, all_kept}
use Rattle.pool_map.specs.Meanings.{state_of}
use Rattle.pool_map.proofs.map.PoolMap.intervals.Goals as goal

pub returns-clause-value : goal.returns-clause-value
returns-clause-value c = sym (all_kept c.args.self.now.state.n (state_of c.args.self.now.state) refl c.args.self.now.sound)

pub returns-clause-joined : goal.returns-clause-joined
returns-clause-joined c = joined_below c.args.self.now.state.n (state_of c.args.self.now.state) c.args.self.now.sound
