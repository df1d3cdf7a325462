use Rattle.std.proofs.Common.{rules}
use Rattle.ec_words.specs.Readers.{version_bytes}
use Rattle.pool_map.proofs.steps.alive_bytes.Goals as goal

pub returns : goal.returns
unfolding version_bytes
returns c = search rules
