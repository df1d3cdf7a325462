use Rattle.plugin_reg.proofs.WritableLemmas.{bytes_are_writable}
use Rattle.plugin_reg.proofs.laws.read_profiles_are_writable.Goals as goal

pub returns : goal.returns
returns c = bytes_are_writable
