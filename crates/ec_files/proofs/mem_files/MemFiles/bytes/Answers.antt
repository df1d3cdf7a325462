use Rattle.std.proofs.Common.{sym, ap, Some, ◌∙◌}
use Rattle.ec_files.proofs.MapLemmas.{get-named}
use Rattle.ec_files.proofs.mem_files.MemFiles.bytes.Goals as goal

pub returns-in-Some : goal.returns-in-Some
returns-in-Some c = ap Some c.as_slice.ensures.value ∙ c.in-Some.ensures.value ∙ sym (get-named c.args.name.now c.args.self.now.kept.entries)

pub returns-in-None : goal.returns-in-None
returns-in-None c = c.in-None.ensures.value ∙ sym (get-named c.args.name.now c.args.self.now.kept.entries)
