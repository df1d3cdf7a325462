use Rattle.ec_files.proofs.MapLemmas.{named-insert}
use Rattle.ec_files.proofs.mem_files.MemFiles.put.Goals as goal

pub returns-clause-ok : goal.returns-clause-ok
returns-clause-ok c =
    named-insert c.args.self.now.kept.entries c.insert.new.self.entries c.in_ok-name.name c.args.bytes c.args.name.now c.in_ok-insert.ensures.entries c.in_ok-name.ensures.ok
