use Rattle.std.proofs.Common.{sym}
use Rattle.rs_van.proofs.SystematicLemmas.{place_at}
use Rattle.shec_matrix.proofs.code.ShecCode.place.Goals as goal

pub returns-clause-value : goal.returns-clause-value
returns-clause-value c = sym (place_at c.args.self.now.k c.args.j c.requires)
