use Rattle.std.proofs.Common.{rules}
use Rattle.ec_files.proofs.access.read.Goals as goal

pub returns-in-Err-Failed-clause-kept : goal.returns-in-Err-Failed-clause-kept
returns-in-Err-Failed-clause-kept g c = c.in-Err-Failed.ensures.kept

pub returns-in-Err-Failed-clause-failed : goal.returns-in-Err-Failed-clause-failed
returns-in-Err-Failed-clause-failed g c = search rules
