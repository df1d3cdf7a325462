use Rattle.ec_files.proofs.JoinLemmas.{piece_bytes}
use Rattle.std.proofs.Common.{arith}
use Rattle.ec_files.specs.declared.limits.TheConstants.{PIECE}
use Rattle.ec_files.proofs.joining.stripes_of_piece.Goals as goal

pub returns-clause-few : goal.returns-clause-few
returns-clause-few c = piece_bytes PIECE c.args.g.k c.args.g.unit c.max.result c.args.g.some_chunks c.args.g.some_bytes c.requires c.args.g.within_limit (omega arith) c.max.ensures
