use Rattle.std.proofs.Common.{arith}
use Rattle.slot_journal.proofs.PieceLemmas.{taken_is_piece, first_bytes}
use Rattle.slot_journal.proofs.piece.first_piece.Goals as goal

pub returns-clause-is_piece : goal.returns-clause-is_piece
returns-clause-is_piece g c there told = taken_is_piece there 0 c.min-count.result c.read_piece.new.piece.bytes.items (c.in_ok-read_piece.ensures.bytes there told)

pub returns-clause-enough : goal.returns-clause-enough
returns-clause-enough g c there told same = omega (arith, same, first_bytes there c.min-count.result c.read_piece.new.piece.bytes.items (c.in_ok-read_piece.ensures.bytes there told))
