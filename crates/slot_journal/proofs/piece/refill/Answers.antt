use Rattle.std.proofs.Common.{length, ap, arith}
use Rattle.slot_journal.proofs.PieceLemmas.{later_piece, taken_shows}
use Rattle.slot_journal.proofs.piece.refill.Goals as goal

pub returns-then-ahead-ge-PREFIX_LEN-clause-shows :
    goal.returns-then-ahead-ge-PREFIX_LEN-clause-shows
returns-then-ahead-ge-PREFIX_LEN-clause-shows g c there told = record {
  is_piece = later_piece there c.args.piece.now.start c.args.at c.args.piece.now.bytes.items c.requires.start (c.requires.is_piece there told);
  enough = omega (arith, ap length c.ahead.ensures);
}

pub returns-clause-shows : goal.returns-clause-shows
returns-clause-shows g c there told =
    taken_shows there c.args.at c.read_piece.new.piece.start c.min-count.result c.args.len c.read_piece.new.piece.bytes.items c.in_ok-read_piece.ensures.start (c.requires.len there told) (c.in_ok-read_piece.ensures.bytes there told) (omega arith)
