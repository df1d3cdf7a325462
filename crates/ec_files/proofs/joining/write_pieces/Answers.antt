use Rattle.std.proofs.Common.{◌∙◌, arith}
use Rattle.ec_files.proofs.JoinLemmas.{ok_is, err_is, written_more, stopped_more, all_written, enough_pieces, stripes_inside}
use Rattle.ec_files.proofs.joining.write_pieces.Goals as goal

pub write_piece-requires-clause-inside : goal.write_piece-requires-clause-inside
write_piece-requires-clause-inside g c =
    stripes_inside c.args.per c.args.count c.loop-i.from c.min-here.result c.args.g.unit (omega (arith, c.loop-i.invariant.0.at)) c.min-here.ensures

pub returns-in_err-write_piece-clause-value : goal.returns-in_err-write_piece-clause-value
returns-in_err-write_piece-clause-value g c =
    stopped_more c.args.g.k c.args.g.unit c.args.n c.args.rows.now c.args.chunks.now c.args.per c.args.count c.loop-i.i c.loop-i.from c.min-here.result
    (g.F.Files.files c.args.files.now) (g.F.Files.files c.loop-i.files) (g.F.Files.files c.write_piece.new.files) c.args.name.now c.write_piece.result c.from_residual.result
    (err_is c.write_piece.result c.in_err-write_piece.field-0.0 c.in_err-write_piece.was) c.from_residual.ensures.0 c.loop-i.invariant.0 c.write_piece.ensures.value

pub loop-i-preserved : goal.loop-i-preserved
loop-i-preserved g c = (
  written_more c.args.g.k c.args.g.unit c.args.n c.args.rows.now c.args.chunks.now c.args.per c.args.count c.loop-i.i c.loop-i.from c.min-here.result
      (g.F.Files.files c.args.files.now) (g.F.Files.files c.loop-i.files) (g.F.Files.files c.write_piece.new.files) c.args.name.now c.write_piece.result
      (ok_is c.write_piece.result c.in_ok-write_piece.field-0 c.in_ok-write_piece.was)
      c.args.g.some_chunks c.min-here.ensures c.loop-i.invariant.0 c.write_piece.ensures.value,
  c.in_ok-write_piece.ensures.long ∙ c.loop-i.invariant.1,
  c.in_ok-write_piece.ensures.cause.kept ∙ c.loop-i.invariant.2,
)

pub returns-clause-value : goal.returns-clause-value
returns-clause-value g c =
    all_written c.args.g.k c.args.g.unit c.args.n c.args.rows.now c.args.chunks.now c.args.per c.args.count c.loop-i.i c.loop-i.from
    (g.F.Files.files c.args.files.now) (g.F.Files.files c.loop-i.files) c.args.name.now (omega (arith, c.loop-i-test.false, c.max-pieces.ensures))
    (enough_pieces c.args.count c.args.per c.loop-i.i c.requires.some (omega (arith, c.loop-i-test.false, c.max-pieces.ensures, c.div_ceil.ensures))) c.loop-i.invariant.0
