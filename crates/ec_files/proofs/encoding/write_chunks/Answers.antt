use Rattle.std.proofs.Common.{◌∙◌, arith}
use Rattle.ec_files.proofs.ChunkFileLemmas.{next_chunks, stopped_at, stopped_writing}
use Rattle.ec_files.proofs.encoding.write_chunks.Goals as goal

pub loop-i-preserved : goal.loop-i-preserved
loop-i-preserved g c =
    let code = (goal.Code-dyn g c.args.code.now).meaning c.args.code.now.1 in
    let files = g.F.Files.files in (
      next_chunks code c.args.g.unit c.args.name.now c.args.bytes.now c.args.wanted.now c.loop-i.i (files c.args.files.now) (files c.loop-i.files) (files c.write_chunk.new.files)
          c.loop-i-test.true c.loop-i.invariant.0 c.in_ok-write_chunk.ensures.value,
      c.in_ok-write_chunk.ensures.quiet (λ e. omega arith) ∙ c.loop-i.invariant.1,
      c.write_chunk.ensures.room ∙ c.loop-i.invariant.2,
    )

pub returns-in_err-write_chunk-clause-value : goal.returns-in_err-write_chunk-clause-value
returns-in_err-write_chunk-clause-value g c =
    let code = (goal.Code-dyn g c.args.code.now).meaning c.args.code.now.1 in
    let files = g.F.Files.files in
    let stop = c.in_err-write_chunk.field-0.0 in
    stopped_writing code c.args.g.unit c.args.name.now c.args.bytes.now c.args.wanted.now (files c.args.files.now) (files c.write_chunk.new.files) c.from_residual.result stop c.from_residual.ensures.1
    (stopped_at code c.args.g.unit c.args.name.now c.args.bytes.now c.args.wanted.now c.loop-i.i (files c.args.files.now) (files c.loop-i.files) (files c.write_chunk.new.files) stop
    c.loop-i-test.true c.loop-i.invariant.0 c.in_err-write_chunk.ensures.value)
