use Rattle.std.proofs.Common.{rules, ◌≡◌, ◌+◌, ◌-◌, ◌*◌, ◌≤◌, List, ℕ, take, drop, length, ap, sym, subst, ◌∙◌, arith}
use Rattle.std.proofs.lemmas.Nat.{mul-le}
use Rattle.ec_code.specs.Encoding.{IsChunk}
use Rattle.ec_files.proofs.ChunkPieceLemmas.{next_in_place, next_row}
use Rattle.ec_files.proofs.encoding.make_piece.Goals as goal

pub loop-t-preserved : goal.loop-t-preserved
loop-t-preserved c =
    let k = c.args.g.k in
    let unit = c.args.g.unit in
    let t = c.loop-t.t in
    let last : t * unit + unit ≤ c.args.count * unit = next_row unit t c.args.count c.loop-t-test.true in
    let long : length c.encode_chunk.new.chunk ≡ unit = omega (arith, last, c.loop-t.invariant.1) in
    let width : t * (k * unit) + k * unit - t * (k * unit) ≡ k * unit = omega arith in
    let is = subst (λ (n : ℕ). IsChunk k c.args.row.now (take n (drop (t * (k * unit)) c.args.stripes.now)) unit c.encode_chunk.new.chunk) width c.encode_chunk.ensures in (
      next_in_place k unit c.args.count t c.args.row.now c.args.stripes.now c.loop-t.piece c.encode_chunk.new.chunk c.loop-t-test.true c.loop-t.invariant.1 long c.loop-t.invariant.0 is,
      search rules,
    )
