use Rattle.std.proofs.Common.{◌∙◌, ◌+◌, arith, refl, ap, bit_xor, slice_index}
use Rattle.ec_model.specs.Field.{field_product}
use Rattle.ec_model.specs.Rows.{sum_below}
use Rattle.stripe_map.specs.Chunks.{chunk_of_position}
use Rattle.stripe_map.specs.Decoding.{bytes_of}
use Rattle.stripe_map.proofs.DecodingSumLemmas.{next_sum}
use Rattle.stripe_map.proofs.combining.make_piece.Goals as goal

pub loop-q-init : goal.loop-q-init
unfolding sum_below
loop-q-init c = record {
  value = λ b lt. c.fill.ensures.clones b 0 (omega (arith, c.fill.ensures.len, lt)) refl;
  long = refl;
}

pub loop-q-preserved : goal.loop-q-preserved
loop-q-preserved c = record {
  value = λ b lt.
      let at = c.args.at + b in
      next_sum c.loop-q.q (λ q. field_product (slice_index c.args.row.now q) (slice_index (bytes_of (chunk_of_position c.args.chunks.now q)) at))
      (slice_index c.loop-q.piece b) (slice_index c.add_chunk.new.piece b)
      (c.add_chunk.ensures.value b (omega (arith, lt, c.loop-q.invariant.long))
      ∙ ap (λ chunk. bit_xor (slice_index c.loop-q.piece b) (field_product (slice_index c.args.row.now c.loop-q.q) (slice_index (bytes_of chunk) at))) c.get.ensures)
      (c.loop-q.invariant.value b lt);
  long = c.add_chunk.ensures.long ∙ c.loop-q.invariant.long;
}
