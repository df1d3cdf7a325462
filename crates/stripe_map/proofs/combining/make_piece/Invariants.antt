use Rattle.std.proofs.Common.{◌≡◌, ◌<◌, ◌+◌, ℕ, length, slice_index}
use Rattle.stripe_map.specs.Decoding.{made_byte}
use Rattle.stripe_map.proofs.combining.make_piece.Given as goal

abbrev pub invariant-loop-q : goal.invariant-loop-q
invariant-loop-q l = record {
  value : (b : ℕ) → b < length l.initial.piece → slice_index l.piece b ≡ made_byte l.q l.row l.chunks (l.at + b);
  long : length l.piece ≡ length l.initial.piece;
}
