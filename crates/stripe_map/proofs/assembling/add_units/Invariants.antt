use Rattle.std.proofs.Common.{◌≡◌, ◌≤◌, ◌*◌, ℕ, length, slice_index}
use Rattle.stripe_map.specs.Assembling.{AddsPosition}
use Rattle.stripe_map.proofs.assembling.add_units.Given as goal

abbrev pub invariant-loop-v : goal.invariant-loop-v
invariant-loop-v l = record {
  added : AddsPosition l.k l.unit l.rows l.q l.chunks l.initial.object l.object l.v;
  rest : (x : ℕ) → l.v * l.unit ≤ x → slice_index l.object x ≡ slice_index l.initial.object x;
  long : length l.object ≡ length l.initial.object;
}
