use Rattle.std.proofs.Common.{rules, ◌+◌, ◌*◌, ◌≤◌, ◌≡◌, length, arith}
use Rattle.std.proofs.lemmas.Nat.{mul-le}
use Rattle.stripe_map.proofs.AssemblyLemmas.{next_unit, rest_stays}
use Rattle.stripe_map.proofs.EncodingLemmas.{times_next}
use Rattle.stripe_map.proofs.assembling.add_units.Goals as goal

pub loop-v-preserved : goal.loop-v-preserved
loop-v-preserved c =
    let v = c.loop-v.v in
    let unit = c.args.unit in
    let now = c.loop-v.object in
    let piece = c.add_unit.new.unit in
    let last : (v + 1) * unit ≤ c.args.units * unit = mul-le (v + 1) unit c.args.units unit (omega arith) (omega arith) in
    let room : v * unit + unit ≤ length now = omega (arith, last, times_next v unit, c.loop-v.invariant.long) in
    let long : length piece ≡ unit = omega arith in
    record {
      added = next_unit c.args.k unit c.args.q v c.args.rows.now c.args.chunks.now c.args.object.now now piece room long c.loop-v.invariant.added c.loop-v.invariant.rest (λ b lb. c.add_unit.ensures.value b (omega arith));
      rest = rest_stays unit v c.args.object.now now piece room long c.loop-v.invariant.rest;
      long = search rules;
    }
