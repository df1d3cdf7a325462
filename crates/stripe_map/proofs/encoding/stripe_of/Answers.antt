use Rattle.std.proofs.Common.{◌∙◌, ◌≤◌, ◌*◌, arith}
use Rattle.std.proofs.lemmas.Nat.{mul-le}
use Rattle.stripe_map.proofs.EncodingLemmas.{padded_rest_is}
use Rattle.stripe_map.proofs.encoding.stripe_of.Goals as goal

pub returns-else-at-width-clause-value : goal.returns-else-at-width-clause-value
returns-else-at-width-clause-value c =
    let some : 1 ≤ c.args.g.k * c.args.g.unit = mul-le 1 1 c.args.g.k c.args.g.unit c.args.g.some_chunks c.args.g.some_bytes in
    c.requires.last ∙ padded_rest_is c.args.g.k c.args.g.unit c.args.bytes.now c.args.stripe some c.requires.inside (omega (arith, c.if-at-width.false))
