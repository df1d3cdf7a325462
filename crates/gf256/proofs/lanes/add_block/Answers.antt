use Rattle.std.proofs.Common.{arith, length-take, length-drop, drop}
use Rattle.std.specs.Simd.Lanes.{chunk}
use Rattle.std.proofs.lemmas.Simd.{get_or-chunk}
use Rattle.gf256.proofs.NibbleLemmas.{block_sums}
use Rattle.gf256.proofs.lanes.add_block.Goals as goal

pub returns : goal.returns
returns c =
    block_sums (λ b. b) c.args.at c.args.to.now c.args.from.now (chunk c.args.at 32 c.args.from.now) c.requires.to
    (omega (arith, length-take 32 (drop c.args.at c.args.from.now), length-drop c.args.at c.args.from.now, c.requires.from))
    (λ k inside. get_or-chunk c.args.at 32 c.args.from.now k 0 inside)
