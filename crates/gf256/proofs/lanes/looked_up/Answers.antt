use Rattle.std.proofs.Common.{refl, ◌∙◌}
use Rattle.std.specs.Int.{w8}
use Rattle.std.proofs.lemmas.Simd.{length-swz_l}
use Rattle.gf256.proofs.NibbleLemmas.{nibbles_ok, looked_up_at, length-nibbles}
use Rattle.gf256.proofs.lanes.looked_up.Goals as goal

pub swizzle : goal.swizzle
swizzle c = nibbles_ok 2 32 c.args.bytes refl c.fits-bytes.0

pub returns-clause-found : goal.returns-clause-found
returns-clause-found c = λ k lt. looked_up_at c.args.table c.args.bytes k c.fits-bytes.0 lt

pub returns-clause-long : goal.returns-clause-long
returns-clause-long c = length-swz_l w8 16 c.args.table 0 _ ∙ length-nibbles 32 c.args.bytes c.fits-bytes.0
