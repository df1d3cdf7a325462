use Rattle.gf256.proofs.InverseLemmas.{inverse_in_table}
use Rattle.gf256.proofs.field.inv.Goals as goal

pub returns : goal.returns
returns c = inverse_in_table c.args.a c.requires c.ranges.a.fits
