use Rattle.std.proofs.Common.{◌≤◌, ◌+◌, ◌*◌, ◌/◌, sym, subst}
use Rattle.stripe_map.proofs.AssemblyLemmas.{unit_inside}
use Rattle.stripe_map.proofs.assembling.add_position.Goals as goal

pub add_units-requires-clause-inside : goal.add_units-requires-clause-inside
add_units-requires-clause-inside c = λ v lt. subst (λ n. v / c.args.g.k * c.args.g.unit + c.args.g.unit ≤ n) (sym c.requires.units) (unit_inside c.args.g.k c.args.g.unit c.args.count v lt)
