use Rattle.std.proofs.Common.{◌*◌, ℕ, take, drop, subst, ap, arith}
use Rattle.stripe_map.specs.Assembling.{AddsPosition}
use Rattle.ec_files.proofs.JoinLemmas.{nothing_adds, units_add}
use Rattle.std.specs.Option.{option_copied}
use Rattle.ec_files.proofs.joining.add_stripes.Goals as goal

pub returns-in-Some-clause-value : goal.returns-in-Some-clause-value
returns-in-Some-clause-value c =
    units_add c.args.g.k c.args.g.unit c.args.q c.args.rows.now (option_copied c.args.chunk) c.in-Some.bytes.now c.args.from c.args.here c.args.piece.now c.add_position.new.object
    (ap option_copied c.in-Some.is)
    (subst (λ (n : ℕ). AddsPosition c.args.g.k c.args.g.unit c.args.rows.now c.args.q (take n (drop (c.args.from * c.args.g.unit) c.in-Some.bytes.now)) c.args.piece.now c.add_position.new.object (c.args.here * c.args.g.k))
    (omega arith) c.add_position.ensures.value)

pub returns-in-None-clause-value : goal.returns-in-None-clause-value
returns-in-None-clause-value c =
    nothing_adds c.args.g.k c.args.g.unit c.args.q c.args.rows.now (option_copied c.args.chunk) c.args.from c.args.here c.args.piece.now (ap option_copied c.in-None.is)
