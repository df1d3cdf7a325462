use Rattle.std.proofs.Common.{refl, arith}
use Rattle.ec_code.proofs.RefusalLemmas.{untrue}
use Rattle.ec_code.proofs.LrcRefusalLemmas.{few_coding_first, many_positions_first, uneven_groups_first}
use Rattle.lrc_layers.proofs.layout.numbers_fault.Goals as goal

pub returns-then-m-lt1-clause-refused : goal.returns-then-m-lt1-clause-refused
returns-then-m-lt1-clause-refused c =
    few_coding_first c.args.profile.now c.args.k c.args.m c.args.l
    (record { of_lrc = c.requires.plugin; first = c.requires.k; second = c.requires.m; third = c.requires.l }) (omega arith) (omega arith)

pub returns-then-has_many_positions-clause-refused : goal.returns-then-has_many_positions-clause-refused
returns-then-has_many_positions-clause-refused c =
    many_positions_first c.args.profile.now c.args.k c.args.m c.args.l
    (record { of_lrc = c.requires.plugin; first = c.requires.k; second = c.requires.m; third = c.requires.l }) (omega arith) (omega arith)
    (c.if-has_many_positions.ensures.0 refl)

pub returns-then-has_uneven_groups-clause-refused : goal.returns-then-has_uneven_groups-clause-refused
returns-then-has_uneven_groups-clause-refused c =
    uneven_groups_first c.args.profile.now c.args.k c.args.m c.args.l
    (record { of_lrc = c.requires.plugin; first = c.requires.k; second = c.requires.m; third = c.requires.l }) (omega arith) (omega arith)
    (λ many. untrue (c.if-has_many_positions.ensures.1 many)) (c.if-has_uneven_groups.ensures.0 refl)
