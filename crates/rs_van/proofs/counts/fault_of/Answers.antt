use Rattle.std.proofs.Common.{refl, arith}
use Rattle.ec_code.proofs.RefusalLemmas.{untrue, width_first, small_k_first, small_m_first, too_many_first, unit_first, min_size_first}
use Rattle.rs_van.proofs.counts.fault_of.Goals as goal

pub returns-then-is_other_width-clause-refused : goal.returns-then-is_other_width-clause-refused
returns-then-is_other_width-clause-refused c =
    width_first c.args.profile.now c.args.k c.args.m (record { of_jerasure = c.requires.plugin; first = c.requires.k; second = c.requires.m })
    (λ g. untrue (c.if-is_other_technique.ensures.1 g)) (c.if-is_other_width.ensures.0 refl)

pub returns-then-k-lt2-clause-refused : goal.returns-then-k-lt2-clause-refused
returns-then-k-lt2-clause-refused c =
    small_k_first c.args.profile.now c.args.k c.args.m (record { of_jerasure = c.requires.plugin; first = c.requires.k; second = c.requires.m })
    (record { technique = λ g. untrue (c.if-is_other_technique.ensures.1 g); width = λ g. untrue (c.if-is_other_width.ensures.1 g) }) (omega arith)

pub returns-then-m-lt1-clause-refused : goal.returns-then-m-lt1-clause-refused
returns-then-m-lt1-clause-refused c =
    small_m_first c.args.profile.now c.args.k c.args.m (record { of_jerasure = c.requires.plugin; first = c.requires.k; second = c.requires.m })
    (record { technique = λ g. untrue (c.if-is_other_technique.ensures.1 g); width = λ g. untrue (c.if-is_other_width.ensures.1 g) }) (omega arith) (omega arith)

pub returns-then-from-gt16-clause-refused : goal.returns-then-from-gt16-clause-refused
returns-then-from-gt16-clause-refused c =
    too_many_first c.args.profile.now c.args.k c.args.m (record { of_jerasure = c.requires.plugin; first = c.requires.k; second = c.requires.m })
    (record { technique = λ g. untrue (c.if-is_other_technique.ensures.1 g); width = λ g. untrue (c.if-is_other_width.ensures.1 g) }) (omega arith) (omega arith) (omega arith)

pub returns-then-not-is_unit-clause-refused : goal.returns-then-not-is_unit-clause-refused
returns-then-not-is_unit-clause-refused c =
    unit_first c.args.profile.now c.args.k c.args.m (record { of_jerasure = c.requires.plugin; first = c.requires.k; second = c.requires.m })
    (record { technique = λ g. untrue (c.if-is_other_technique.ensures.1 g); width = λ g. untrue (c.if-is_other_width.ensures.1 g) }) (omega arith) (omega arith) (omega arith)
    (λ g. untrue (c.if-not-is_unit.ensures.1 g))

pub returns-then-is_out_of_range-clause-refused : goal.returns-then-is_out_of_range-clause-refused
returns-then-is_out_of_range-clause-refused c =
    min_size_first c.args.profile.now c.args.k c.args.m (record { of_jerasure = c.requires.plugin; first = c.requires.k; second = c.requires.m })
    (record { technique = λ g. untrue (c.if-is_other_technique.ensures.1 g); width = λ g. untrue (c.if-is_other_width.ensures.1 g) }) (omega arith) (omega arith) (omega arith)
    (c.if-not-is_unit.ensures.0 refl) (c.if-is_out_of_range.ensures.0 refl)
