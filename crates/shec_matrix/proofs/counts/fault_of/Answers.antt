use Rattle.std.proofs.Common.{◌⊎◌, ◌<◌, ◌≤◌, refl, arith}
use Rattle.ec_code.proofs.RefusalLemmas.{untrue}
use Rattle.ec_code.proofs.ShecLemmas.{not_none, few_of, short_of, shec_width_first, shec_small_k_first, shec_small_m_first, shec_too_many_first, shec_unit_first, shec_min_size_first, shec_order_first}
use Rattle.shec_matrix.proofs.ShecRowLemmas.{small_of}
use Rattle.shec_matrix.proofs.counts.fault_of.Goals as goal

pub returns-then-is_other_width-clause-refused : goal.returns-then-is_other_width-clause-refused
returns-then-is_other_width-clause-refused c =
    shec_width_first c.args.profile.now c.args.k c.args.m c.args.c (record { of_shec = c.requires.plugin; first = c.requires.k; second = c.requires.m; third = c.requires.c; technique = not_none c.args.profile.now.technique c.requires.technique })
    (λ g. untrue (c.if-is_other_technique.ensures.1 g)) (c.if-is_other_width.ensures.0 refl)

pub returns-then-k-lt1-clause-refused : goal.returns-then-k-lt1-clause-refused
returns-then-k-lt1-clause-refused c =
    shec_small_k_first c.args.profile.now c.args.k c.args.m c.args.c (record { of_shec = c.requires.plugin; first = c.requires.k; second = c.requires.m; third = c.requires.c; technique = not_none c.args.profile.now.technique c.requires.technique })
    (record { technique = λ g. untrue (c.if-is_other_technique.ensures.1 g); width = λ g. untrue (c.if-is_other_width.ensures.1 g) }) (omega arith)

pub returns-then-c-lt1-clause-refused : goal.returns-then-c-lt1-clause-refused
returns-then-c-lt1-clause-refused c =
    let small : (c.args.m < 1) ⊎ (c.args.c < 1) = small_of (c.args.m < 1) (c.args.c < 1) (1 ≤ c.args.m) c.if-c-lt1.either in
    shec_small_m_first c.args.profile.now c.args.k c.args.m c.args.c (record { of_shec = c.requires.plugin; first = c.requires.k; second = c.requires.m; third = c.requires.c; technique = not_none c.args.profile.now.technique c.requires.technique })
    (record { technique = λ g. untrue (c.if-is_other_technique.ensures.1 g); width = λ g. untrue (c.if-is_other_width.ensures.1 g) }) (omega arith) small

pub returns-then-are_many-clause-refused : goal.returns-then-are_many-clause-refused
returns-then-are_many-clause-refused c =
    shec_too_many_first c.args.profile.now c.args.k c.args.m c.args.c (record { of_shec = c.requires.plugin; first = c.requires.k; second = c.requires.m; third = c.requires.c; technique = not_none c.args.profile.now.technique c.requires.technique })
    (record { technique = λ g. untrue (c.if-is_other_technique.ensures.1 g); width = λ g. untrue (c.if-is_other_width.ensures.1 g) })
    (record { data_chunks = omega arith; coding_chunks = omega arith; covers = omega arith }) (c.if-are_many.ensures.0 refl)

pub returns-then-not-is_unit-clause-refused : goal.returns-then-not-is_unit-clause-refused
returns-then-not-is_unit-clause-refused c =
    shec_unit_first c.args.profile.now c.args.k c.args.m c.args.c (record {
      counts = record { of_shec = c.requires.plugin; first = c.requires.k; second = c.requires.m; third = c.requires.c; technique = not_none c.args.profile.now.technique c.requires.technique };
      words = record { technique = λ g. untrue (c.if-is_other_technique.ensures.1 g); width = λ g. untrue (c.if-is_other_width.ensures.1 g) };
      some = record { data_chunks = omega arith; coding_chunks = omega arith; covers = omega arith };
      few = few_of c.args.k c.args.m (λ g. untrue (c.if-are_many.ensures.1 g));
      short = short_of c.args.k c.args.m (λ g. untrue (c.if-are_many.ensures.1 g));
    }) (λ g. untrue (c.if-not-is_unit.ensures.1 g))

pub returns-then-is_out_of_range-clause-refused : goal.returns-then-is_out_of_range-clause-refused
returns-then-is_out_of_range-clause-refused c =
    shec_min_size_first c.args.profile.now c.args.k c.args.m c.args.c (record {
      counts = record { of_shec = c.requires.plugin; first = c.requires.k; second = c.requires.m; third = c.requires.c; technique = not_none c.args.profile.now.technique c.requires.technique };
      words = record { technique = λ g. untrue (c.if-is_other_technique.ensures.1 g); width = λ g. untrue (c.if-is_other_width.ensures.1 g) };
      some = record { data_chunks = omega arith; coding_chunks = omega arith; covers = omega arith };
      few = few_of c.args.k c.args.m (λ g. untrue (c.if-are_many.ensures.1 g));
      short = short_of c.args.k c.args.m (λ g. untrue (c.if-are_many.ensures.1 g));
    })
    (c.if-not-is_unit.ensures.0 refl) (c.if-is_out_of_range.ensures.0 refl)

pub returns-then-are_unordered-clause-refused : goal.returns-then-are_unordered-clause-refused
returns-then-are_unordered-clause-refused c =
    shec_order_first c.args.profile.now c.args.k c.args.m c.args.c (record {
      counts = record { of_shec = c.requires.plugin; first = c.requires.k; second = c.requires.m; third = c.requires.c; technique = not_none c.args.profile.now.technique c.requires.technique };
      words = record { technique = λ g. untrue (c.if-is_other_technique.ensures.1 g); width = λ g. untrue (c.if-is_other_width.ensures.1 g) };
      some = record { data_chunks = omega arith; coding_chunks = omega arith; covers = omega arith };
      few = few_of c.args.k c.args.m (λ g. untrue (c.if-are_many.ensures.1 g));
      short = short_of c.args.k c.args.m (λ g. untrue (c.if-are_many.ensures.1 g));
    })
    (c.if-not-is_unit.ensures.0 refl) (λ g. untrue (c.if-is_out_of_range.ensures.1 g)) (c.if-are_unordered.ensures.0 refl)
