use Rattle.std.proofs.Common.{ap, ◌∙◌, arith, is_none}
use Rattle.std.specs.Option.{option_map}
use Rattle.ec_positions.specs.Commands.{Refused}
use Rattle.pool_run.specs.Stored.{Kept, or_zero}
use Rattle.pool_run.proofs.CommandLemmas.{by_limits, is_none_by}
use Rattle.pool_run.proofs.KeptLemmas.{size_within}
use Rattle.pool_run.proofs.objects.Objects.refusal.Goals as goal

pub usage_with-usage-requires-clause-taken : goal.usage_with-usage-requires-clause-taken
usage_with-usage-requires-clause-taken c =
    let all = c.requires.stored in
    omega (
      arith,
      ap or_zero (c.size_of-before.ensures all.0 all.1 all.2 all.3),
      size_within all.0 all.1 all.2 c.args.self.now c.args.name.now all.3,
      ap (λ (k : Kept). k.usage) c.self.view_is,
    )

pub returns : goal.returns
returns c = λ code unit objects kept.
    let size = c.size_of-before.ensures code unit objects kept in
    c.limit.ensures
    ∙ ap (option_map (λ why. Refused why))
    (by_limits objects c.args.name.now c.args.bytes.now c.is_none.result c.len.result c.usage_with-usage.result
    (omega (arith, c.if-bytes-gt-MAX_SIZE.false))
    (is_none_by c.size_of-before.result c.is_none.result c.is_none.ensures ∙ ap (λ o. is_none o) size)
    (c.len.ensures.len ∙ ap (λ (k : Kept). k.count) c.self.view_is ∙ kept.count)
    (omega (arith, c.usage_with-usage.ensures, ap or_zero size, ap (λ (k : Kept). k.usage) c.self.view_is, kept.taken)))
