use Rattle.std.proofs.Common.{arith, inl, inr}
use Rattle.std.proofs.lemmas.Bool.{ltb-true, lt-ltb}
use Rattle.ec_code.proofs.LayoutLemmas.{length_of_text}
use Rattle.ec_code.proofs.LrcRefusalLemmas.{same_value}
use Rattle.lrc_layers.proofs.checks.is_out_of_range.Goals as goal

pub returns-else-least-from : goal.returns-else-least-from
returns-else-least-from c =
    let long = length_of_text c.args.mapping.now.first c.args.mapping.now.len in (
      λ e. (c.in-Some.least, c.in-Some.is, inr (omega (arith, long, ltb-true c.args.mapping.now.len c.in-Some.least e))),
      λ g.
          let same = same_value c.args.least g.0 c.in-Some.least g.1 c.in-Some.is in
          lt-ltb c.args.mapping.now.len c.in-Some.least (elim g.2 [
            | inl few ↦ absurd (omega (arith, few, same, c.if-least-from.false, c.from.ensures, c.count_of.ensures.value))
            | inr many ↦ omega (arith, many, same, long)
          ]),
    )
