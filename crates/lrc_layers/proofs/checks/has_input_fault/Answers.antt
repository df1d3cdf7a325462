use Rattle.std.proofs.Common.{refl, arith}
use Rattle.ec_code.proofs.RefusalLemmas.{untrue}
use Rattle.lrc_layers.proofs.TextLemmas.{length_of_texts}
use Rattle.lrc_layers.proofs.checks.has_input_fault.Goals as goal

pub returns-then-lacks_input : goal.returns-then-lacks_input
returns-then-lacks_input c = (
  λ _. (c.loop-i.i, omega (arith, length_of_texts c.args.layers.now), c.lacks_input.ensures.0 c.if-lacks_input.true),
  λ _. refl,
)

pub returns : goal.returns
returns c = (
  λ e. absurd (untrue e),
  λ h. absurd (c.loop-i.invariant h.0 (omega (arith, h.1, length_of_texts c.args.layers.now)) h.2),
)
