use Rattle.std.proofs.Common.{◌≡◌, length, refl, ap, sym, ◌∙◌, arith}
use Rattle.ec_model.specs.Lrc.{layer_text}
use Rattle.ec_code.specs.LrcFaults.{layer_texts}
use Rattle.ec_code.proofs.LayoutLemmas.{length_of_text}
use Rattle.ec_code.proofs.RefusalLemmas.{untrue}
use Rattle.lrc_layers.proofs.TextLemmas.{length_of_texts}
use Rattle.lrc_layers.proofs.CheckLemmas.{up_to_next, same_len}
use Rattle.lrc_layers.proofs.checks.has_length_fault.Goals as goal

pub returns-then-layer_of-mapping : goal.returns-then-layer_of-mapping
returns-then-layer_of-mapping c = (
  λ _. (
    c.loop-i.i,
    omega (arith, length_of_texts c.args.layers.now),
    λ e. c.if-layer_of-mapping.true (
        same_len c.layer_of.result c.args.mapping.now (layer_text (layer_texts c.args.layers.now) c.loop-i.i) c.layer_of.ensures e),
  ),
  λ _. refl,
)

pub loop-i-preserved : goal.loop-i-preserved
loop-i-preserved c =
    up_to_next (λ g. length (layer_text (layer_texts c.args.layers.now) g) ≡ c.args.mapping.now.len) c.loop-i.i c.loop-i.invariant
    (ap (λ t. length t) (sym c.layer_of.ensures) ∙ length_of_text c.layer_of.result.first c.layer_of.result.len ∙ c.if-layer_of-mapping.false)

pub returns : goal.returns
returns c = (
  λ e. absurd (untrue e),
  λ h. absurd (h.2 (c.loop-i.invariant h.0 (omega (arith, h.1, length_of_texts c.args.layers.now)) ∙ sym (length_of_text c.args.mapping.now.first c.args.mapping.now.len))),
)
