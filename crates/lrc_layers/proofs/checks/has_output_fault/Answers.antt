use Rattle.std.proofs.Common.{sym, ◌∙◌, arith, inl, inr}
use Rattle.std.proofs.Common.{subst}
use Rattle.ec_model.specs.Lrc.{IsMadeBefore}
use Rattle.ec_code.specs.LrcFaults.{text_of_layer, layer_texts}
use Rattle.ec_code.proofs.LayoutLemmas.{length_of_text}
use Rattle.ec_code.proofs.RefusalLemmas.{untrue}
use Rattle.lrc_layers.proofs.TextLemmas.{length_of_texts}
use Rattle.lrc_layers.proofs.checks.has_output_fault.Goals as goal

pub returns-then-has_idle_layer : goal.returns-then-has_idle_layer
returns-then-has_idle_layer c = (
  λ e. (let h = c.has_idle_layer.ensures.0 e in inl (h.0, omega (arith, h.1, length_of_texts c.args.layers.now), h.2)),
  λ _. c.if-has_idle_layer.true,
)

pub returns-else-has_idle_layer : goal.returns-else-has_idle_layer
returns-else-has_idle_layer c =
    let count = length_of_texts c.args.layers.now in
    let long = length_of_text c.args.mapping.now.first c.args.mapping.now.len in (
      λ e. (let h = c.leaves_position_out.ensures.0 e in inr (h.0, omega (arith, h.1, long), λ made. h.2 (subst (λ n. IsMadeBefore (text_of_layer c.args.mapping.now) (layer_texts c.args.layers.now) n h.0) count made))),
      λ fault. elim fault [
        | inl idle ↦ absurd (untrue (sym c.if-has_idle_layer.false ∙ c.has_idle_layer.ensures.1 (idle.0, omega (arith, idle.1, count), idle.2)))
        | inr left ↦ c.leaves_position_out.ensures.1
            (left.0, omega (arith, left.1, long), λ made. left.2 (subst (λ n. IsMadeBefore (text_of_layer c.args.mapping.now) (layer_texts c.args.layers.now) n left.0) (sym count) made))
      ],
    )
