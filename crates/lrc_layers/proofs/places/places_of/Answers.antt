use Rattle.std.proofs.Common.{◌≡◌, get_or, length, ap, sym, ◌∙◌, arith, lit<}
use Rattle.std.proofs.lemmas.List.{get_or-set_other, length-set}
use Rattle.std.proofs.lemmas.Grind.{get_or-set_at}
use Rattle.ec_model.specs.Lrc.{IsData, mark_number}
use Rattle.ec_code.specs.LrcFaults.{text_of_layer}
use Rattle.ec_code.proofs.LayoutLemmas.{length_of_text}
use Rattle.lrc_layers.proofs.CheckLemmas.{marked_below, up_to_next}
use Rattle.lrc_layers.proofs.MarkLemmas.{number_less}
use Rattle.lrc_layers.proofs.places.places_of.Goals as goal
use Rattle.lrc_layers.proofs.places.places_of.Goals.{then-mark_at-eq-DATA, else-mark_at-eq-DATA}

pub loop-p-preserved : goal.loop-p-preserved
loop-p-preserved c =
    let text = text_of_layer c.args.mapping.now in
    let long : length text ≡ c.args.mapping.now.len = length_of_text c.args.mapping.now.first c.args.mapping.now.len in
    elim c.if-mark_at-eq-DATA.branch [
      | then-mark_at-eq-DATA w ↦ (
        ap (λ t. length t) w.places-is ∙ length-set c.loop-p.places w.number_before.result c.loop-p.p ∙ c.loop-p.invariant.0,
        up_to_next (λ q. IsData text q → get_or c.if-mark_at-eq-DATA.places (mark_number 68 text q) 0 ≡ q) c.loop-p.p
            (λ q lt is.
            ap (λ t. get_or t (mark_number 68 text q) 0) w.places-is
            ∙ get_or-set_other c.loop-p.places w.number_before.result (mark_number 68 text q) c.loop-p.p 0
            (λ e. omega (arith, e, w.number_before.ensures.value, number_less 68 text q c.loop-p.p lt (omega (arith, long)) is))
            ∙ c.loop-p.invariant.1 q lt is)
            (λ is.
            ap (λ t. get_or t (mark_number 68 text c.loop-p.p) 0) w.places-is
            ∙ get_or-set_at c.loop-p.places w.number_before.result (mark_number 68 text c.loop-p.p) c.loop-p.p 0 (sym w.number_before.ensures.value)
            (omega (arith, w.number_before.ensures.few, c.loop-p.invariant.0))),
      )
      | else-mark_at-eq-DATA w ↦ (
        ap (λ t. length t) w.places-is ∙ c.loop-p.invariant.0,
        up_to_next (λ q. IsData text q → get_or c.if-mark_at-eq-DATA.places (mark_number 68 text q) 0 ≡ q) c.loop-p.p
            (λ q lt is. ap (λ t. get_or t (mark_number 68 text q) 0) w.places-is ∙ c.loop-p.invariant.1 q lt is)
            (λ is. absurd (w.if-mark_at-eq-DATA.false (c.mark_at.ensures ∙ is))),
      )
    ]

pub returns : goal.returns
returns c = λ p is.
    let below = marked_below (text_of_layer c.args.mapping.now) p 68 c.args.mapping.now.len (lit< tt)
    (omega (arith, length_of_text c.args.mapping.now.first c.args.mapping.now.len)) is in
    c.loop-p.invariant.1 p (omega (arith, below, c.loop-p-test.false)) is
