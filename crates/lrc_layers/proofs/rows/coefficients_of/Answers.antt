use Rattle.std.proofs.Common.{get_or, sym, ◌∙◌, arith, lit<}
use Rattle.ec_model.specs.Lrc.{mark_number, data_count, coding_count}
use Rattle.ec_code.specs.LrcFaults.{text_of_layer}
use Rattle.ec_code.proofs.LayoutLemmas.{length_of_text}
use Rattle.lrc_layers.proofs.CheckLemmas.{marked_below}
use Rattle.lrc_layers.proofs.MarkLemmas.{number_inside, counts_few}
use Rattle.lrc_layers.proofs.RowLemmas.{coding_entry_same}
use Rattle.lrc_layers.proofs.rows.coefficients_of.Goals as goal

pub number_before-r-requires-clause-inside : goal.number_before-r-requires-clause-inside
number_before-r-requires-clause-inside c =
    omega (arith, marked_below (text_of_layer c.args.layer.now) c.args.p 99 c.args.layer.now.len (lit< tt) (omega (arith, length_of_text c.args.layer.now.first c.args.layer.now.len)) c.requires.output)

pub number_before-r-requires-clause-p : goal.number_before-r-requires-clause-p
number_before-r-requires-clause-p c =
    omega (arith, c.requires.few, marked_below (text_of_layer c.args.layer.now) c.args.p 99 c.args.layer.now.len (lit< tt) (omega (arith, length_of_text c.args.layer.now.first c.args.layer.now.len)) c.requires.output)

pub number_before-requires-clause-inside : goal.number_before-requires-clause-inside
number_before-requires-clause-inside c =
    omega (arith, marked_below (text_of_layer c.args.layer.now) c.loop-q.q 68 c.args.layer.now.len (lit< tt) (omega (arith, length_of_text c.args.layer.now.first c.args.layer.now.len)) (sym c.mark_at.ensures ∙ c.if-mark_at-eq-DATA.true))

pub coding_entry-requires-clause-size : goal.coding_entry-requires-clause-size
coding_entry-requires-clause-size c =
    omega (arith, c.requires.few, counts_few (text_of_layer c.args.layer.now), length_of_text c.args.layer.now.first c.args.layer.now.len, c.count_of-k.ensures.value, c.count_of-m.ensures.value)

pub coding_entry-requires-clause-r : goal.coding_entry-requires-clause-r
coding_entry-requires-clause-r c =
    omega (arith, c.number_before-r.ensures.value, c.count_of-m.ensures.value, number_inside 99 (text_of_layer c.args.layer.now) c.args.p (lit< tt) c.requires.output)

pub coding_entry-requires-clause-j : goal.coding_entry-requires-clause-j
coding_entry-requires-clause-j c =
    omega (arith, c.number_before.ensures.value, c.count_of-k.ensures.value, number_inside 68 (text_of_layer c.args.layer.now) c.loop-q.q (lit< tt) (sym c.mark_at.ensures ∙ c.if-mark_at-eq-DATA.true))

pub returns : goal.returns
returns c = record {
  inputs = λ q is.
      coding_entry_same c.count_of-k.result (data_count (text_of_layer c.args.layer.now)) c.count_of-m.result (coding_count (text_of_layer c.args.layer.now))
      c.number_before-r.result (mark_number 99 (text_of_layer c.args.layer.now) c.args.p) (mark_number 68 (text_of_layer c.args.layer.now) q)
      (get_or c.loop-q.coefficients q 0) c.count_of-k.ensures.value c.count_of-m.ensures.value c.number_before-r.ensures.value
      (c.loop-q.invariant.1 q (omega (
        arith,
        c.loop-q-test.false,
        marked_below (text_of_layer c.args.layer.now) q 68 16 (lit< tt)
            (omega (arith, c.requires.few, length_of_text c.args.layer.now.first c.args.layer.now.len)) is,
      )) is);
  others = c.loop-q.invariant.2;
}
