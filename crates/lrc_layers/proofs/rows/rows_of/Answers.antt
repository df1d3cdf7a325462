use Rattle.std.proofs.Common.{◌<◌, length, subst, ◌∙◌, arith}
use Rattle.ec_model.specs.Lrc.{layer_text}
use Rattle.ec_code.specs.LrcFaults.{text_of_layer, layer_texts}
use Rattle.ec_code.proofs.LayoutLemmas.{length_of_text}
use Rattle.lrc_layers.proofs.TextLemmas.{length_of_texts}
use Rattle.lrc_layers.proofs.CheckLemmas.{short_layer}
use Rattle.lrc_layers.proofs.RowLemmas.{AddsLayer, units_stay, next_layer, output_inside}
use Rattle.lrc_layers.proofs.rows.rows_of.Goals as goal

pub data_rows-rows-requires : goal.data_rows-rows-requires
data_rows-rows-requires c = omega (arith, c.requires.whole.few, length_of_text c.args.mapping.now.first c.args.mapping.now.len)

pub add_layer-requires : goal.add_layer-requires
add_layer-requires c =
    omega (
      arith,
      c.requires.whole.few,
      length_of_text c.args.mapping.now.first c.args.mapping.now.len,
      short_layer c.args.mapping.now c.args.layers.now c.loop-i.i c.layer_of.result c.layer_of.ensures c.loop-i-test.true c.requires.lengths,
    )

pub loop-i-preserved : goal.loop-i-preserved
loop-i-preserved c =
    let texts = layer_texts c.args.layers.now in
    let lt : c.loop-i.i < length texts = omega (arith, c.loop-i-test.true, length_of_texts c.args.layers.now) in
    let adds : AddsLayer (layer_text texts c.loop-i.i) c.loop-i.rows c.add_layer.new.rows =
    subst (λ t. AddsLayer t c.loop-i.rows c.add_layer.new.rows) c.layer_of.ensures
    (record { made = c.add_layer.ensures.made; kept = c.add_layer.ensures.kept }) in (
      λ p j is lj. units_stay (text_of_layer c.args.mapping.now) texts c.loop-i.rows c.add_layer.new.rows c.loop-i.i p j lt c.requires.outputs adds is ∙ c.loop-i.invariant.0 p j is lj,
      next_layer (text_of_layer c.args.mapping.now) texts c.loop-i.rows c.add_layer.new.rows c.loop-i.i lt c.requires.inputs c.requires.outputs adds c.loop-i.invariant.1,
    )

pub returns-clause-outputs : goal.returns-clause-outputs
returns-clause-outputs c = λ i p is.
    c.loop-i.invariant.1 i p (omega (arith, c.loop-i-test.false, length_of_texts c.args.layers.now, output_inside (layer_texts c.args.layers.now) i p is)) is
