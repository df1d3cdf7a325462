use Rattle.std.proofs.Common.{ap, sym, ◌∙◌, arith}
use Rattle.ec_model.specs.Lrc.{data_count}
use Rattle.ec_code.specs.LrcFaults.{text_of_layer, layer_texts}
use Rattle.ec_code.proofs.LayoutLemmas.{length_of_text}
use Rattle.lrc_layers.proofs.TextLemmas.{length_of_texts}
use Rattle.lrc_layers.proofs.CheckLemmas.{short_layer}
use Rattle.lrc_layers.proofs.CodeLemmas.{some_layer, lrc_of_made, code_of_made}
use Rattle.lrc_layers.proofs.code.Lrc.of.Goals as goal

pub count_of-requires : goal.count_of-requires
count_of-requires c = omega (arith, c.args.layout.now.sound.whole.few, length_of_text c.args.layout.now.mapping.first c.args.layout.now.mapping.len)

pub overflow_cast-result : goal.overflow_cast-result
overflow_cast-result c = omega (arith, c.args.layout.now.sound.whole.few, length_of_text c.args.layout.now.mapping.first c.args.layout.now.mapping.len)

pub layer_of-requires : goal.layer_of-requires
layer_of-requires c =
    omega (arith, length_of_texts c.args.layout.now.layers, some_layer (text_of_layer c.args.layout.now.mapping) (layer_texts c.args.layout.now.layers) c.args.layout.now.sound)

pub count_of-requires-2 : goal.count_of-requires-2
count_of-requires-2 c =
    let some = some_layer (text_of_layer c.args.layout.now.mapping) (layer_texts c.args.layout.now.layers) c.args.layout.now.sound in
    omega (
      arith,
      c.args.layout.now.sound.whole.few,
      length_of_text c.args.layout.now.mapping.first c.args.layout.now.mapping.len,
      short_layer c.args.layout.now.mapping c.args.layout.now.layers 0 c.layer_of.result c.layer_of.ensures (omega (arith, length_of_texts c.args.layout.now.layers, some))
          c.args.layout.now.sound.lengths,
    )

pub places_of-requires : goal.places_of-requires
places_of-requires c = omega (arith, c.args.layout.now.sound.whole.few, length_of_text c.args.layout.now.mapping.first c.args.layout.now.mapping.len)

pub invariant_of-result : goal.invariant_of-result
invariant_of-result c = record {
  is_code = code_of_made (text_of_layer c.args.layout.now.mapping) (layer_texts c.args.layout.now.layers) c.count_of.result c.args.layout.now.mapping.len c.count_of-2.result
      c.rows_of-rows.result c.places_of.result c.read_rows.ensures c.args.layout.now.sound (record {
        data_chunks = c.count_of.ensures.value;
        positions = sym (length_of_text c.args.layout.now.mapping.first c.args.layout.now.mapping.len);
        divisor = c.count_of-2.ensures.value ∙ ap (λ t. data_count t) c.layer_of.ensures;
        units = c.rows_of-rows.ensures.units;
        outputs = c.rows_of-rows.ensures.outputs;
        data_places = c.places_of.ensures;
      });
}

pub returns : goal.returns
returns c =
    lrc_of_made (text_of_layer c.args.layout.now.mapping) (layer_texts c.args.layout.now.layers) c.count_of.result c.args.layout.now.mapping.len c.count_of-2.result
    c.rows_of-rows.result c.places_of.result c.args.layout.now.sound (record {
      data_chunks = c.count_of.ensures.value;
      positions = sym (length_of_text c.args.layout.now.mapping.first c.args.layout.now.mapping.len);
      divisor = c.count_of-2.ensures.value ∙ ap (λ t. data_count t) c.layer_of.ensures;
      units = c.rows_of-rows.ensures.units;
      outputs = c.rows_of-rows.ensures.outputs;
      data_places = c.places_of.ensures;
    })
