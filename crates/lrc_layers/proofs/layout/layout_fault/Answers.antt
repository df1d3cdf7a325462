use Rattle.std.proofs.Common.{refl}
use Rattle.ec_code.specs.LrcFaults.{text_of_layer, layer_texts}
use Rattle.ec_code.proofs.RefusalLemmas.{untrue}
use Rattle.ec_code.proofs.LrcRefusalLemmas.{least_of_layout_first}
use Rattle.lrc_layers.proofs.layout.layout_fault.Goals as goal

pub returns-then-is_out_of_range-clause-refused : goal.returns-then-is_out_of_range-clause-refused
returns-then-is_out_of_range-clause-refused c =
    least_of_layout_first (text_of_layer c.args.mapping.now) (layer_texts c.args.layers.now) c.args.unit c.args.least
    (record {
      lengths = λ g. untrue (c.if-has_length_fault.ensures.1 g);
      inputs = λ g. untrue (c.if-has_input_fault.ensures.1 g);
      outputs = λ g. untrue (c.if-has_output_fault.ensures.1 g);
    })
    (c.if-not-is_unit.ensures.0 refl) (c.if-is_out_of_range.ensures.0 refl)
