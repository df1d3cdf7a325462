use Rattle.std.proofs.Common.{◌/◌, ◌∙◌, ap, arith}
use Rattle.ec_model.specs.Lrc.{data_count, group_count, position_count, mapping_mark, global_layer, local_layer}
use Rattle.ec_code.proofs.LayoutLemmas.{data_of_made}
use Rattle.lrc_layers.proofs.NumberLemmas.{made_marks, made_text, made_layers, positions_few, group_small}
use Rattle.lrc_layers.proofs.numbers.made_by.Goals as goal

pub mapping_marks-requires-clause-l : goal.mapping_marks-requires-clause-l
mapping_marks-requires-clause-l c = omega (arith, group_small c.args.k c.args.m c.args.l c.requires, positions_few c.args.k c.args.m c.args.l c.requires)

pub returns-clause-mapping : goal.returns-clause-mapping
returns-clause-mapping c =
    made_text (mapping_mark (c.args.k / group_count c.args.k c.args.m c.args.l) c.args.l) c.mapping_marks.result c.of-mapping.result.first
    (position_count c.args.k c.args.m c.args.l) c.of-mapping.result.len c.of-mapping.ensures.first c.of-mapping.ensures.len
    c.mapping_marks.ensures.long (positions_few c.args.k c.args.m c.args.l c.requires) c.mapping_marks.ensures.value

pub returns-clause-data_chunks : goal.returns-clause-data_chunks
returns-clause-data_chunks c =
    c.of-mapping.ensures.data_chunks
    ∙ ap (λ t. data_count t) (made_marks (mapping_mark (c.args.k / group_count c.args.k c.args.m c.args.l) c.args.l) c.mapping_marks.result
    (position_count c.args.k c.args.m c.args.l) c.mapping_marks.ensures.long (positions_few c.args.k c.args.m c.args.l c.requires) c.mapping_marks.ensures.value)
    ∙ data_of_made c.args.k c.args.m c.args.l c.requires.some_data c.requires.even

pub returns-clause-marks : goal.returns-clause-marks
returns-clause-marks c =
    ap (λ t. data_count t) (made_text (mapping_mark (c.args.k / group_count c.args.k c.args.m c.args.l) c.args.l) c.mapping_marks.result c.of-mapping.result.first
    (position_count c.args.k c.args.m c.args.l) c.of-mapping.result.len c.of-mapping.ensures.first c.of-mapping.ensures.len
    c.mapping_marks.ensures.long (positions_few c.args.k c.args.m c.args.l c.requires) c.mapping_marks.ensures.value)
    ∙ data_of_made c.args.k c.args.m c.args.l c.requires.some_data c.requires.even

pub returns-clause-layers : goal.returns-clause-layers
returns-clause-layers c =
    made_layers c.layers_with.result (global_layer c.args.k c.args.m c.args.l) (local_layer c.args.k c.args.m c.args.l) (group_count c.args.k c.args.m c.args.l)
    c.layers_with.ensures.count c.layers_with.ensures.global c.layers_with.ensures.locals
