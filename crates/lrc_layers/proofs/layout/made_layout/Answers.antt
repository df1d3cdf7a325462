use Rattle.std.proofs.Common.{refl, sym, subst, ◌∙◌, arith}
use Rattle.ec_model.specs.Lrc.{mapping_of, layers_of}
use Rattle.ec_code.specs.LrcFaults.{text_of_layer, layer_texts}
use Rattle.ec_code.proofs.LrcRefusalLemmas.{first_of_texts, none_of_texts, made_layout_first, made_layout_accepted}
use Rattle.lrc_layers.specs.Layouts.{IsMapping}
use Rattle.lrc_layers.proofs.NumberLemmas.{positions_few, group_small, made_len, made_mapping}
use Rattle.lrc_layers.proofs.LayoutFaultLemmas.{sound_of}
use Rattle.lrc_layers.proofs.layout.made_layout.Goals as goal

pub overflow_cast-l : goal.overflow_cast-l
overflow_cast-l c =
    let groups = c.in_default.ensures.groups refl in
    omega (arith, group_small c.args.k c.args.m c.args.l groups, positions_few c.args.k c.args.m c.args.l groups)

pub layout_fault-requires : goal.layout_fault-requires
layout_fault-requires c =
    omega (
      arith,
      c.text_of-mapping.ensures.len,
      made_len c.made_by.result.0 c.args.k c.args.m c.args.l c.made_by.ensures.mapping,
      positions_few c.args.k c.args.m c.args.l (c.in_default.ensures.groups refl),
    )

pub invariant_of-result : goal.invariant_of-result
invariant_of-result c = record {
  sound = sound_of (text_of_layer c.text_of-mapping.result) (layer_texts c.made_by.result.1) c.args.profile.now.stripe_unit c.args.profile.now.min_size
      (subst IsMapping (sym (c.text_of-mapping.ensures.text ∙ c.made_by.ensures.mapping)) (made_mapping c.args.k c.args.m c.args.l (c.in_default.ensures.groups refl)))
      (c.in-None.ensures.accepted refl);
}

pub returns-in-Some-layout_fault-clause-refused : goal.returns-in-Some-layout_fault-clause-refused
returns-in-Some-layout_fault-clause-refused c =
    made_layout_first c.args.profile.now c.in-Some-layout_fault.fault c.args.k c.args.m c.args.l
    (record { of_lrc = c.requires.plugin; first = c.requires.k; second = c.requires.m; third = c.requires.l }) (c.in_default.ensures.groups refl)
    (first_of_texts (text_of_layer c.text_of-mapping.result) (mapping_of c.args.k c.args.m c.args.l) (layer_texts c.made_by.result.1) (layers_of c.args.k c.args.m c.args.l)
    c.args.profile.now.stripe_unit c.args.profile.now.min_size c.in-Some-layout_fault.fault (c.text_of-mapping.ensures.text ∙ c.made_by.ensures.mapping)
    c.made_by.ensures.layers c.in-Some-layout_fault.ensures.refused)

pub returns-in-None-clause-accepted : goal.returns-in-None-clause-accepted
returns-in-None-clause-accepted c = λ _.
    made_layout_accepted c.args.profile.now c.args.k c.args.m c.args.l
    (record { of_lrc = c.requires.plugin; first = c.requires.k; second = c.requires.m; third = c.requires.l }) (c.in_default.ensures.groups refl)
    (none_of_texts (text_of_layer c.text_of-mapping.result) (mapping_of c.args.k c.args.m c.args.l) (layer_texts c.made_by.result.1) (layers_of c.args.k c.args.m c.args.l)
    c.args.profile.now.stripe_unit c.args.profile.now.min_size (c.text_of-mapping.ensures.text ∙ c.made_by.ensures.mapping) c.made_by.ensures.layers (c.in-None.ensures.accepted refl))
