use Rattle.std.proofs.Common.{refl, sym, subst, arith}
use Rattle.ec_model.specs.Lrc.{IsLrc}
use Rattle.ec_code.specs.LrcFaults.{text_of_layer, mapping_text, layer_texts}
use Rattle.ec_code.proofs.LrcRefusalLemmas.{first_of_texts, none_of_texts, text_layout_first, text_layout_accepted, code_by_texts}
use Rattle.lrc_layers.specs.Layouts.{IsMapping}
use Rattle.lrc_layers.proofs.LayoutFaultLemmas.{mapping_passes, sound_of}
use Rattle.lrc_layers.proofs.layout.text_layout.Goals as goal

pub layout_fault-requires : goal.layout_fault-requires
layout_fault-requires c =
    omega (arith, c.text_of-text.ensures.len, (mapping_passes c.args.mapping.now (c.in_default.ensures.passes refl)).few)

pub invariant_of-result : goal.invariant_of-result
invariant_of-result c = record {
  sound = sound_of (text_of_layer c.text_of-text.result) (layer_texts c.args.layers.now) c.args.profile.now.stripe_unit c.args.profile.now.min_size
      (subst IsMapping (sym c.text_of-text.ensures.text) (c.in_default.ensures.passes refl)) (c.in-None.ensures.accepted refl);
}

pub returns-in-Some-layout_fault-clause-refused : goal.returns-in-Some-layout_fault-clause-refused
returns-in-Some-layout_fault-clause-refused c =
    text_layout_first c.args.profile.now c.in-Some-layout_fault.fault c.args.mapping.now c.args.layers.now
    (record { of_lrc = c.requires.plugin; written = c.requires.written; first = c.requires.mapping; second = c.requires.layers })
    (mapping_passes c.args.mapping.now (c.in_default.ensures.passes refl))
    (first_of_texts (text_of_layer c.text_of-text.result) (mapping_text c.args.mapping.now) (layer_texts c.args.layers.now) (layer_texts c.args.layers.now)
    c.args.profile.now.stripe_unit c.args.profile.now.min_size c.in-Some-layout_fault.fault c.text_of-text.ensures.text refl c.in-Some-layout_fault.ensures.refused)

pub returns-in-None-clause-accepted : goal.returns-in-None-clause-accepted
returns-in-None-clause-accepted c = λ _.
    text_layout_accepted c.args.profile.now c.args.mapping.now c.args.layers.now
    (record { of_lrc = c.requires.plugin; written = c.requires.written; first = c.requires.mapping; second = c.requires.layers })
    (mapping_passes c.args.mapping.now (c.in_default.ensures.passes refl))
    (none_of_texts (text_of_layer c.text_of-text.result) (mapping_text c.args.mapping.now) (layer_texts c.args.layers.now) (layer_texts c.args.layers.now)
    c.args.profile.now.stripe_unit c.args.profile.now.min_size c.text_of-text.ensures.text refl (c.in-None.ensures.accepted refl))

pub returns-in-None-clause-made : goal.returns-in-None-clause-made
returns-in-None-clause-made c = λ code is.
    code_by_texts c.args.profile.now c.args.mapping.now c.args.layers.now code
    (record { of_lrc = c.requires.plugin; written = c.requires.written; first = c.requires.mapping; second = c.requires.layers })
    (subst (λ t. IsLrc t (layer_texts c.args.layers.now) code) c.text_of-text.ensures.text is)
