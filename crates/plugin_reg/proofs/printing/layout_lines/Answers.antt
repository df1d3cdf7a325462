use Rattle.std.proofs.Common.{[], ◌∷◌, ap, ◌∙◌}
use Rattle.std.specs.Prelude.{codes}
use Rattle.std.specs.Fmt.{decimal}
use Rattle.ec_code.specs.Settings.{Setting}
use Rattle.plugin_reg.specs.Canonical.{lines_of}
use Rattle.plugin_reg.proofs.PushLemmas.{one_more_line}
use Rattle.plugin_reg.proofs.printing.layout_lines.Goals as goal

pub returns : goal.returns
returns c = λ texts is.
    let s0 : Setting = record { key = codes "layers"; value = c.args.layers.now } in
    let l0 = one_more_line ([]) s0 c.new-list.result.items c.push_setting.new.list.items c.new-list.ensures.items c.in_ok-push_setting.ensures in
    let s1 : Setting = record { key = codes "mapping"; value = c.args.mapping.now } in
    let l1 = one_more_line (s0 ∷ []) s1 c.push_setting.new.list.items c.push_setting-2.new.list.items l0 c.in_ok-push_setting-2.ensures in
    let s2 : Setting = record { key = codes "min_size"; value = decimal c.args.least } in
    let l2 = one_more_line (s0 ∷ s1 ∷ []) s2 c.push_setting-2.new.list.items c.push_number.new.list.items l1 c.in_ok-push_number.ensures in
    let s3 : Setting = record { key = codes "plugin"; value = codes "lrc" } in
    let l3 = one_more_line (s0 ∷ s1 ∷ s2 ∷ []) s3 c.push_number.new.list.items c.push_text.new.list.items l2 c.in_ok-push_text.ensures in
    let s4 : Setting = record { key = codes "stripe_unit"; value = decimal c.args.unit } in
    let l4 = one_more_line (s0 ∷ s1 ∷ s2 ∷ s3 ∷ []) s4 c.push_text.new.list.items c.push_number-2.new.list.items l3 c.in_ok-push_number-2.ensures in
    c.of.ensures ∙ l4
    ∙ ap (λ t. lines_of (record { key = codes "layers"; value = t } ∷ s1 ∷ s2 ∷ s3 ∷ s4 ∷ [])) is
