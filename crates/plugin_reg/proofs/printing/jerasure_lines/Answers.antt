use Rattle.std.proofs.Common.{[], ◌∷◌, ◌∙◌}
use Rattle.std.specs.Prelude.{codes}
use Rattle.std.specs.Fmt.{decimal}
use Rattle.ec_code.specs.Settings.{Setting}
use Rattle.plugin_reg.proofs.PushLemmas.{one_more_line}
use Rattle.plugin_reg.proofs.printing.jerasure_lines.Goals as goal

pub returns : goal.returns
returns c =
    let s0 : Setting = record { key = codes "k"; value = decimal c.args.k } in
    let l0 = one_more_line ([]) s0 c.new-list.result.items c.push_number.new.list.items c.new-list.ensures.items c.in_ok-push_number.ensures in
    let s1 : Setting = record { key = codes "m"; value = decimal c.args.m } in
    let l1 = one_more_line (s0 ∷ []) s1 c.push_number.new.list.items c.push_number-2.new.list.items l0 c.in_ok-push_number-2.ensures in
    let s2 : Setting = record { key = codes "min_size"; value = decimal c.args.least } in
    let l2 = one_more_line (s0 ∷ s1 ∷ []) s2 c.push_number-2.new.list.items c.push_number-3.new.list.items l1 c.in_ok-push_number-3.ensures in
    let s3 : Setting = record { key = codes "plugin"; value = codes "jerasure" } in
    let l3 = one_more_line (s0 ∷ s1 ∷ s2 ∷ []) s3 c.push_number-3.new.list.items c.push_text.new.list.items l2 c.in_ok-push_text.ensures in
    let s4 : Setting = record { key = codes "stripe_unit"; value = decimal c.args.unit } in
    let l4 = one_more_line (s0 ∷ s1 ∷ s2 ∷ s3 ∷ []) s4 c.push_text.new.list.items c.push_number-4.new.list.items l3 c.in_ok-push_number-4.ensures in
    let s5 : Setting = record { key = codes "technique"; value = codes "reed_sol_van" } in
    let l5 = one_more_line (s0 ∷ s1 ∷ s2 ∷ s3 ∷ s4 ∷ []) s5 c.push_number-4.new.list.items c.push_text-2.new.list.items l4 c.in_ok-push_text-2.ensures in
    let s6 : Setting = record { key = codes "w"; value = codes "8" } in
    let l6 = one_more_line (s0 ∷ s1 ∷ s2 ∷ s3 ∷ s4 ∷ s5 ∷ []) s6 c.push_text-2.new.list.items c.push_text-3.new.list.items l5 c.in_ok-push_text-3.ensures in
    c.of.ensures ∙ l6
