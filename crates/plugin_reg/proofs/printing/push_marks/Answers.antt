use Rattle.std.proofs.Common.{◌≡◌, sym, ◌∙◌, arith}
use Rattle.std.specs.Prelude.{slice_index}
use Rattle.std.proofs.lemmas.List.{get_or_past}
use Rattle.plugin_reg.proofs.PushLemmas.{one_more_mark}
use Rattle.plugin_reg.proofs.printing.push_marks.Goals as goal
use Rattle.plugin_reg.proofs.printing.push_marks.Goals.{then-i-lt16, else-i-lt16}

pub loop-i-preserved : goal.loop-i-preserved
loop-i-preserved c =
    let is : c.if-i-lt16.mark ≡ slice_index c.args.first.now c.loop-i.i =
    elim c.if-i-lt16.branch [
      | then-i-lt16 w ↦ w.mark-is
      | else-i-lt16 w ↦ w.mark-is ∙ sym (get_or_past c.args.first.now c.loop-i.i 0 (omega (arith, c.told-first, w.if-i-lt16.false)))
    ] in
    one_more_mark c.args.first.now c.args.list.now.items c.loop-i.list.items c.push.new.self.items c.loop-i.i c.if-i-lt16.mark c.loop-i.invariant is c.in_ok-push.ensures.items
