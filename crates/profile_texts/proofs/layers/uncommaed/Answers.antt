use Rattle.std.proofs.Common.{◌++◌, refl, ap, sym, ◌∙◌, arith}
use Rattle.std.proofs.lemmas.List.{append-nil}
use Rattle.profile_texts.proofs.LayerLemmas.{kept_byte, dropped_byte, of_rest, ended}
use Rattle.profile_texts.proofs.layers.uncommaed.Goals as goal
use Rattle.profile_texts.proofs.layers.uncommaed.Goals.{then-not-is_dropped+in_ok-push, else-not-is_dropped}

pub loop-i-preserved : goal.loop-i-preserved
loop-i-preserved c =
    let is = of_rest c.args.text.now c.loop-i.i c.loop-i.quoted c.is_dropped.result c.is_dropped.ensures in
    elim c.if-not-is_dropped.branch [
      | then-not-is_dropped+in_ok-push w ↦
          rw w.kept-is
          (kept_byte c.args.text.now _ c.loop-i.kept.items w.push.new.self.items c.loop-i.i c.loop-i.quoted c.loop-i.escaped c.quoted_after-is_quoted.result c.escaped_after-escaped.result
          (omega arith) c.quoted_after-is_quoted.ensures c.escaped_after-escaped.ensures c.loop-i.invariant w.in_ok-push.ensures.items (sym is ∙ w.if-not-is_dropped.true))
      | else-not-is_dropped w ↦
          rw w.kept-is
          (dropped_byte c.args.text.now _ c.loop-i.kept.items c.loop-i.kept.items c.loop-i.i c.loop-i.quoted c.loop-i.escaped c.quoted_after-is_quoted.result c.escaped_after-escaped.result
          (omega arith) c.quoted_after-is_quoted.ensures c.escaped_after-escaped.ensures c.loop-i.invariant refl (sym is ∙ w.if-not-is_dropped.false))
    ]

pub returns : goal.returns
returns c =
    sym (append-nil c.loop-i.kept.items) ∙ ap (λ t. c.loop-i.kept.items ++ t) (sym (ended c.args.text.now c.loop-i.i c.loop-i.quoted c.loop-i.escaped (omega arith)))
    ∙ c.loop-i.invariant
