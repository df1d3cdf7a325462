use Rattle.std.proofs.Common.{◌∙◌, ◌++◌, ◌+◌, ap, sym, arith}
use Rattle.profile_texts.specs.SettingTexts.{bytes_of}
use Rattle.profile_texts.proofs.SettingLemmas.{pieces_left, pieces_left_parted, pieces_left_kept, pieces_left_ended, added, last_added}
use Rattle.profile_texts.proofs.settings.pieces.Goals as goal
use Rattle.profile_texts.proofs.settings.pieces.Goals.{then-is_parted+in_ok-push, else-is_parted}

pub loop-i-preserved : goal.loop-i-preserved
loop-i-preserved c = elim c.if-is_parted.branch [
  | then-is_parted+in_ok-push w ↦
      let is = sym c.is_parted.ensures ∙ w.if-is_parted.true in
      let e = pieces_left_parted c.args.text.now c.loop-i.start c.loop-i.i c.loop-i.level 0 c.loop-i.invariant.start (omega arith) is in
      record { level = omega arith; start = omega arith; pieces = rw (w.list-is, w.in_ok-push.ensures.items, w.start-is, w.level-is) (added c.loop-i.list.items _ (pieces_left c.args.text.now (c.loop-i.i + 1) (c.loop-i.i + 1) c.loop-i.level) _ (ap (λ ps. bytes_of c.loop-i.list.items ++ ps) (sym e) ∙ c.loop-i.invariant.pieces)) }
  | else-is_parted w ↦
      let is = sym c.is_parted.ensures ∙ w.if-is_parted.false in
      let e = pieces_left_kept c.args.text.now c.loop-i.start c.loop-i.i c.loop-i.level 0 c.loop-i.invariant.start (omega arith) is in
      let to = w.level_after-level.ensures.value in
      record { level = omega (arith, w.level_after-level.ensures.within); start = omega arith; pieces = cc }
]

pub returns : goal.returns
returns c =
    let e = pieces_left_ended c.args.text.now c.loop-i.start c.loop-i.i c.loop-i.level (omega arith) in
    rw c.in_ok-push-2.ensures.items (last_added c.loop-i.list.items _ _ (ap (λ ps. bytes_of c.loop-i.list.items ++ ps) (sym e) ∙ c.loop-i.invariant.pieces))
