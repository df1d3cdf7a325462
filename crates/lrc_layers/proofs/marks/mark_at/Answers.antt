use Rattle.std.proofs.Common.{sym, arith}
use Rattle.ec_code.specs.LrcFaults.{text_of_layer}
use Rattle.ec_code.proofs.LayoutLemmas.{length_of_text}
use Rattle.lrc_layers.proofs.TextLemmas.{mark_inside, mark_past}
use Rattle.lrc_layers.proofs.marks.mark_at.Goals as goal

pub returns-then-p-text : goal.returns-then-p-text
returns-then-p-text c = sym (mark_inside c.args.text.now.first c.args.text.now.len c.args.p (omega arith))

pub returns-else-p-text : goal.returns-else-p-text
returns-else-p-text c =
    sym (mark_past (text_of_layer c.args.text.now) c.args.p (omega (arith, length_of_text c.args.text.now.first c.args.text.now.len)))
