use Rattle.std.proofs.Common.{◌∙◌}
use Rattle.ec_code.specs.LrcFaults.{text_of_layer}
use Rattle.ec_code.proofs.LayoutLemmas.{length_of_text}
use Rattle.lrc_layers.proofs.TextLemmas.{whole_count}
use Rattle.lrc_layers.proofs.marks.count_of.Goals as goal

pub returns-clause-value : goal.returns-clause-value
returns-clause-value c =
    c.number_before.ensures.value
    ∙ whole_count c.args.mark (text_of_layer c.args.text.now) c.args.text.now.len (length_of_text c.args.text.now.first c.args.text.now.len)
