use Rattle.std.proofs.Common.{sym}
use Rattle.lrc_layers.proofs.TextLemmas.{layer_text_at}
use Rattle.lrc_layers.proofs.marks.layer_of.Goals as goal

pub returns : goal.returns
returns c = sym (layer_text_at c.args.layers.now c.args.i c.requires)
