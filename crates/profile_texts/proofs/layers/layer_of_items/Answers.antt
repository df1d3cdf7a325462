use Rattle.std.proofs.Common.{sym, arith}
use Rattle.profile_texts.proofs.LayerLemmas.{no_layer_of_many}
use Rattle.profile_texts.proofs.layers.layer_of_items.Goals as goal

pub returns-in-len3-up : goal.returns-in-len3-up
returns-in-len3-up c = sym (no_layer_of_many c.args.items.now (omega arith))
