use Rattle.std.proofs.Common.{arith, lit<}
use Rattle.ec_code.specs.LrcFaults.{text_of_layer}
use Rattle.ec_code.proofs.LayoutLemmas.{length_of_text}
use Rattle.lrc_layers.proofs.CheckLemmas.{marked_below}
use Rattle.lrc_layers.proofs.rows.data_rows.Goals as goal

pub returns : goal.returns
returns c = λ p j is lt.
    let below = marked_below (text_of_layer c.args.mapping.now) p 68 c.args.mapping.now.len (lit< tt)
    (omega (arith, length_of_text c.args.mapping.now.first c.args.mapping.now.len)) is in
    c.loop-p.invariant.1 p j (omega (arith, below, c.loop-p-test.false)) is lt
