use Rattle.std.proofs.Common.{subst}
use Rattle.std.specs.FinMap as fin
use Rattle.ec_pipeline.specs.Drafts.{HasSize}
use Rattle.ec_pipeline.proofs.FindLemmas.{found_shown}
use Rattle.ec_pipeline.proofs.pipeline.Pipeline.stat.Goals as goal

pub returns-in-Some-clause-value : goal.returns-in-Some-clause-value
returns-in-Some-clause-value c code unit m head shown =
    let there = c.found.result in
    subst (HasSize (fin.get m c.args.name.now)) c.in-Some.is
    (found_shown code unit c.args.joined.0 m head c.args.shelf.now c.args.name.now there.0.k there.0.unit there.1 c.found.ensures.value shown).2

pub returns-in-None-clause-value : goal.returns-in-None-clause-value
returns-in-None-clause-value c code unit m head shown =
    let there = c.found.result in
    subst (HasSize (fin.get m c.args.name.now)) c.in-None.is
    (found_shown code unit c.args.joined.0 m head c.args.shelf.now c.args.name.now there.0.k there.0.unit there.1 c.found.ensures.value shown).2
