use Rattle.std.proofs.Common.{rules, tests}
use Rattle.std.proofs.lemmas.Iterator.{cases_from_all, YieldsList-from_slice}
use Rattle.ec_tool.proofs.WordLemmas.{Is, IsNot, parameters_are_told}
use Rattle.ec_tool.proofs.words.are_parameters.Goals as goal

pub returns : goal.returns
returns c =
    parameters_are_told _ _
    (cases_from_all _ _ _ Is IsNot c.all.ensures.ran (YieldsList-from_slice c.args.words.now c.iter.ensures.rest) (λ x q k. search (rules, tests)) (λ x q k. search (rules, tests)))
