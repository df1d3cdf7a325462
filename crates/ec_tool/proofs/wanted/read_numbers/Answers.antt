use Rattle.std.proofs.Common.{ap, Err}
use Rattle.ec_tool.proofs.WantedLemmas.{not_numbers}
use Rattle.ec_tool.proofs.wanted.read_numbers.Goals as goal

pub returns-in-Err-clause-none : goal.returns-in-Err-clause-none
returns-in-Err-clause-none c =
    not_numbers (λ text. text.now) c.args.texts.now c.loop-text.text-index _ c.loop-text-test.true (c.in-Err.ensures.bad_number.0 (ap (λ fault. Err fault) c.in-Err.ensures.faults))
