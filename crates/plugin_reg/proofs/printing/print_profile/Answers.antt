use Rattle.std.proofs.Common.{arith}
use Rattle.ec_code.proofs.RefusalLemmas.{some_coding}
use Rattle.plugin_reg.proofs.PrintLemmas.{printed_again, codes_kept}
use Rattle.plugin_reg.proofs.printing.print_profile.Goals as goal

pub least_of-least-requires : goal.least_of-least-requires
least_of-least-requires c =
    let less = some_coding c.args.profile.now c.requires.shape.0 c.requires.accepted c.requires.shape.1 in
    omega (arith, less, c.requires.shape.2.same_k, c.requires.shape.2.same_n)

pub profile_lines-requires : goal.profile_lines-requires
profile_lines-requires c =
    let less = some_coding c.args.profile.now c.requires.shape.0 c.requires.accepted c.requires.shape.1 in
    omega (arith, less, c.requires.shape.2.same_k, c.requires.shape.2.same_n)

pub returns-clause-again : goal.returns-clause-again
returns-clause-again c = λ writable.
    printed_again c.args.profile.now c.requires.shape.0 c.args.shape.k c.args.shape.n c.args.shape.lead c.in_ok-text.text writable c.requires.accepted
    c.requires.shape.1 c.requires.shape.2 (c.in_ok-text.ensures c.least_of-least.ensures)

pub returns-clause-codes : goal.returns-clause-codes
returns-clause-codes c = λ writable.
    codes_kept c.args.profile.now c.requires.shape.0 c.args.shape.k c.args.shape.n c.args.shape.lead c.in_ok-text.text writable c.requires.accepted
    c.requires.shape.1 c.requires.shape.2 (c.in_ok-text.ensures c.least_of-least.ensures)
