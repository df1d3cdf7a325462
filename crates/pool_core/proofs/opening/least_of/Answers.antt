use Rattle.std.proofs.Common.{arith}
use Rattle.ec_code.proofs.RefusalLemmas.{some_coding}
use Rattle.pool_core.proofs.ProfileLemmas.{least_lies}
use Rattle.pool_core.proofs.opening.least_of.Goals as goal

pub overflow_cast-result : goal.overflow_cast-result
overflow_cast-result c =
    let code = c.requires.code in
    let lies = least_lies c.args.profile.now code.0 c.in-Some.least c.in-Some.is c.requires.accepted code.1 in
    omega (arith, lies.1, code.2.few)

pub default_min-requires : goal.default_min-requires
default_min-requires c =
    let code = c.requires.code in
    let less = some_coding c.args.profile.now code.0 c.requires.accepted code.1 in
    omega (arith, less, code.3.same_k, code.3.same_n)

pub returns-in-Some-clause-some : goal.returns-in-Some-clause-some
returns-in-Some-clause-some c =
    let code = c.requires.code in
    let lies = least_lies c.args.profile.now code.0 c.in-Some.least c.in-Some.is c.requires.accepted code.1 in
    omega (arith, lies.0, code.2.some_data)
