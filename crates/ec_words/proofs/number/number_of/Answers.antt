use Rattle.std.proofs.lemmas.Bool.{both_ways}
use Rattle.ec_words.proofs.NumberLemmas.{number_of_parse, parsed_of_number, starts_of_number, utf8_of_number}
use Rattle.ec_words.proofs.number.number_of.Goals as goal

pub returns-then-not-starts_as_number-clause-none : goal.returns-then-not-starts_as_number-clause-none
returns-then-not-starts_as_number-clause-none c = λ n is. both_ways c.starts_as_number.result c.if-not-starts_as_number.true (c.starts_as_number.ensures.1 (starts_of_number c.args.text.now n is))

pub returns-in-Ok-parse-clause-some : goal.returns-in-Ok-parse-clause-some
returns-in-Ok-parse-clause-some c =
    number_of_parse c.args.text.now c.in-Ok.digits.now c.in-Ok-parse.n c.in-Ok.ensures.cases.0 (c.starts_as_number.ensures.0 c.if-not-starts_as_number.false) c.in-Ok-parse.ensures.value.0.0 c.in-Ok-parse.ensures.value.0.1

pub returns-in-Err-parse-clause-none : goal.returns-in-Err-parse-clause-none
returns-in-Err-parse-clause-none c = λ n is. c.in-Err-parse.ensures.value.0 (parsed_of_number c.args.text.now c.in-Ok.digits.now n c.in-Ok.ensures.cases.0 is)

pub returns-in-Err-clause-none : goal.returns-in-Err-clause-none
returns-in-Err-clause-none c = λ n is. c.in-Err.ensures.cases.0 (utf8_of_number c.args.text.now n is)
