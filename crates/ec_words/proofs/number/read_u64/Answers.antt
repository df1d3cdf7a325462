use Rattle.std.proofs.Common.{ap, Ok, subst}
use Rattle.ec_words.specs.Numbers.{IsNumberText}
use Rattle.ec_words.proofs.NumberLemmas.{same_number, ok_same}
use Rattle.ec_words.proofs.number.read_u64.Goals as goal

pub returns-in-Some-clause-value : goal.returns-in-Some-clause-value
returns-in-Some-clause-value c = λ n. (
  λ e. subst (λ m. IsNumberText c.args.text.now m) (ok_same c.in-Some.n n e) c.in-Some.ensures.some,
  λ is. ap (λ m. Ok m) (same_number c.args.text.now c.in-Some.n n c.in-Some.ensures.some is),
)
