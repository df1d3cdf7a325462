use Rattle.std.proofs.Common.{◌≡◌, ◌≢◌, ◌∙◌, inr, get_or, length, sym, arith, refl}
use Rattle.std.proofs.lemmas.Bool.Decides.{nat_tests}
use Rattle.slot_journal.proofs.MakeLemmas.{gate_read, shut_of}
use Rattle.slot_journal.proofs.make.is_shut.Goals as goal

pub returns-clause-shut : goal.returns-clause-shut
returns-clause-shut g c holds there told =
    let told_then = c.length.ensures.reads ∙ told in
    let some : length there ≢ 0 = λ none. c.if-len-eq0.false (c.in_ok-len.ensures.value there told ∙ none) in
    let byte = gate_read there _ c.read_at.new.into _ some refl (c.in_ok-read_at.ensures.count there told_then) (c.in_ok-read_at.ensures.bytes there told_then) in
    let shut : get_or c.read_at.new.into 0 0 ≢ 79 = grind (arith, nat_tests, holds) in
    shut_of there some (λ is_open. shut (byte ∙ is_open))

pub returns-clause-unshut : goal.returns-clause-unshut
returns-clause-unshut g c holds there told =
    let told_then = c.length.ensures.reads ∙ told in
    let some : length there ≢ 0 = λ none. c.if-len-eq0.false (c.in_ok-len.ensures.value there told ∙ none) in
    let byte = gate_read there _ c.read_at.new.into _ some refl (c.in_ok-read_at.ensures.count there told_then) (c.in_ok-read_at.ensures.bytes there told_then) in
    let opens : get_or c.read_at.new.into 0 0 ≡ 79 = grind (arith, nat_tests, holds) in
    inr (sym byte ∙ opens)
