use Rattle.std.proofs.Common.{refl, sym, ◌∙◌}
use Rattle.plugin_reg.proofs.CallerLemmas.{element}
use Rattle.plugin_reg.proofs.picks.pick.Goals as goal

pub returns-in_err-init-in-Some-clause-unknown : goal.returns-in_err-init-in-Some-clause-unknown
returns-in_err-init-in-Some-clause-unknown g c = λ none.
    absurd (none c.in-Some.i c.index-codes-i.result c.in-Some.ensures.some.0 (c.in-Some.ensures.some.1 c.index-codes-i.result ∙ c.name.ensures))

pub returns-in_ok-init-in-Some-clause-unknown : goal.returns-in_ok-init-in-Some-clause-unknown
returns-in_ok-init-in-Some-clause-unknown g c = λ none.
    absurd (none c.in-Some.i c.index-codes-i.result c.in-Some.ensures.some.0 (c.in-Some.ensures.some.1 c.index-codes-i.result ∙ c.name.ensures))

pub returns-in-None-clause-refused : goal.returns-in-None-clause-refused
returns-in-None-clause-refused g c = λ box.
    let d = element c.args.codes.now box.0 box.1 in
    absurd (c.in-None.ensures.none refl box.0 d box.1 (box.2 d ∙ sym c.name.ensures))
