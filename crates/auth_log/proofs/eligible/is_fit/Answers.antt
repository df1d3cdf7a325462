use Rattle.std.proofs.Common.{rules, ◌≡◌, ◌∙◌, ap, sym}
use Rattle.std.specs.List.{list_any}
use Rattle.std.proofs.lemmas.Iterator.{YieldsList-from_slice}
use Rattle.std.proofs.lemmas.Iterator.Search.{any_from_yields_List}
use Rattle.auth_log.proofs.EligibleLemmas.{is_alive_in, fit_exactly}
use Rattle.auth_log.proofs.eligible.is_fit.Goals as goal

pub returns-then-not-info : goal.returns-then-not-info
returns-then-not-info c =
    let found : c.any.result ≡ list_any (is_alive_in c.args.info.now.les) c.args.intervals.now =
    any_from_yields_List (is_alive_in c.args.info.now.les) _ _ _ c.any.ensures.ran (YieldsList-from_slice c.args.intervals.now c.iter.ensures.rest) (λ x b q k. search rules) in
    fit_exactly c.args.intervals.now c.args.info.now c.any.result (ap (λ i. i.partial) (sym c.info.view_is) ∙ c.if-not-info.true) found
