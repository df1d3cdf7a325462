use Rattle.std.proofs.Common.{Some, None, length, refl, sym, subst}
use Rattle.std.proofs.lemmas.Bool.{false≢true}
use Rattle.auth_log.specs.Choice.{PeeringInput, Survey, IsSurvey, IsSufficient, JoinedLieBelow, said_in}
use Rattle.auth_log.specs.Inner.{IsLeastUndecided}
use Rattle.auth_log.proofs.ChoiceLemmas.{is_sufficient, is_blocked, is_chosen}
use Rattle.auth_log.proofs.LawLemmas.{blocked_not_sufficient}
use Rattle.auth_log.proofs.choice.choose.Goals as goal

pub least_undecided-requires : goal.least_undecided-requires
least_undecided-requires g c =
    let code = (goal.Code-dyn g c.args.code.now).meaning c.args.code.now.1 in
    subst (JoinedLieBelow code.n) (sym c.as_slice.ensures) c.requires

pub returns-in-Some-clause-blocked : goal.returns-in-Some-clause-blocked
returns-in-Some-clause-blocked g c =
    let code = (goal.Code-dyn g c.args.code.now).meaning c.args.code.now.1 in
    let peers : PeeringInput = record { kept = c.args.intervals.now; said = said_in c.args.infos.now; up = c.args.up.0 } in
    let survey : Survey = record { eligible = c.survey.inside.eligible.0; epoch = c.survey.inside.epoch; version = c.survey.inside.version } in
    let surveyed : IsSurvey peers survey = subst (IsSurvey peers) (sym c.survey.view_is) c.of-survey.ensures in
    is_blocked code peers survey c.in-Some.epoch surveyed
    (subst (λ kept. IsLeastUndecided code survey.eligible survey.epoch kept (length kept) (Some c.in-Some.epoch)) c.as_slice.ensures c.in-Some.ensures)

pub returns-in-Some-clause-sufficient : goal.returns-in-Some-clause-sufficient
returns-in-Some-clause-sufficient g c =
    let code = (goal.Code-dyn g c.args.code.now).meaning c.args.code.now.1 in
    let peers : PeeringInput = record { kept = c.args.intervals.now; said = said_in c.args.infos.now; up = c.args.up.0 } in
    let blocked = returns-in-Some-clause-blocked g c in
    (λ e. absurd (false≢true e), λ good. absurd (blocked_not_sufficient code peers c.in-Some.epoch c.survey.inside.eligible.0 blocked good))

pub returns-in-None-clause-sufficient : goal.returns-in-None-clause-sufficient
returns-in-None-clause-sufficient g c =
    let code = (goal.Code-dyn g c.args.code.now).meaning c.args.code.now.1 in
    let peers : PeeringInput = record { kept = c.args.intervals.now; said = said_in c.args.infos.now; up = c.args.up.0 } in
    let survey : Survey = record { eligible = c.survey.inside.eligible.0; epoch = c.survey.inside.epoch; version = c.survey.inside.version } in
    let surveyed : IsSurvey peers survey = subst (IsSurvey peers) (sym c.survey.view_is) c.of-survey.ensures in (
      λ _. is_sufficient code peers survey surveyed
          (subst (λ kept. IsLeastUndecided code survey.eligible survey.epoch kept (length kept) None) c.as_slice.ensures c.in-None.ensures),
      λ _. refl,
    )

pub returns-in-None-clause-choice : goal.returns-in-None-clause-choice
returns-in-None-clause-choice g c =
    let code = (goal.Code-dyn g c.args.code.now).meaning c.args.code.now.1 in
    let peers : PeeringInput = record { kept = c.args.intervals.now; said = said_in c.args.infos.now; up = c.args.up.0 } in
    let survey : Survey = record { eligible = c.survey.inside.eligible.0; epoch = c.survey.inside.epoch; version = c.survey.inside.version } in
    let surveyed : IsSurvey peers survey = subst (IsSurvey peers) (sym c.survey.view_is) c.of-survey.ensures in
    let good : IsSufficient code peers = (returns-in-None-clause-sufficient g c).0 refl in
    is_chosen code peers survey surveyed good
