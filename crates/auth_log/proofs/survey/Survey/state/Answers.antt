use Rattle.std.proofs.Common.{inl, Some, None, length, bit_and, sym, ap, ◌∙◌, subst}
use Rattle.auth_log.specs.Choice.{Survey, IsSurvey, JoinedLieBelow}
use Rattle.auth_log.specs.Inner.{IsLeastUndecided, IsStateOfJoined}
use Rattle.auth_log.specs.Meanings.{state_of}
use Rattle.auth_log.proofs.ChoiceLemmas.{is_sufficient, is_blocked}
use Rattle.auth_log.proofs.MaskLemmas.{both_below}
use Rattle.auth_log.proofs.StateLemmas.{state_joined}
use Rattle.auth_log.proofs.survey.Survey.state.Goals as goal

pub least_undecided-requires : goal.least_undecided-requires
least_undecided-requires g c =
    let code = (goal.Code-dyn g c.args.code.now).meaning c.args.code.now.1 in
    subst (JoinedLieBelow code.n) (sym c.as_slice.ensures) c.requires.joined

pub state_of_joined-requires : goal.state_of_joined-requires
state_of_joined-requires g c =
    let code = (goal.Code-dyn g c.args.code.now).meaning c.args.code.now.1 in
    both_below code.n c.args.holds.0 _ c.requires.holds

pub returns-in-Some : goal.returns-in-Some
returns-in-Some g c peers kept s =
    let code = (goal.Code-dyn g c.args.code.now).meaning c.args.code.now.1 in
    let survey : Survey = record { eligible = c.self.inside.eligible.0; epoch = c.self.inside.epoch; version = c.self.inside.version } in
    let surveyed : IsSurvey peers survey = subst (IsSurvey peers) (sym c.self.view_is) s in
    inl (is_blocked code peers survey c.in-Some.epoch surveyed
    (subst (λ ks. IsLeastUndecided code survey.eligible survey.epoch ks (length ks) (Some c.in-Some.epoch)) (c.as_slice.ensures ∙ sym kept) c.in-Some.ensures))

pub returns-in-None : goal.returns-in-None
returns-in-None g c peers kept s =
    let code = (goal.Code-dyn g c.args.code.now).meaning c.args.code.now.1 in
    let survey : Survey = record { eligible = c.self.inside.eligible.0; epoch = c.self.inside.epoch; version = c.self.inside.version } in
    let surveyed : IsSurvey peers survey = subst (IsSurvey peers) (sym c.self.view_is) s in
    let good = is_sufficient code peers survey surveyed
    (subst (λ ks. IsLeastUndecided code survey.eligible survey.epoch ks (length ks) None) (c.as_slice.ensures ∙ sym kept) c.in-None.ensures) in
    state_joined code peers c.args.self.now c.args.min c.args.holds.0 (state_of c.state_of_joined.result) s good
    (subst (λ e. IsStateOfJoined code c.args.self.now (bit_and c.args.holds.0 e) c.args.min (state_of c.state_of_joined.result)) (ap (λ v. v.eligible) c.self.view_is) c.state_of_joined.ensures)
