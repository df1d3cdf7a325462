use Rattle.std.proofs.Common.{subst}
use Rattle.auth_log.specs.Choice.{PeeringInput, IsEligible, HasAll, said_in}
use Rattle.auth_log.proofs.EligibleLemmas.{eligible_said}
use Rattle.auth_log.proofs.OrderLemmas.{greatest_same, least_head_same}
use Rattle.auth_log.proofs.survey.Survey.of.Goals as goal

pub returns : goal.returns
returns c =
    let peers : PeeringInput = record { kept = c.args.intervals.now; said = said_in c.args.infos.now; up = c.args.up.0 } in
    let mask = c.eligible-eligible.result.0 in
    let all : HasAll (IsEligible peers) mask =
    subst (λ kept. HasAll (IsEligible (record { kept = kept; said = peers.said; up = peers.up })) mask) c.as_slice.ensures c.eligible-eligible.ensures in
    let same = eligible_said peers mask all in record {
      eligible = all;
      epoch = greatest_same _ _ _ same c.greatest_epoch-epoch.ensures;
      version = least_head_same _ _ _ _ same c.least_head-version.ensures;
    }
