use Rattle.std.proofs.Common.{◌∙◌, ◌<◌, ◌^◌, List, refl, sym, ap, subst}
use Rattle.ec_model.specs.Codes.{LiesBelow}
use Rattle.ec_words.specs.Intervals.{Interval}
use Rattle.auth_log.specs.Choice.{IsSurvey, said_in}
use Rattle.map_model.specs.States.{kept}
use Rattle.pool_map.specs.Pool.{map_of}
use Rattle.pool_moves.proofs.MaskLemmas.{positions_below}
use Rattle.pool_core.proofs.pool.Pool.found.Goals as goal

pub state-requires-clause-joined : goal.state-requires-clause-joined
state-requires-clause-joined g c = λ e j w. subst (λ n. LiesBelow n j) (c.requires.same_n ∙ sym c.requires.code) (c.intervals-2.ensures.joined e j w)

pub state-requires-clause-holds : goal.state-requires-clause-holds
state-requires-clause-holds g c =
    subst (λ n. c.holders-holding.result.0 < 2 ^ n) (sym c.requires.code)
    (positions_below c.holders-holding.result.0 c.args.self.now.n (λ p member.
    let h = (c.holders-holding.ensures p).0 member in
    (c.requires.own.each p h.store h.there).below))

pub returns : goal.returns
returns g c =
    let m = map_of c.args.self.now.map in
    let surveyed = subst (λ (ivs : List Interval). IsSurvey (record { kept = ivs; said = said_in c.infos_of-infos.result; up = c.args.up.0 }) c.of-survey.result)
    c.intervals.ensures.value c.of-survey.ensures in (
      c.holders-holding.result.0,
      record {
        peers = record { kept = kept m.state; said = said_in c.infos_of-infos.result; up = c.args.up.0 };
        are_said = record { kept = refl; up_is = refl; said = λ p member. c.infos_of-infos.ensures p ((c.requires.up p).0 member).0 };
        survey = c.of-survey.result;
        surveyed = surveyed;
        version_is = ap (λ s. s.version) c.survey.view_is;
        are_holding = c.holders-holding.ensures;
        state_is = c.state.ensures (record { kept = kept m.state; said = said_in c.infos_of-infos.result; up = c.args.up.0 }) (sym c.intervals-2.ensures.value) surveyed;
      },
    )
