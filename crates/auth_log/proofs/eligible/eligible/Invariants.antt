use Rattle.std.proofs.Common.{◌↔◌, ◌<◌, ℕ}
use Rattle.ec_model.specs.Codes.{HasPosition}
use Rattle.auth_log.specs.Choice.{Info, IsEligible, said_in}
use Rattle.auth_log.proofs.eligible.eligible.Given as goal

abbrev pub invariant-loop-p : goal.invariant-loop-p
invariant-loop-p l =
    (p : ℕ) → HasPosition l.eligible p ↔ ((p < l.p) × ((info : Info) × IsEligible (record { kept = l.intervals; said = said_in l.infos; up = l.up.0 }) p info))
