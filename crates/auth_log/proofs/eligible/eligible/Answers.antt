use Rattle.std.proofs.Common.{ℕ, refl}
use Rattle.std.proofs.lemmas.Bool.{false≢true}
use Rattle.auth_log.specs.Choice.{Info, PeeringInput, IsEligible, said_in}
use Rattle.auth_log.proofs.EligibleLemmas.{slot_added, slot_left}
use Rattle.auth_log.proofs.eligible.eligible.Goals as goal
use Rattle.auth_log.proofs.eligible.eligible.Goals.{then-is_eligible, else-is_eligible}

pub loop-p-preserved : goal.loop-p-preserved
loop-p-preserved c =
    let peers : PeeringInput = record { kept = c.args.intervals.now; said = said_in c.args.infos.now; up = c.args.up.0 } in
    let among : ℕ → Type 0 = λ p. (info : Info) × IsEligible peers p info in
    elim c.if-is_eligible.branch [
      | then-is_eligible w ↦ rw w.eligible-is (slot_added among c.loop-p.eligible c.loop-p.p c.loop-p-test.true (w.if-is_eligible.ensures.0 refl) c.loop-p.invariant)
      | else-is_eligible w ↦ rw w.eligible-is (slot_left among c.loop-p.eligible c.loop-p.p (λ h. false≢true (w.if-is_eligible.ensures.1 h)) c.loop-p.invariant)
    ]
