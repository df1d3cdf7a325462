use Rattle.std.proofs.Common.{ℕ, refl, arith}
use Rattle.std.proofs.lemmas.Bool.{false≢true}
use Rattle.auth_log.proofs.CallerLemmas.{slot_added, slot_left}
use Rattle.pool_moves.specs.Choosing.{StoreHolds}
use Rattle.pool_core.proofs.choosing.holders.Goals as goal
use Rattle.pool_core.proofs.choosing.holders.Goals.{then-holds_version, else-holds_version}

pub loop-p-preserved : goal.loop-p-preserved
loop-p-preserved c =
    let among : ℕ → Type 0 = λ p. StoreHolds c.args.shelf.now p c.args.version.now in
    elim c.if-holds_version.branch [
      | then-holds_version w ↦ rw w.holding-is (slot_added among c.loop-p.holding c.loop-p.p c.loop-p-test.true (w.if-holds_version.ensures.0 refl) c.loop-p.invariant)
      | else-holds_version w ↦ rw w.holding-is (slot_left among c.loop-p.holding c.loop-p.p (λ h. false≢true (w.if-holds_version.ensures.1 h)) c.loop-p.invariant)
    ]

pub returns : goal.returns
returns c = λ p. (λ has. ((c.loop-p.invariant p).0 has).1, λ held. (c.loop-p.invariant p).1 (omega (arith, held.below, c.loop-p-test.false), held))
