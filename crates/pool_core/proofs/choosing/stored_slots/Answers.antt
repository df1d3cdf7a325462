use Rattle.std.proofs.Common.{◌≡◌, ◌∙◌, ℕ, true, is_some, sym, arith}
use Rattle.std.proofs.lemmas.Bool.{false≢true}
use Rattle.auth_log.proofs.CallerLemmas.{slot_added, slot_left}
use Rattle.shard_store.specs.Shelves.{store_at}
use Rattle.pool_core.proofs.choosing.stored_slots.Goals as goal
use Rattle.pool_core.proofs.choosing.stored_slots.Goals.{then-is_stored, else-is_stored}

pub loop-p-preserved : goal.loop-p-preserved
loop-p-preserved c =
    let among : ℕ → Type 0 = λ p. is_some (store_at c.args.shelf.now p) ≡ true in
    elim c.if-is_stored.branch [
      | then-is_stored w ↦ rw w.up-is (slot_added among c.loop-p.up c.loop-p.p c.loop-p-test.true (sym w.if-is_stored.ensures) c.loop-p.invariant)
      | else-is_stored w ↦ rw w.up-is (slot_left among c.loop-p.up c.loop-p.p (λ h. false≢true (w.if-is_stored.ensures ∙ h)) c.loop-p.invariant)
    ]

pub returns : goal.returns
returns c = λ p. (λ has. let both = (c.loop-p.invariant p).0 has in (omega (arith, both.0, c.loop-p.auto.p-end), both.1), λ both. (c.loop-p.invariant p).1 (omega (arith, both.0, c.loop-p-test.false), both.1))
