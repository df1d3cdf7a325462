use Rattle.std.proofs.Common.{rules, ℕ, Result, Err, ◌≡◌, ◌∙◌, inl, inr, refl, sym, ap, subst}
use Rattle.shard_model.specs.Objects.{Geometry}
use Rattle.slot_journal.proofs.CallerLemmas.{syncs_and_reads_if, ok_unfailed}
use Rattle.slot_journal.specs.Text.{IsBadText}
use Rattle.slot_journal.specs.InUse.{text_in_use}
use Rattle.slot_journal.specs.Journal.{slot_of, gate_of, Holds}
use Rattle.slot_journal.specs.declared.fault.JournalFault.{JournalFault}
use Rattle.slot_journal.specs.declared.fault.JournalFault.TheVariants.{Failed, BadSlot, NoMemory}
use Rattle.shard_store.specs.Stories.{shard_head, IsBadAmong}
use Rattle.shard_store.proofs.MakeLemmas.{loaded, bad_story}
use Rattle.shard_store.proofs.store.Store.load.Goals as goal

pub returns-in_ok-state-in-Ok-clause-ok : goal.returns-in_ok-state-in-Ok-clause-ok
returns-in_ok-state-in-Ok-clause-ok g c text told =
    let geometry : Geometry = record { k = c.args.g.k; unit = c.args.g.unit } in
    loaded (g.R.Rig.reads c.load.new.rig) (g.R.Rig.images c.load.new.rig (g.R.Rig.clock c.load.new.rig)) _ text c.shard_head.result geometry c.args.slot c.args.n
    c.shard_head.ensures (ap slot_of c.with_place-journal.ensures.same ∙ c.in-Ok.ensures.fresh.slot_is) (λ i. c.args.n) c.into_vec.result.items c.in_ok-state-in-Ok.state
    (subst (λ j. Holds (g.R.Rig.reads c.load.new.rig) (g.R.Rig.images c.load.new.rig (g.R.Rig.clock c.load.new.rig)) j c.shard_head.result c.into_vec.result.items text) (sym c.with_place-journal.ensures.same)
    (subst (λ bs. Holds (g.R.Rig.reads c.load.new.rig) (g.R.Rig.images c.load.new.rig (g.R.Rig.clock c.load.new.rig)) c.in-Ok.journal c.shard_head.result bs text) (sym c.into_vec.ensures) (c.in-Ok.ensures.ok text told)))
    c.of-story.ensures c.in_ok-state-in-Ok.ensures.ok

pub returns-in_err-state-in-Ok-clause-bad_slot : goal.returns-in_err-state-in-Ok-clause-bad_slot
returns-in_err-state-in-Ok-clause-bad_slot g c at e text told =
    let geometry : Geometry = record { k = c.args.g.k; unit = c.args.g.unit } in
    inr (bad_story geometry c.shard_head.result (shard_head c.args.slot geometry c.args.n) text c.in-Ok.bodies (gate_of c.in-Ok.journal) at
    c.shard_head.ensures (c.in-Ok.ensures.ok text told).is_text c.with_place-journal.ensures.place
    (subst (λ bs. IsBadAmong geometry bs at) c.into_vec.ensures (c.in_err-state-in-Ok.ensures.bad at (search rules))))

pub returns-in-Err-BadSlot-clause-bad_slot : goal.returns-in-Err-BadSlot-clause-bad_slot
returns-in-Err-BadSlot-clause-bad_slot g c at e text told =
    let geometry : Geometry = record { k = c.args.g.k; unit = c.args.g.unit } in
    inl (subst (λ h. IsBadText h text at) c.shard_head.ensures (c.in-Err-BadSlot.ensures.bad_slot at (search rules) text told))

pub returns-in_err-state-in-Ok-clause-bad_durable : goal.returns-in_err-state-in-Ok-clause-bad_durable
returns-in_err-state-in-Ok-clause-bad_durable g c at e text told image said now =
    let holds = c.in-Ok.ensures.ok text told in
    ap (λ s. text_in_use s (image s)) (sym c.in-Ok.ensures.fresh.slot_is) ∙ holds.durable image said now

pub returns-in-Err-BadSlot-clause-bad_durable : goal.returns-in-Err-BadSlot-clause-bad_durable
returns-in-Err-BadSlot-clause-bad_durable g c at e text told =
    c.in-Err-BadSlot.ensures.bad_durable at (search rules) text told

is_bad : {T : Type 0} (fault : JournalFault) (at : ℕ) → fault ≡ BadSlot at → ◌≡◌ {A = Result T JournalFault} (Err fault) (Err Failed) → ⊥
is_bad fault at is failed = cc

is_memory : {T : Type 0} (fault : JournalFault) → fault ≡ NoMemory → ◌≡◌ {A = Result T JournalFault} (Err fault) (Err Failed) → ⊥
is_memory fault is failed = cc

pub returns-in_ok-state-in-Ok-clause-kept : goal.returns-in_ok-state-in-Ok-clause-kept
returns-in_ok-state-in-Ok-clause-kept g c = syncs_and_reads_if g.R.Rig.is_here g.R.Rig.reads g.R.Rig.said g.R.Rig.clock g.R.Rig.images g.R.Rig.faults g.R.Rig.syncs g.R.Rig.bytes_written g.R.Rig.bytes_read c.args.slot 1 _ _ c.args.rig.now c.load.new.rig (λ failed. absurd (ok_unfailed _ failed)) c.in-Ok.ensures.kept.on_slot

pub returns-in_err-state-in-Ok-clause-kept : goal.returns-in_err-state-in-Ok-clause-kept
returns-in_err-state-in-Ok-clause-kept g c = syncs_and_reads_if g.R.Rig.is_here g.R.Rig.reads g.R.Rig.said g.R.Rig.clock g.R.Rig.images g.R.Rig.faults g.R.Rig.syncs g.R.Rig.bytes_written g.R.Rig.bytes_read c.args.slot 1 _ _ c.args.rig.now c.load.new.rig (λ failed. absurd (ok_unfailed _ failed)) c.in-Ok.ensures.kept.on_slot

pub returns-in-Err-BadSlot-clause-kept : goal.returns-in-Err-BadSlot-clause-kept
returns-in-Err-BadSlot-clause-kept g c = syncs_and_reads_if g.R.Rig.is_here g.R.Rig.reads g.R.Rig.said g.R.Rig.clock g.R.Rig.images g.R.Rig.faults g.R.Rig.syncs g.R.Rig.bytes_written g.R.Rig.bytes_read c.args.slot 1 _ _ c.args.rig.now c.load.new.rig (λ failed. absurd (is_bad _ _ c.in-Err-BadSlot.field-0-is failed)) c.in-Err-BadSlot.ensures.kept.on_slot

pub returns-in-Err-NoMemory-clause-kept : goal.returns-in-Err-NoMemory-clause-kept
returns-in-Err-NoMemory-clause-kept g c = syncs_and_reads_if g.R.Rig.is_here g.R.Rig.reads g.R.Rig.said g.R.Rig.clock g.R.Rig.images g.R.Rig.faults g.R.Rig.syncs g.R.Rig.bytes_written g.R.Rig.bytes_read c.args.slot 1 _ _ c.args.rig.now c.load.new.rig (λ failed. absurd (is_memory _ c.in-Err-NoMemory.field-0-is failed)) c.in-Err-NoMemory.ensures.kept.on_slot

pub returns-in-Err-Failed-clause-kept : goal.returns-in-Err-Failed-clause-kept
returns-in-Err-Failed-clause-kept g c = syncs_and_reads_if g.R.Rig.is_here g.R.Rig.reads g.R.Rig.said g.R.Rig.clock g.R.Rig.images g.R.Rig.faults g.R.Rig.syncs g.R.Rig.bytes_written g.R.Rig.bytes_read c.args.slot 1 _ _ c.args.rig.now c.load.new.rig (λ failed. refl) c.in-Err-Failed.ensures.kept.on_slot
