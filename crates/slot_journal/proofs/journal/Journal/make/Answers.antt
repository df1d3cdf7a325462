use Rattle.std.proofs.Common.{◌≡◌, ◌⊎◌, ◌+◌, ◌∷◌, [], inl, inr, ℕ, List, length, ap, sym, subst, refl, arith}
use Rattle.rig_disk.specs.Disk.{From, on_told}
use Rattle.rig_disk.proofs.Areas.{was_told}
use Rattle.rig_disk.proofs.FrameLemmas.{Spends-weaker}
use Rattle.rig_disk.proofs.Moments.{weaker, steps_on}
use Rattle.slot_journal.specs.InUse.{open_text}
use Rattle.slot_journal.specs.Journal.{InSlot, Makes}
use Rattle.slot_journal.specs.Text.{IsText}
use Rattle.slot_journal.specs.Writing.{first_text, next_gate, IsSameOrVoid, IsVoidOrFirst, ReadsBytes}
use Rattle.slot_journal.proofs.InUseLemmas.{area_holds, makes}
use Rattle.slot_journal.proofs.MakeLemmas.{first_is_text}
use Rattle.slot_journal.proofs.StepLemmas.{step_weaker}
use Rattle.slot_journal.proofs.WorkingLemmas.{is_made, made_within, works_in_area}
use Rattle.slot_journal.proofs.journal.Journal.make.Goals as goal

pub returns-clause-ok : goal.returns-clause-ok
returns-clause-ok g c =
    let head = c.args.head.now in
    let body = c.args.body.now in
    let slot = c.args.slot in
    let reads = g.R.Rig.reads c.write_first.new.rig in
    let images = g.R.Rig.images c.write_first.new.rig (g.R.Rig.clock c.write_first.new.rig) in
    let long : length head ≡ 23 = omega arith in
    let gate : next_gate 24 body ≡ 29 + length body = omega arith in
    is_made (g.R.Rig.reads c.args.rig.now) reads images slot head body _
    (λ text told.
    let was = was_told (g.R.Rig.reads c.args.rig.now slot 0) open_text text told in
    let first = c.in_ok-write_first.ensures.done (c.in_ok-shut.ensures.told (record { there = was.there; told_there = was.told })) in
    area_holds reads images _ head (body ∷ []) (first_text head body) (record { told = first.0; durable = first.1 })
    (subst (λ n. IsText head (body ∷ []) n (first_text head body)) gate (first_is_text head body long c.requires.some c.requires.fits)))
    (λ text told.
    let now = was_told (reads slot 0) open_text text told in
    let before = c.in_ok-shut.ensures.told_before (c.in_ok-write_first.ensures.told (record { there = now.there; told_there = now.told })) in
    (open_text before.there, ap (on_told open_text) before.told_there))
    (record { slot_is = refl; area_is = refl; serial_is = refl; unspent = refl }) (sym gate)

pub returns-in_err-shut-clause-any_moment : goal.returns-in_err-shut-clause-any_moment
returns-in_err-shut-clause-any_moment g c =
    let clock = g.R.Rig.clock in
    let images = g.R.Rig.images in
    let slot = c.args.slot in
    let rig = c.args.rig.now in
    let head = c.args.head.now in
    let body = c.args.body.now in
    let Was = ReadsBytes (g.R.Rig.reads rig slot 0) in
    let S = λ (a b : List ℕ). Was → IsSameOrVoid a b in
    let U = λ (a b : List ℕ). Was → IsSameOrVoid a b ⊎ IsVoidOrFirst head body b in
    let first_images = images rig (clock rig) in
    let P = InSlot first_images slot (Makes slot (g.R.Rig.reads rig slot) head body) in
    let leads = makes first_images slot (g.R.Rig.reads rig slot) head body in
    weaker clock images rig c.shut.new.rig (From first_images slot 0 U) P (step_weaker clock images slot 0 rig c.shut.new.rig S U (λ a b s was. inl (s was)) c.shut.ensures.any_moment) leads

pub returns-in_err-write_first-clause-any_moment : goal.returns-in_err-write_first-clause-any_moment
returns-in_err-write_first-clause-any_moment g c =
    let clock = g.R.Rig.clock in
    let images = g.R.Rig.images in
    let slot = c.args.slot in
    let rig = c.args.rig.now in
    let head = c.args.head.now in
    let body = c.args.body.now in
    let Was = ReadsBytes (g.R.Rig.reads rig slot 0) in
    let S = λ (a b : List ℕ). Was → IsSameOrVoid a b in
    let U = λ (a b : List ℕ). Was → IsSameOrVoid a b ⊎ IsVoidOrFirst head body b in
    let first_images = images rig (clock rig) in
    let P = InSlot first_images slot (Makes slot (g.R.Rig.reads rig slot) head body) in
    let leads = makes first_images slot (g.R.Rig.reads rig slot) head body in
    let T = λ (a b : List ℕ). ReadsBytes (g.R.Rig.reads c.shut.new.rig slot 0) → IsVoidOrFirst head body b in
    let run = steps_on clock images rig c.shut.new.rig c.write_first.new.rig slot 0 S T U c.shut.ensures.any_moment c.write_first.ensures.any_moment
    (λ a b s was. inl (s was)) (λ x y z s t was. inr (t (c.in_ok-shut.ensures.told was))) in
    weaker clock images rig c.write_first.new.rig (From first_images slot 0 U) P run leads

pub returns-clause-any_moment : goal.returns-clause-any_moment
returns-clause-any_moment g c =
    let clock = g.R.Rig.clock in
    let images = g.R.Rig.images in
    let slot = c.args.slot in
    let rig = c.args.rig.now in
    let head = c.args.head.now in
    let body = c.args.body.now in
    let Was = ReadsBytes (g.R.Rig.reads rig slot 0) in
    let S = λ (a b : List ℕ). Was → IsSameOrVoid a b in
    let U = λ (a b : List ℕ). Was → IsSameOrVoid a b ⊎ IsVoidOrFirst head body b in
    let first_images = images rig (clock rig) in
    let P = InSlot first_images slot (Makes slot (g.R.Rig.reads rig slot) head body) in
    let leads = makes first_images slot (g.R.Rig.reads rig slot) head body in
    let T = λ (a b : List ℕ). ReadsBytes (g.R.Rig.reads c.shut.new.rig slot 0) → IsVoidOrFirst head body b in
    let run = steps_on clock images rig c.shut.new.rig c.write_first.new.rig slot 0 S T U c.shut.ensures.any_moment c.write_first.ensures.any_moment
    (λ a b s was. inl (s was)) (λ x y z s t was. inr (t (c.in_ok-shut.ensures.told was))) in
    weaker clock images rig c.write_first.new.rig (From first_images slot 0 U) P run leads

pub returns-in_err-shut-clause-kept : goal.returns-in_err-shut-clause-kept
returns-in_err-shut-clause-kept g c =
    let counts = Spends-weaker g.R.Rig.syncs g.R.Rig.bytes_written g.R.Rig.bytes_read c.args.slot 2 1 1 4 (length c.args.body.now + 31) 1 c.args.rig.now c.shut.new.rig
    (omega arith) (omega arith) (omega arith) c.shut.ensures.counts in
    works_in_area g.R.Rig.is_here g.R.Rig.reads g.R.Rig.said g.R.Rig.faults g.R.Rig.syncs g.R.Rig.bytes_written g.R.Rig.bytes_read c.args.slot 0
    4 (length c.args.body.now + 31) 1 c.args.rig.now c.shut.new.rig counts c.shut.ensures.kept

pub returns-in_err-write_first-clause-kept : goal.returns-in_err-write_first-clause-kept
returns-in_err-write_first-clause-kept g c =
    made_within g.R.Rig.is_here g.R.Rig.reads g.R.Rig.said g.R.Rig.faults g.R.Rig.syncs g.R.Rig.bytes_written g.R.Rig.bytes_read c.args.slot (length c.args.body.now)
    c.args.rig.now c.shut.new.rig c.write_first.new.rig c.shut.ensures.counts c.write_first.ensures.counts c.shut.ensures.kept c.write_first.ensures.kept

pub returns-clause-kept : goal.returns-clause-kept
returns-clause-kept g c =
    made_within g.R.Rig.is_here g.R.Rig.reads g.R.Rig.said g.R.Rig.faults g.R.Rig.syncs g.R.Rig.bytes_written g.R.Rig.bytes_read c.args.slot (length c.args.body.now)
    c.args.rig.now c.shut.new.rig c.write_first.new.rig c.shut.ensures.counts c.write_first.ensures.counts c.shut.ensures.kept c.write_first.ensures.kept
