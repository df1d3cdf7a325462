use Rattle.std.proofs.Common.{◌≡◌, ◌≤◌, ◌<◌, ◌∙◌, min, ℕ, List, IsErrOf, length, sym, ap, subst, rules, arith}
use Rattle.rig_disk.proofs.Areas.{was_told}
use Rattle.rig_disk.proofs.Moments.{only_stays}
use Rattle.slot_journal.specs.InUse.{open_text}
use Rattle.slot_journal.specs.Reading.{IsPiece}
use Rattle.slot_journal.specs.Text.{IsText, IsBadText}
use Rattle.slot_journal.specs.declared.fault.JournalFault.TheVariants.{BadSlot}
use Rattle.slot_journal.proofs.CallerLemmas.{ok_not_err}
use Rattle.slot_journal.proofs.HeaderLemmas.{fits_there, bad_there, bad_open, text_read, text_breaks}
use Rattle.slot_journal.proofs.load.read_text.Goals as goal

pub returns-clause-durable : goal.returns-clause-durable
returns-clause-durable g c there told =
    let clock = g.R.Rig.clock in
    let images = g.R.Rig.images in
    let told_piece = sym c.read_records.ensures.kept.reads ∙ told in
    let told_sync = sym c.first_piece.ensures.kept.reads ∙ told_piece in
    let first = only_stays clock images c.sync_and_measure.new.rig c.first_piece.new.rig c.args.slot 0 there (c.in_ok-len.ensures.durable there told_sync) c.first_piece.ensures.kept.any_moment in
    only_stays clock images c.first_piece.new.rig c.read_records.new.rig c.args.slot 0 there first c.read_records.ensures.kept.any_moment

pub returns-in-Some-clause-bad_slot : goal.returns-in-Some-clause-bad_slot
returns-in-Some-clause-bad_slot g c at is text told =
    let same : c.in-Some.at ≡ at = cc in
    let was = was_told (g.R.Rig.reads c.args.rig.now c.args.slot 0) open_text text told in
    let there = was.there in
    let told_sync = c.in_ok-len.ensures.kept.reads ok_not_err ∙ was.told in
    let len : c.in_ok-len.len ≡ length there = c.in_ok-len.ensures.value there was.told in
    let front = c.deref.result.now in
    let piece = subst (λ (l : List ℕ). IsPiece there 0 l) (sym c.deref.ensures.value) (c.in_ok-piece.ensures.is_piece there told_sync) in
    let enough : min 24 (length there) ≤ length front = omega (arith, c.in_ok-piece.ensures.enough there told_sync len, len, ap length c.deref.ensures.value) in
    let bad = bad_open c.args.head.now there c.in-Some.at (bad_there c.args.head.now there front piece enough c.in-Some.at c.in-Some.ensures) in
    subst (λ n. IsBadText c.args.head.now text n) same (subst (λ (l : List ℕ). IsBadText c.args.head.now l c.in-Some.at) (sym was.changed) bad)

pub read_records-requires-clause-header : goal.read_records-requires-clause-header
read_records-requires-clause-header g c = omega (arith, (c.in-None.ensures 23 (omega arith)).0, ap length c.deref.ensures.value, c.in_ok-piece.ensures.within)

pub returns-in_err-read-in-None-clause-bad_slot : goal.returns-in_err-read-in-None-clause-bad_slot
returns-in_err-read-in-None-clause-bad_slot g c at is text told =
    let failed : IsErrOf c.read_records.result (BadSlot at) = search rules in
    let was = was_told (g.R.Rig.reads c.args.rig.now c.args.slot 0) open_text text told in
    let there = was.there in
    let told_sync = c.in_ok-len.ensures.kept.reads ok_not_err ∙ was.told in
    let len : c.in_ok-len.len ≡ length there = c.in_ok-len.ensures.value there was.told in
    let front = c.deref.result.now in
    let piece = subst (λ (l : List ℕ). IsPiece there 0 l) (sym c.deref.ensures.value) (c.in_ok-piece.ensures.is_piece there told_sync) in
    let enough : min 24 (length there) ≤ length front = omega (arith, c.in_ok-piece.ensures.enough there told_sync len, len, ap length c.deref.ensures.value) in
    let told_piece = c.first_piece.ensures.kept.reads ∙ told_sync in
    let good = λ (place : ℕ) (early : place < 24). fits_there c.args.head.now there front piece enough place (c.in-None.ensures place early) in
    let bad = text_breaks c.args.head.now there good at (c.read_records.ensures.bad at failed there told_piece) in
    subst (λ (l : List ℕ). IsBadText c.args.head.now l at) (sym was.changed) bad

pub returns-clause-value : goal.returns-clause-value
returns-clause-value g c text told =
    let read = c.in_ok-read-in-None.read in
    let was = was_told (g.R.Rig.reads c.args.rig.now c.args.slot 0) open_text text told in
    let there = was.there in
    let told_sync = c.in_ok-len.ensures.kept.reads ok_not_err ∙ was.told in
    let len : c.in_ok-len.len ≡ length there = c.in_ok-len.ensures.value there was.told in
    let front = c.deref.result.now in
    let piece = subst (λ (l : List ℕ). IsPiece there 0 l) (sym c.deref.ensures.value) (c.in_ok-piece.ensures.is_piece there told_sync) in
    let enough : min 24 (length there) ≤ length front = omega (arith, c.in_ok-piece.ensures.enough there told_sync len, len, ap length c.deref.ensures.value) in
    let told_piece = c.first_piece.ensures.kept.reads ∙ told_sync in
    let good = λ (place : ℕ) (early : place < 24). fits_there c.args.head.now there front piece enough place (c.in-None.ensures place early) in
    let is = text_read c.args.head.now there good read.1 read.0 (c.in_ok-read-in-None.ensures.value there told_piece) in
    subst (λ (l : List ℕ). IsText c.args.head.now read.1 read.0 l) (sym was.changed) is

pub returns-in-Some-clause-bad_durable : goal.returns-in-Some-clause-bad_durable
returns-in-Some-clause-bad_durable g c at is there told =
    let clock = g.R.Rig.clock in
    let images = g.R.Rig.images in
    let told_sync = sym c.first_piece.ensures.kept.reads ∙ told in
    only_stays clock images c.sync_and_measure.new.rig c.first_piece.new.rig c.args.slot 0 there (c.in_ok-len.ensures.durable there told_sync) c.first_piece.ensures.kept.any_moment

pub returns-in_err-read-in-None-clause-bad_durable : goal.returns-in_err-read-in-None-clause-bad_durable
returns-in_err-read-in-None-clause-bad_durable g c at is there told =
    let clock = g.R.Rig.clock in
    let images = g.R.Rig.images in
    let told_piece = sym c.read_records.ensures.kept.reads ∙ told in
    let told_sync = sym c.first_piece.ensures.kept.reads ∙ told_piece in
    let first = only_stays clock images c.sync_and_measure.new.rig c.first_piece.new.rig c.args.slot 0 there (c.in_ok-len.ensures.durable there told_sync) c.first_piece.ensures.kept.any_moment in
    only_stays clock images c.first_piece.new.rig c.read_records.new.rig c.args.slot 0 there first c.read_records.ensures.kept.any_moment
