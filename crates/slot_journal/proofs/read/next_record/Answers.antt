use Rattle.std.proofs.Common.{◌≡◌, ◌+◌, ◌-◌, ◌∙◌, ℕ, List, drop, get_or, sym, ap, subst, refl, rules, arith}
use Rattle.std.proofs.lemmas.List.{take_rest}
use Rattle.slot_journal.specs.Header.{open_gate}
use Rattle.slot_journal.specs.Text.{IsBodyLength}
use Rattle.slot_journal.specs.Reading.{IsPiece, ShowsPrefix}
use Rattle.slot_journal.proofs.OnlyReadsLemmas.{OnlyReads-more}
use Rattle.slot_journal.proofs.PieceLemmas.{later_piece}
use Rattle.slot_journal.proofs.RecordLemmas.{record_at}
use Rattle.slot_journal.proofs.read.next_record.Goals as goal

pub returns-in_err-body-in-Some-clause-kept : goal.returns-in_err-body-in-Some-clause-kept
returns-in_err-body-in-Some-clause-kept g c =
    OnlyReads-more g.R.Rig.is_here g.R.Rig.reads g.R.Rig.said g.R.Rig.clock g.R.Rig.images g.R.Rig.faults g.R.Rig.syncs g.R.Rig.bytes_written g.R.Rig.bytes_read c.args.slot 0
    c.args.rig.now c.refill.new.rig c.read_body.new.rig c.refill.ensures.kept c.read_body.ensures.kept

pub returns-in_ok-body-in-Some-clause-kept : goal.returns-in_ok-body-in-Some-clause-kept
returns-in_ok-body-in-Some-clause-kept g c =
    OnlyReads-more g.R.Rig.is_here g.R.Rig.reads g.R.Rig.said g.R.Rig.clock g.R.Rig.images g.R.Rig.faults g.R.Rig.syncs g.R.Rig.bytes_written g.R.Rig.bytes_read c.args.slot 0
    c.args.rig.now c.refill.new.rig c.read_body.new.rig c.refill.ensures.kept c.read_body.ensures.kept

pub returns-in_ok-body-in-Some-clause-some : goal.returns-in_ok-body-in-Some-clause-some
returns-in_ok-body-in-Some-clause-some g c there told =
    let known = c.ahead-known.result.now in
    let body = c.in_ok-body-in-Some.body in
    let rest = drop 1 known in
    let shows = subst (λ (l : List ℕ). ShowsPrefix there c.args.at l) (sym c.ahead-known.ensures) (c.in_ok-refill.ensures.shows there told) in
    let len = c.requires.len there told in
    let is_open : get_or known 0 0 ≡ open_gate = search rules in
    let is = subst (λ (r : List ℕ). IsBodyLength r (c.args.len - c.args.at - 1) c.in-Some.body_len) (take_rest known 1) c.in-Some.ensures in
    let told_then = c.refill.ensures.kept.reads ∙ told in
    let five : c.args.at + 5 - c.args.at ≡ 5 = omega arith in
    let further = later_piece there c.args.at (c.args.at + 5) known (omega arith) shows.is_piece in
    let piece = subst (λ (l : List ℕ). IsPiece there (c.args.at + 5) l) (ap (λ n. drop n known) five ∙ sym (take_rest known 5)) further in
    let value = c.in_ok-body-in-Some.ensures.value there told_then (omega (arith, is.within, len)) piece in
    record_at there c.args.at c.args.len c.in-Some.body_len known rest body len c.requires.within shows is_open refl is c.in_ok-body-in-Some.ensures.len value
