use Rattle.std.proofs.Common.{◌≡◌, ◌≢◌, ◌≤◌, ◌∙◌, ◌+◌, inl, ℕ, List, Option, Some, IfNone, IfSome, length, get_or, sym, ap, subst, rules, arith, IsErrOf}
use Rattle.std.proofs.lemmas.List.{drop_all}
use Rattle.slot_journal.specs.Header.{open_gate}
use Rattle.slot_journal.specs.Reading.{IsRecordAt, IsReadUpTo}
use Rattle.slot_journal.specs.declared.fault.JournalFault.TheVariants.{BadSlot}
use Rattle.slot_journal.proofs.OnlyReadsLemmas.{OnlyReads-more}
use Rattle.slot_journal.proofs.RecordLemmas.{read_more}
use Rattle.slot_journal.proofs.records.read_records.Goals as goal

pub returns-in_err-next_record-clause-bad : goal.returns-in_err-next_record-clause-bad
returns-in_err-next_record-clause-bad g c p is there told =
    let was : IsErrOf c.next_record.result (BadSlot p) = search rules in
    record {
      bodies = c.loop-at.bodies.items;
      place = c.loop-at.at;
      read = c.loop-at.invariant.read there told;
      fails = c.next_record.ensures.bad p was there (c.loop-at.invariant.kept.reads ∙ told);
    }

pub returns-in-None-clause-value : goal.returns-in-None-clause-value
returns-in-None-clause-value g c there told =
    let Shut = λ (o : Option (List ℕ)). IfNone o ((t : List ℕ) → g.R.Rig.reads c.loop-at.rig c.args.slot 0 ≡ Some t → get_or t c.loop-at.at 0 ≢ open_gate) in
    let len = c.requires.len there told in
    record {
      read = subst (λ (l : List (List ℕ)). IsReadUpTo there l c.loop-at.at) (sym c.of.ensures) (c.loop-at.invariant.read there told);
      within = omega (arith, len);
      closed = subst Shut c.in-None.is c.in_ok-next_record.ensures.none there (c.loop-at.invariant.kept.reads ∙ told);
    }

pub returns-clause-bad : goal.returns-clause-bad
returns-clause-bad g c p is there told =
    let same : c.loop-at.at ≡ p = cc in
    let len = c.requires.len there told in
    record {
      bodies = c.loop-at.bodies.items;
      place = c.loop-at.at;
      read = c.loop-at.invariant.read there told;
      fails = inl (drop_all c.loop-at.at there (omega (arith, len)), sym same);
    }

pub loop-at-preserved : goal.loop-at-preserved
loop-at-preserved g c =
    let body = c.in-Some.body in
    let Found = λ (o : Option (List ℕ)). IfSome o (λ b. (t : List ℕ) → g.R.Rig.reads c.loop-at.rig c.args.slot 0 ≡ Some t → IsRecordAt t c.loop-at.at b) in
    let Within = λ (o : Option (List ℕ)). IfSome o (λ b. c.loop-at.at + (5 + length b) ≤ c.args.len) in
    let size = ap length c.as_slice.ensures.value in
    let within = subst Within c.in-Some.is c.in_ok-next_record.ensures.within in
    record {
      above = omega (arith, c.in_ok-next_record.ensures.piece.begins);
      within = omega (arith, within, size);
      here = search rules;
      quiet = search rules;
      kept = OnlyReads-more g.R.Rig.is_here g.R.Rig.reads g.R.Rig.said g.R.Rig.clock g.R.Rig.images g.R.Rig.faults g.R.Rig.syncs g.R.Rig.bytes_written g.R.Rig.bytes_read c.args.slot 0
          c.args.rig.now c.loop-at.rig c.next_record.new.rig c.loop-at.invariant.kept c.next_record.ensures.kept;
      len = c.requires.len;
      is_piece = λ there told. c.in_ok-next_record.ensures.piece.is_piece there (c.loop-at.invariant.kept.reads ∙ told);
      read = λ there told.
          let more = read_more there c.loop-at.bodies.items c.loop-at.at body (c.loop-at.invariant.read there told)
          (subst Found c.in-Some.is c.in_ok-next_record.ensures.some there (c.loop-at.invariant.kept.reads ∙ told)) in
          subst (λ n. IsReadUpTo there c.push.new.self.items (c.loop-at.at + (5 + n))) (sym size) (subst (λ (l : List (List ℕ)). IsReadUpTo there l (c.loop-at.at + (5 + length body))) (sym c.in_ok-push-in-Some.ensures.items) more);
    }
