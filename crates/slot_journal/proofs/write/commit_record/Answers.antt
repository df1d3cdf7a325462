use Rattle.std.proofs.Common.{◌+◌, ◌∷◌, [], ℕ, List, length, inl, arith, sym, ◌∙◌, ap}
use Rattle.rig_disk.specs.Disk.{Torn, on_told, written}
use Rattle.rig_disk.proofs.Areas.{was_told}
use Rattle.rig_disk.proofs.Moments.{stays_on}
use Rattle.slot_journal.specs.Header.{open_gate}
use Rattle.slot_journal.specs.Writing.{KeepsFront, behind_gate, IsBeforeOrAfter, ReadsAsText}
use Rattle.slot_journal.proofs.CommitLemmas.{behind, gate_within, staged, staged_within, torn_gate, opened}
use Rattle.slot_journal.proofs.StepLemmas.{from_known, then_known}
use Rattle.slot_journal.proofs.write.commit_record.Goals as goal

pub append_record-requires-clause-at : goal.append_record-requires-clause-at
append_record-requires-clause-at g c there told =
    let rest = (c.requires.settled there told).1 in
    gate_within rest.head rest.bodies c.args.gate there rest.is_text

pub write_at-requires-clause-at : goal.write_at-requires-clause-at
write_at-requires-clause-at g c there told =
    let body = c.args.body.now in
    let was = was_told (g.R.Rig.reads c.args.rig.now c.args.slot c.args.area) (written (c.args.gate + 1) (behind_gate body)) there (sym c.in_ok-append_record.ensures.written ∙ sym c.in_ok-sync.ensures.reads ∙ told) in
    let rest = (c.requires.settled was.there was.told).1 in
    let set = staged rest.head rest.bodies c.args.gate body c.requires.some c.requires.fits was.there rest.is_text in
    omega (arith, ap length was.changed, staged_within rest.head rest.bodies c.args.gate body c.requires.some c.requires.fits _ set)

pub returns-in_err-append_record-clause-any_moment : goal.returns-in_err-append_record-clause-any_moment
returns-in_err-append_record-clause-any_moment g c =
    let clock = g.R.Rig.clock in
    let images = g.R.Rig.images in
    let slot = c.args.slot in
    let area = c.args.area in
    let gate = c.args.gate in
    let body = c.args.body.now in
    let Was = ReadsAsText (g.R.Rig.reads c.args.rig.now slot area) gate in
    let there = λ (was : Was). was.there in
    let Q = λ (was : Was) (l : List ℕ). IsBeforeOrAfter was.head was.bodies body gate l in
    let first = from_known clock images slot area there c.args.rig.now c.append_record.new.rig (KeepsFront (gate + 1)) Q (λ was. (c.requires.settled was.there was.told_there).0)
    c.append_record.ensures.any_moment (λ was new keeps. inl (behind was.head was.bodies gate was.there new was.is_text keeps)) in
    first

pub returns-in_err-sync-clause-any_moment : goal.returns-in_err-sync-clause-any_moment
returns-in_err-sync-clause-any_moment g c =
    let clock = g.R.Rig.clock in
    let images = g.R.Rig.images in
    let slot = c.args.slot in
    let area = c.args.area in
    let gate = c.args.gate in
    let body = c.args.body.now in
    let Was = ReadsAsText (g.R.Rig.reads c.args.rig.now slot area) gate in
    let there = λ (was : Was). was.there in
    let Q = λ (was : Was) (l : List ℕ). IsBeforeOrAfter was.head was.bodies body gate l in
    let first = from_known clock images slot area there c.args.rig.now c.append_record.new.rig (KeepsFront (gate + 1)) Q (λ was. (c.requires.settled was.there was.told_there).0)
    c.append_record.ensures.any_moment (λ was new keeps. inl (behind was.head was.bodies gate was.there new was.is_text keeps)) in
    let second = stays_on clock images c.args.rig.now c.append_record.new.rig c.sync.new.self slot area (λ _ l. (was : Was) → Q was l) first c.sync.ensures.any_moment in
    second

pub returns-in_err-write_at-clause-any_moment : goal.returns-in_err-write_at-clause-any_moment
returns-in_err-write_at-clause-any_moment g c =
    let clock = g.R.Rig.clock in
    let images = g.R.Rig.images in
    let slot = c.args.slot in
    let area = c.args.area in
    let gate = c.args.gate in
    let body = c.args.body.now in
    let Was = ReadsAsText (g.R.Rig.reads c.args.rig.now slot area) gate in
    let there = λ (was : Was). was.there in
    let Q = λ (was : Was) (l : List ℕ). IsBeforeOrAfter was.head was.bodies body gate l in
    let first = from_known clock images slot area there c.args.rig.now c.append_record.new.rig (KeepsFront (gate + 1)) Q (λ was. (c.requires.settled was.there was.told_there).0)
    c.append_record.ensures.any_moment (λ was new keeps. inl (behind was.head was.bodies gate was.there new was.is_text keeps)) in
    let second = stays_on clock images c.args.rig.now c.append_record.new.rig c.sync.new.self slot area (λ _ l. (was : Was) → Q was l) first c.sync.ensures.any_moment in
    let now = λ (was : Was). written (gate + 1) (behind_gate body) was.there in
    let reads = λ (was : Was). c.in_ok-sync.ensures.reads ∙ c.in_ok-append_record.ensures.written ∙ ap (on_told (written (gate + 1) (behind_gate body))) was.told_there in
    let set = λ (was : Was). staged was.head was.bodies gate body c.requires.some c.requires.fits was.there was.is_text in
    let third = then_known clock images slot area now c.args.rig.now c.sync.new.self c.write_at.new.self (Torn gate 1) Q second (λ was. c.in_ok-sync.ensures.durable (now was) (reads was))
    c.write_at.ensures.any_moment (λ was new torn. torn_gate was.head was.bodies gate body c.requires.some c.requires.fits (now was) (set was) new torn) in
    third

pub returns-in_err-sync-2-clause-any_moment : goal.returns-in_err-sync-2-clause-any_moment
returns-in_err-sync-2-clause-any_moment g c =
    let clock = g.R.Rig.clock in
    let images = g.R.Rig.images in
    let slot = c.args.slot in
    let area = c.args.area in
    let gate = c.args.gate in
    let body = c.args.body.now in
    let Was = ReadsAsText (g.R.Rig.reads c.args.rig.now slot area) gate in
    let there = λ (was : Was). was.there in
    let Q = λ (was : Was) (l : List ℕ). IsBeforeOrAfter was.head was.bodies body gate l in
    let first = from_known clock images slot area there c.args.rig.now c.append_record.new.rig (KeepsFront (gate + 1)) Q (λ was. (c.requires.settled was.there was.told_there).0)
    c.append_record.ensures.any_moment (λ was new keeps. inl (behind was.head was.bodies gate was.there new was.is_text keeps)) in
    let second = stays_on clock images c.args.rig.now c.append_record.new.rig c.sync.new.self slot area (λ _ l. (was : Was) → Q was l) first c.sync.ensures.any_moment in
    let now = λ (was : Was). written (gate + 1) (behind_gate body) was.there in
    let reads = λ (was : Was). c.in_ok-sync.ensures.reads ∙ c.in_ok-append_record.ensures.written ∙ ap (on_told (written (gate + 1) (behind_gate body))) was.told_there in
    let set = λ (was : Was). staged was.head was.bodies gate body c.requires.some c.requires.fits was.there was.is_text in
    let third = then_known clock images slot area now c.args.rig.now c.sync.new.self c.write_at.new.self (Torn gate 1) Q second (λ was. c.in_ok-sync.ensures.durable (now was) (reads was))
    c.write_at.ensures.any_moment (λ was new torn. torn_gate was.head was.bodies gate body c.requires.some c.requires.fits (now was) (set was) new torn) in
    stays_on clock images c.args.rig.now c.write_at.new.self c.sync-2.new.self slot area (λ _ l. (was : Was) → Q was l) third c.sync-2.ensures.any_moment

pub returns-clause-any_moment : goal.returns-clause-any_moment
returns-clause-any_moment g c =
    let clock = g.R.Rig.clock in
    let images = g.R.Rig.images in
    let slot = c.args.slot in
    let area = c.args.area in
    let gate = c.args.gate in
    let body = c.args.body.now in
    let Was = ReadsAsText (g.R.Rig.reads c.args.rig.now slot area) gate in
    let there = λ (was : Was). was.there in
    let Q = λ (was : Was) (l : List ℕ). IsBeforeOrAfter was.head was.bodies body gate l in
    let first = from_known clock images slot area there c.args.rig.now c.append_record.new.rig (KeepsFront (gate + 1)) Q (λ was. (c.requires.settled was.there was.told_there).0)
    c.append_record.ensures.any_moment (λ was new keeps. inl (behind was.head was.bodies gate was.there new was.is_text keeps)) in
    let second = stays_on clock images c.args.rig.now c.append_record.new.rig c.sync.new.self slot area (λ _ l. (was : Was) → Q was l) first c.sync.ensures.any_moment in
    let now = λ (was : Was). written (gate + 1) (behind_gate body) was.there in
    let reads = λ (was : Was). c.in_ok-sync.ensures.reads ∙ c.in_ok-append_record.ensures.written ∙ ap (on_told (written (gate + 1) (behind_gate body))) was.told_there in
    let set = λ (was : Was). staged was.head was.bodies gate body c.requires.some c.requires.fits was.there was.is_text in
    let third = then_known clock images slot area now c.args.rig.now c.sync.new.self c.write_at.new.self (Torn gate 1) Q second (λ was. c.in_ok-sync.ensures.durable (now was) (reads was))
    c.write_at.ensures.any_moment (λ was new torn. torn_gate was.head was.bodies gate body c.requires.some c.requires.fits (now was) (set was) new torn) in
    stays_on clock images c.args.rig.now c.write_at.new.self c.sync-2.new.self slot area (λ _ l. (was : Was) → Q was l) third c.sync-2.ensures.any_moment

pub returns-clause-done : goal.returns-clause-done
returns-clause-done g c was =
    let gate = c.args.gate in
    let body = c.args.body.now in
    let now = written (gate + 1) (behind_gate body) was.there in
    let reads = c.in_ok-sync.ensures.reads ∙ c.in_ok-append_record.ensures.written ∙ ap (on_told (written (gate + 1) (behind_gate body))) was.told_there in
    let set = staged was.head was.bodies gate body c.requires.some c.requires.fits was.there was.is_text in
    let after = written gate (open_gate ∷ []) now in
    let last = c.in_ok-sync-2.ensures.reads ∙ c.in_ok-write_at.ensures.written ∙ ap (on_told (written gate (open_gate ∷ []))) reads in
    (after, last, opened was.head was.bodies gate body c.requires.some c.requires.fits now set, c.in_ok-sync-2.ensures.durable after last)
