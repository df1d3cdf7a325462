use Rattle.std.proofs.Common.{rules, ◌≡◌, ◌+◌, ◌++◌, ◌∷◌, [], ℕ, List, length, arith, sym, ◌∙◌, ap}
use Rattle.byteorder.specs.Endian.{big_bytes}
use Rattle.rig_disk.specs.Disk.{on_told, written}
use Rattle.rig_disk.proofs.Areas.{was_told, length-written, written_three}
use Rattle.slot_journal.proofs.FrontLemmas.{begun, more}
use Rattle.slot_journal.proofs.write.append_record.Goals as goal

pub returns-in_err-write_at-clause-any_moment : goal.returns-in_err-write_at-clause-any_moment
returns-in_err-write_at-clause-any_moment g c = begun g.R.Rig.clock g.R.Rig.images c.args.slot c.args.area c.args.at _ _ _ _ (omega arith) c.write_at.ensures.any_moment

pub returns-in_err-write_at-2-clause-any_moment : goal.returns-in_err-write_at-2-clause-any_moment
returns-in_err-write_at-2-clause-any_moment g c =
    let first = begun g.R.Rig.clock g.R.Rig.images c.args.slot c.args.area c.args.at _ _ _ _ (omega arith) c.write_at.ensures.any_moment in
    more g.R.Rig.clock g.R.Rig.images c.args.slot c.args.area c.args.at _ _ _ _ _ (omega arith) first c.write_at-2.ensures.any_moment

pub write_at-requires-3-clause-at : goal.write_at-requires-3-clause-at
write_at-requires-3-clause-at g c there told =
    let size = c.write_u32.new.buf in
    let is : size ≡ big_bytes 4 (length c.args.body.now) = search rules in
    let body = c.args.body.now in
    let was = was_told (g.R.Rig.reads c.write_at.new.self c.args.slot c.args.area) (written (c.args.at + 4) body) there (sym c.in_ok-write_at-2.ensures.written ∙ told) in
    let was_first = was_told (g.R.Rig.reads c.args.rig.now c.args.slot c.args.area) (written c.args.at size) was.there (sym c.in_ok-write_at.ensures.written ∙ was.told) in
    let long = length-written c.args.at size was_first.there (c.requires.at was_first.there was_first.told) in
    omega (arith, ap length was.changed, length-written (c.args.at + 4) body was.there (omega (arith, ap length is, ap length was_first.changed, long)))

pub returns-in_err-write_at-3-clause-any_moment : goal.returns-in_err-write_at-3-clause-any_moment
returns-in_err-write_at-3-clause-any_moment g c =
    let first = begun g.R.Rig.clock g.R.Rig.images c.args.slot c.args.area c.args.at _ _ _ _ (omega arith) c.write_at.ensures.any_moment in
    let second = more g.R.Rig.clock g.R.Rig.images c.args.slot c.args.area c.args.at _ _ _ _ _ (omega arith) first c.write_at-2.ensures.any_moment in
    more g.R.Rig.clock g.R.Rig.images c.args.slot c.args.area c.args.at _ _ _ _ _ (omega arith) second c.write_at-3.ensures.any_moment

pub returns-clause-any_moment : goal.returns-clause-any_moment
returns-clause-any_moment g c =
    let first = begun g.R.Rig.clock g.R.Rig.images c.args.slot c.args.area c.args.at _ _ _ _ (omega arith) c.write_at.ensures.any_moment in
    let second = more g.R.Rig.clock g.R.Rig.images c.args.slot c.args.area c.args.at _ _ _ _ _ (omega arith) first c.write_at-2.ensures.any_moment in
    more g.R.Rig.clock g.R.Rig.images c.args.slot c.args.area c.args.at _ _ _ _ _ (omega arith) second c.write_at-3.ensures.any_moment

pub returns-clause-written : goal.returns-clause-written
returns-clause-written g c =
    let size = c.write_u32.new.buf in
    let body = c.args.body.now in
    let is : size ≡ big_bytes 4 (length body) = search rules in
    let told = g.R.Rig.reads c.args.rig.now c.args.slot c.args.area in
    c.in_ok-write_at-3.ensures.written
    ∙ ap (on_told (written (c.args.at + 4 + length body) (0 ∷ []))) (c.in_ok-write_at-2.ensures.written ∙ ap (on_told (written (c.args.at + 4) body)) c.in_ok-write_at.ensures.written)
    ∙ written_three told c.args.at 4 size body (0 ∷ []) (ap length is) c.requires.at
    ∙ ap (λ (l : List ℕ). on_told (written c.args.at (l ++ body ++ 0 ∷ [])) told) is
