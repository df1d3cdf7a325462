use Rattle.std.proofs.Common.{◌≡◌, ◌++◌, ◌∷◌, [], ℕ, List, Some, length, take, inl, inr, ◌∙◌, sym, ap, arith}
use Rattle.rig_disk.specs.Disk.{Torn, Cut, on_told, written}
use Rattle.rig_disk.proofs.Areas.{was_told}
use Rattle.rig_disk.proofs.Moments.{steps_on, stays_on}
use Rattle.slot_journal.specs.Header.{open_gate}
use Rattle.slot_journal.specs.Writing.{KeepsFront, behind_gate, IsShut, IsVoidOrFirst, ReadsBytes, first_text}
use Rattle.slot_journal.proofs.MakeLemmas.{cut_shut, keeps_shut, behind_first, built, first_torn, shut_some}
use Rattle.slot_journal.proofs.StepLemmas.{from_known, then_known, step_weaker}
use Rattle.slot_journal.proofs.make.write_first.Goals as goal

pub cut-requires-clause-len : goal.cut-requires-clause-len
cut-requires-clause-len g c there told = shut_some there (c.requires.shut there told).0

pub write_behind-requires-clause-some : goal.write_behind-requires-clause-some
write_behind-requires-clause-some g c there told =
    let was = was_told (g.R.Rig.reads c.args.rig.now c.args.slot 0) (take 1) there (sym c.in_ok-cut.ensures.cut ∙ told) in
    let shut = (c.requires.shut was.there was.told).0 in
    omega (arith, ap length was.changed, ap (λ (l : List ℕ). length (take 1 l)) shut.bytes)

pub returns-in_err-cut-clause-any_moment : goal.returns-in_err-cut-clause-any_moment
returns-in_err-cut-clause-any_moment g c =
    let clock = g.R.Rig.clock in
    let images = g.R.Rig.images in
    let slot = c.args.slot in
    let rig = c.args.rig.now in
    let head = c.args.head.now in
    let body = c.args.body.now in
    let Was = ReadsBytes (g.R.Rig.reads rig slot 0) in
    let there = λ (was : Was). was.there in
    let Q = λ (was : Was) (l : List ℕ). IsVoidOrFirst head body l in
    let Shut = λ (a b : List ℕ). Was → IsShut b in
    let Either = λ (a b : List ℕ). (was : Was) → Q was b in
    let shut = λ (was : Was). (c.requires.shut was.there was.told_there).0 in
    let first = from_known clock images slot 0 there rig c.cut.new.self (Cut 1) (λ was l. IsShut l) (λ was. (c.requires.shut was.there was.told_there).1) c.cut.ensures.any_moment
    (λ was l cut. cut_shut was.there l (shut was) cut) in
    step_weaker clock images slot 0 rig c.cut.new.self Shut Either (λ a b s was. inl (inr (s was))) first

pub returns-in_err-write_behind-clause-any_moment : goal.returns-in_err-write_behind-clause-any_moment
returns-in_err-write_behind-clause-any_moment g c =
    let clock = g.R.Rig.clock in
    let images = g.R.Rig.images in
    let slot = c.args.slot in
    let rig = c.args.rig.now in
    let head = c.args.head.now in
    let body = c.args.body.now in
    let Was = ReadsBytes (g.R.Rig.reads rig slot 0) in
    let there = λ (was : Was). was.there in
    let Q = λ (was : Was) (l : List ℕ). IsVoidOrFirst head body l in
    let Shut = λ (a b : List ℕ). Was → IsShut b in
    let Either = λ (a b : List ℕ). (was : Was) → Q was b in
    let shut = λ (was : Was). (c.requires.shut was.there was.told_there).0 in
    let first = from_known clock images slot 0 there rig c.cut.new.self (Cut 1) (λ was l. IsShut l) (λ was. (c.requires.shut was.there was.told_there).1) c.cut.ensures.any_moment
    (λ was l cut. cut_shut was.there l (shut was) cut) in
    let second = steps_on clock images rig c.cut.new.self c.write_behind.new.rig slot 0 Shut (KeepsFront 1) Shut first c.write_behind.ensures.any_moment (λ a b s. s)
    (λ x y z s keeps was. keeps_shut y z (s was) keeps) in
    step_weaker clock images slot 0 rig c.write_behind.new.rig Shut Either (λ a b s was. inl (inr (s was))) second

pub returns-in_err-sync-clause-any_moment : goal.returns-in_err-sync-clause-any_moment
returns-in_err-sync-clause-any_moment g c =
    let clock = g.R.Rig.clock in
    let images = g.R.Rig.images in
    let slot = c.args.slot in
    let rig = c.args.rig.now in
    let head = c.args.head.now in
    let body = c.args.body.now in
    let Was = ReadsBytes (g.R.Rig.reads rig slot 0) in
    let there = λ (was : Was). was.there in
    let Q = λ (was : Was) (l : List ℕ). IsVoidOrFirst head body l in
    let Shut = λ (a b : List ℕ). Was → IsShut b in
    let Either = λ (a b : List ℕ). (was : Was) → Q was b in
    let shut = λ (was : Was). (c.requires.shut was.there was.told_there).0 in
    let first = from_known clock images slot 0 there rig c.cut.new.self (Cut 1) (λ was l. IsShut l) (λ was. (c.requires.shut was.there was.told_there).1) c.cut.ensures.any_moment
    (λ was l cut. cut_shut was.there l (shut was) cut) in
    let second = steps_on clock images rig c.cut.new.self c.write_behind.new.rig slot 0 Shut (KeepsFront 1) Shut first c.write_behind.ensures.any_moment (λ a b s. s)
    (λ x y z s keeps was. keeps_shut y z (s was) keeps) in
    let third = stays_on clock images rig c.write_behind.new.rig c.sync.new.self slot 0 Shut second c.sync.ensures.any_moment in
    step_weaker clock images slot 0 rig c.sync.new.self Shut Either (λ a b s was. inl (inr (s was))) third

pub returns-in_err-write_at-clause-any_moment : goal.returns-in_err-write_at-clause-any_moment
returns-in_err-write_at-clause-any_moment g c =
    let clock = g.R.Rig.clock in
    let images = g.R.Rig.images in
    let slot = c.args.slot in
    let rig = c.args.rig.now in
    let head = c.args.head.now in
    let body = c.args.body.now in
    let Was = ReadsBytes (g.R.Rig.reads rig slot 0) in
    let there = λ (was : Was). was.there in
    let Q = λ (was : Was) (l : List ℕ). IsVoidOrFirst head body l in
    let Shut = λ (a b : List ℕ). Was → IsShut b in
    let Either = λ (a b : List ℕ). (was : Was) → Q was b in
    let shut = λ (was : Was). (c.requires.shut was.there was.told_there).0 in
    let first = from_known clock images slot 0 there rig c.cut.new.self (Cut 1) (λ was l. IsShut l) (λ was. (c.requires.shut was.there was.told_there).1) c.cut.ensures.any_moment
    (λ was l cut. cut_shut was.there l (shut was) cut) in
    let second = steps_on clock images rig c.cut.new.self c.write_behind.new.rig slot 0 Shut (KeepsFront 1) Shut first c.write_behind.ensures.any_moment (λ a b s. s)
    (λ x y z s keeps was. keeps_shut y z (s was) keeps) in
    let third = stays_on clock images rig c.write_behind.new.rig c.sync.new.self slot 0 Shut second c.sync.ensures.any_moment in
    let long : length head ≡ 23 = omega arith in
    let now = λ (was : Was). (shut was).gate ∷ behind_first head body long in
    let told = λ (was : Was). c.in_ok-sync.ensures.reads ∙ c.in_ok-write_behind.ensures.written
    ∙ ap (λ o. on_told (written 25 (behind_gate body)) (on_told (written 1 (head ++ open_gate ∷ [])) o)) (c.in_ok-cut.ensures.cut ∙ ap (on_told (take 1)) was.told_there)
    ∙ ap (λ (l : List ℕ). Some l) (built head body long was.there (shut was)) in
    let fourth = then_known clock images slot 0 now rig c.sync.new.self c.write_at.new.self (Torn 0 1) Q (step_weaker clock images slot 0 rig c.sync.new.self Shut Either (λ a b s was. inl (inr (s was))) third)
    (λ was. c.in_ok-sync.ensures.durable (now was) (told was)) c.write_at.ensures.any_moment (λ was l torn. first_torn head body long c.requires.some c.requires.fits (shut was).gate l torn) in
    fourth

pub returns-in_err-sync-2-clause-any_moment : goal.returns-in_err-sync-2-clause-any_moment
returns-in_err-sync-2-clause-any_moment g c =
    let clock = g.R.Rig.clock in
    let images = g.R.Rig.images in
    let slot = c.args.slot in
    let rig = c.args.rig.now in
    let head = c.args.head.now in
    let body = c.args.body.now in
    let Was = ReadsBytes (g.R.Rig.reads rig slot 0) in
    let there = λ (was : Was). was.there in
    let Q = λ (was : Was) (l : List ℕ). IsVoidOrFirst head body l in
    let Shut = λ (a b : List ℕ). Was → IsShut b in
    let Either = λ (a b : List ℕ). (was : Was) → Q was b in
    let shut = λ (was : Was). (c.requires.shut was.there was.told_there).0 in
    let first = from_known clock images slot 0 there rig c.cut.new.self (Cut 1) (λ was l. IsShut l) (λ was. (c.requires.shut was.there was.told_there).1) c.cut.ensures.any_moment
    (λ was l cut. cut_shut was.there l (shut was) cut) in
    let second = steps_on clock images rig c.cut.new.self c.write_behind.new.rig slot 0 Shut (KeepsFront 1) Shut first c.write_behind.ensures.any_moment (λ a b s. s)
    (λ x y z s keeps was. keeps_shut y z (s was) keeps) in
    let third = stays_on clock images rig c.write_behind.new.rig c.sync.new.self slot 0 Shut second c.sync.ensures.any_moment in
    let long : length head ≡ 23 = omega arith in
    let now = λ (was : Was). (shut was).gate ∷ behind_first head body long in
    let told = λ (was : Was). c.in_ok-sync.ensures.reads ∙ c.in_ok-write_behind.ensures.written
    ∙ ap (λ o. on_told (written 25 (behind_gate body)) (on_told (written 1 (head ++ open_gate ∷ [])) o)) (c.in_ok-cut.ensures.cut ∙ ap (on_told (take 1)) was.told_there)
    ∙ ap (λ (l : List ℕ). Some l) (built head body long was.there (shut was)) in
    let fourth = then_known clock images slot 0 now rig c.sync.new.self c.write_at.new.self (Torn 0 1) Q (step_weaker clock images slot 0 rig c.sync.new.self Shut Either (λ a b s was. inl (inr (s was))) third)
    (λ was. c.in_ok-sync.ensures.durable (now was) (told was)) c.write_at.ensures.any_moment (λ was l torn. first_torn head body long c.requires.some c.requires.fits (shut was).gate l torn) in
    stays_on clock images rig c.write_at.new.self c.sync-2.new.self slot 0 Either fourth c.sync-2.ensures.any_moment

pub returns-clause-any_moment : goal.returns-clause-any_moment
returns-clause-any_moment g c =
    let clock = g.R.Rig.clock in
    let images = g.R.Rig.images in
    let slot = c.args.slot in
    let rig = c.args.rig.now in
    let head = c.args.head.now in
    let body = c.args.body.now in
    let Was = ReadsBytes (g.R.Rig.reads rig slot 0) in
    let there = λ (was : Was). was.there in
    let Q = λ (was : Was) (l : List ℕ). IsVoidOrFirst head body l in
    let Shut = λ (a b : List ℕ). Was → IsShut b in
    let Either = λ (a b : List ℕ). (was : Was) → Q was b in
    let shut = λ (was : Was). (c.requires.shut was.there was.told_there).0 in
    let first = from_known clock images slot 0 there rig c.cut.new.self (Cut 1) (λ was l. IsShut l) (λ was. (c.requires.shut was.there was.told_there).1) c.cut.ensures.any_moment
    (λ was l cut. cut_shut was.there l (shut was) cut) in
    let second = steps_on clock images rig c.cut.new.self c.write_behind.new.rig slot 0 Shut (KeepsFront 1) Shut first c.write_behind.ensures.any_moment (λ a b s. s)
    (λ x y z s keeps was. keeps_shut y z (s was) keeps) in
    let third = stays_on clock images rig c.write_behind.new.rig c.sync.new.self slot 0 Shut second c.sync.ensures.any_moment in
    let long : length head ≡ 23 = omega arith in
    let now = λ (was : Was). (shut was).gate ∷ behind_first head body long in
    let told = λ (was : Was). c.in_ok-sync.ensures.reads ∙ c.in_ok-write_behind.ensures.written
    ∙ ap (λ o. on_told (written 25 (behind_gate body)) (on_told (written 1 (head ++ open_gate ∷ [])) o)) (c.in_ok-cut.ensures.cut ∙ ap (on_told (take 1)) was.told_there)
    ∙ ap (λ (l : List ℕ). Some l) (built head body long was.there (shut was)) in
    let fourth = then_known clock images slot 0 now rig c.sync.new.self c.write_at.new.self (Torn 0 1) Q (step_weaker clock images slot 0 rig c.sync.new.self Shut Either (λ a b s was. inl (inr (s was))) third)
    (λ was. c.in_ok-sync.ensures.durable (now was) (told was)) c.write_at.ensures.any_moment (λ was l torn. first_torn head body long c.requires.some c.requires.fits (shut was).gate l torn) in
    stays_on clock images rig c.write_at.new.self c.sync-2.new.self slot 0 Either fourth c.sync-2.ensures.any_moment

pub returns-clause-done : goal.returns-clause-done
returns-clause-done g c was =
    let head = c.args.head.now in
    let body = c.args.body.now in
    let long : length head ≡ 23 = omega arith in
    let shut = (c.requires.shut was.there was.told_there).0 in
    let told = c.in_ok-sync.ensures.reads ∙ c.in_ok-write_behind.ensures.written
    ∙ ap (λ o. on_told (written 25 (behind_gate body)) (on_told (written 1 (head ++ open_gate ∷ [])) o)) (c.in_ok-cut.ensures.cut ∙ ap (on_told (take 1)) was.told_there)
    ∙ ap (λ (l : List ℕ). Some l) (built head body long was.there shut) in
    let last = c.in_ok-sync-2.ensures.reads ∙ c.in_ok-write_at.ensures.written ∙ ap (on_told (written 0 (open_gate ∷ []))) told in
    (last, c.in_ok-sync-2.ensures.durable (first_text head body) last)
