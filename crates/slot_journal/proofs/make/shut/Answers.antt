use Rattle.std.proofs.Common.{◌≡◌, ◌∷◌, [], ℕ, List, inl, ◌∙◌, sym, ap, subst, refl}
use Rattle.rig_disk.specs.Disk.{Torn, on_told, written}
use Rattle.rig_disk.proofs.Areas.{was_told}
use Rattle.rig_disk.proofs.Moments.{steps_on, stays_on, only_stays}
use Rattle.slot_journal.specs.Writing.{IsShut, IsUnshut, IsSameOrVoid, ReadsBytes}
use Rattle.slot_journal.proofs.MakeLemmas.{closing, closed_now, same_then}
use Rattle.slot_journal.proofs.StepLemmas.{known_step, no_step}
use Rattle.slot_journal.proofs.make.shut.Goals as goal

pub returns-then-branch-clause-done : goal.returns-then-branch-clause-done
returns-then-branch-clause-done g c after told =
    let clock = g.R.Rig.clock in
    let images = g.R.Rig.images in
    let told_sync = sym c.is_shut.ensures.kept.reads ∙ told in (
      c.in_ok-is_shut.ensures.shut c.if-branch.true after told_sync,
      only_stays clock images c.sync.new.self c.is_shut.new.rig c.args.slot 0 after (c.in_ok-sync.ensures.durable after told_sync) c.is_shut.ensures.kept.any_moment,
    )

pub returns-then-branch-clause-told : goal.returns-then-branch-clause-told
returns-then-branch-clause-told g c was = record { there = was.there; told_there = c.is_shut.ensures.kept.reads ∙ c.in_ok-sync.ensures.reads ∙ was.told_there }

pub returns-clause-done : goal.returns-clause-done
returns-clause-done g c after told =
    let was = was_told (g.R.Rig.reads c.is_shut.new.rig c.args.slot 0) (written 0 (0 ∷ [])) after (sym c.in_ok-write_at.ensures.written ∙ sym c.in_ok-sync-2.ensures.reads ∙ told) in
    (subst IsShut (sym was.changed) (closed_now was.there), c.in_ok-sync-2.ensures.durable after told)

pub returns-clause-told : goal.returns-clause-told
returns-clause-told g c was =
    let told_mid = c.is_shut.ensures.kept.reads ∙ c.in_ok-sync.ensures.reads ∙ was.told_there in
    record { there = written 0 (0 ∷ []) was.there; told_there = c.in_ok-sync-2.ensures.reads ∙ c.in_ok-write_at.ensures.written ∙ ap (on_told (written 0 (0 ∷ []))) told_mid }

pub returns-in_err-write_at-clause-any_moment : goal.returns-in_err-write_at-clause-any_moment
returns-in_err-write_at-clause-any_moment g c =
    let clock = g.R.Rig.clock in
    let images = g.R.Rig.images in
    let slot = c.args.slot in
    let rig = c.args.rig.now in
    let Was = ReadsBytes (g.R.Rig.reads rig slot 0) in
    let S = λ (a b : List ℕ). Was → IsSameOrVoid a b in
    let there = λ (was : Was). was.there in
    let first = no_step clock images slot 0 rig c.sync.new.self S (λ a was. inl refl) c.sync.ensures.any_moment in
    let second = stays_on clock images rig c.sync.new.self c.is_shut.new.rig slot 0 S first c.is_shut.ensures.kept.any_moment in
    let reads = λ (was : Was). c.is_shut.ensures.kept.reads ∙ c.in_ok-sync.ensures.reads ∙ was.told_there in
    let only = λ (was : Was). only_stays clock images c.sync.new.self c.is_shut.new.rig slot 0 was.there (c.in_ok-sync.ensures.durable was.there (c.in_ok-sync.ensures.reads ∙ was.told_there)) c.is_shut.ensures.kept.any_moment in
    let unshut = λ (was : Was). c.in_ok-is_shut.ensures.unshut c.if-branch.false was.there (c.in_ok-sync.ensures.reads ∙ was.told_there) in
    let T = λ (b a : List ℕ). ((was : Was) → b ≡ was.there) × Torn 0 1 b a in
    let write = known_step clock images slot 0 there c.is_shut.new.rig c.write_at.new.self (Torn 0 1) only c.write_at.ensures.any_moment in
    let third = steps_on clock images rig c.is_shut.new.rig c.write_at.new.self slot 0 S T S second write (λ a b s. s)
    (λ x y z s t was. same_then x y z (s was) (closing y z (subst IsUnshut (sym (t.0 was)) (unshut was)) t.1)) in
    third

pub returns-in_err-sync-2-clause-any_moment : goal.returns-in_err-sync-2-clause-any_moment
returns-in_err-sync-2-clause-any_moment g c =
    let clock = g.R.Rig.clock in
    let images = g.R.Rig.images in
    let slot = c.args.slot in
    let rig = c.args.rig.now in
    let Was = ReadsBytes (g.R.Rig.reads rig slot 0) in
    let S = λ (a b : List ℕ). Was → IsSameOrVoid a b in
    let there = λ (was : Was). was.there in
    let first = no_step clock images slot 0 rig c.sync.new.self S (λ a was. inl refl) c.sync.ensures.any_moment in
    let second = stays_on clock images rig c.sync.new.self c.is_shut.new.rig slot 0 S first c.is_shut.ensures.kept.any_moment in
    let reads = λ (was : Was). c.is_shut.ensures.kept.reads ∙ c.in_ok-sync.ensures.reads ∙ was.told_there in
    let only = λ (was : Was). only_stays clock images c.sync.new.self c.is_shut.new.rig slot 0 was.there (c.in_ok-sync.ensures.durable was.there (c.in_ok-sync.ensures.reads ∙ was.told_there)) c.is_shut.ensures.kept.any_moment in
    let unshut = λ (was : Was). c.in_ok-is_shut.ensures.unshut c.if-branch.false was.there (c.in_ok-sync.ensures.reads ∙ was.told_there) in
    let T = λ (b a : List ℕ). ((was : Was) → b ≡ was.there) × Torn 0 1 b a in
    let write = known_step clock images slot 0 there c.is_shut.new.rig c.write_at.new.self (Torn 0 1) only c.write_at.ensures.any_moment in
    let third = steps_on clock images rig c.is_shut.new.rig c.write_at.new.self slot 0 S T S second write (λ a b s. s)
    (λ x y z s t was. same_then x y z (s was) (closing y z (subst IsUnshut (sym (t.0 was)) (unshut was)) t.1)) in
    stays_on clock images rig c.write_at.new.self c.sync-2.new.self slot 0 S third c.sync-2.ensures.any_moment

pub returns-clause-any_moment : goal.returns-clause-any_moment
returns-clause-any_moment g c =
    let clock = g.R.Rig.clock in
    let images = g.R.Rig.images in
    let slot = c.args.slot in
    let rig = c.args.rig.now in
    let Was = ReadsBytes (g.R.Rig.reads rig slot 0) in
    let S = λ (a b : List ℕ). Was → IsSameOrVoid a b in
    let there = λ (was : Was). was.there in
    let first = no_step clock images slot 0 rig c.sync.new.self S (λ a was. inl refl) c.sync.ensures.any_moment in
    let second = stays_on clock images rig c.sync.new.self c.is_shut.new.rig slot 0 S first c.is_shut.ensures.kept.any_moment in
    let reads = λ (was : Was). c.is_shut.ensures.kept.reads ∙ c.in_ok-sync.ensures.reads ∙ was.told_there in
    let only = λ (was : Was). only_stays clock images c.sync.new.self c.is_shut.new.rig slot 0 was.there (c.in_ok-sync.ensures.durable was.there (c.in_ok-sync.ensures.reads ∙ was.told_there)) c.is_shut.ensures.kept.any_moment in
    let unshut = λ (was : Was). c.in_ok-is_shut.ensures.unshut c.if-branch.false was.there (c.in_ok-sync.ensures.reads ∙ was.told_there) in
    let T = λ (b a : List ℕ). ((was : Was) → b ≡ was.there) × Torn 0 1 b a in
    let write = known_step clock images slot 0 there c.is_shut.new.rig c.write_at.new.self (Torn 0 1) only c.write_at.ensures.any_moment in
    let third = steps_on clock images rig c.is_shut.new.rig c.write_at.new.self slot 0 S T S second write (λ a b s. s)
    (λ x y z s t was. same_then x y z (s was) (closing y z (subst IsUnshut (sym (t.0 was)) (unshut was)) t.1)) in
    stays_on clock images rig c.write_at.new.self c.sync-2.new.self slot 0 S third c.sync-2.ensures.any_moment
