use Rattle.std.proofs.Common.{arith}
use Rattle.rig_disk.proofs.Moments.{steps_on}
use Rattle.slot_journal.specs.Writing.{KeepsFront}
use Rattle.slot_journal.proofs.FrontLemmas.{begun, keeps_less, keeps_twice}
use Rattle.slot_journal.proofs.make.write_behind.Goals as goal

pub returns-in_err-append_record-clause-any_moment : goal.returns-in_err-append_record-clause-any_moment
returns-in_err-append_record-clause-any_moment g c =
    let clock = g.R.Rig.clock in
    let images = g.R.Rig.images in
    let first = begun clock images c.args.slot 0 1 c.args.rig.now c.write_at.new.self 1 _ (omega arith) c.write_at.ensures.any_moment in
    steps_on clock images c.args.rig.now c.write_at.new.self c.append_record.new.rig c.args.slot 0 (KeepsFront 1) (KeepsFront 25) (KeepsFront 1) first c.append_record.ensures.any_moment
    (λ a b keeps. keeps) (λ x y z keeps again. keeps_twice 1 x y z keeps (keeps_less 1 25 y z (omega arith) again))

pub returns-clause-any_moment : goal.returns-clause-any_moment
returns-clause-any_moment g c =
    let clock = g.R.Rig.clock in
    let images = g.R.Rig.images in
    let first = begun clock images c.args.slot 0 1 c.args.rig.now c.write_at.new.self 1 _ (omega arith) c.write_at.ensures.any_moment in
    steps_on clock images c.args.rig.now c.write_at.new.self c.append_record.new.rig c.args.slot 0 (KeepsFront 1) (KeepsFront 25) (KeepsFront 1) first c.append_record.ensures.any_moment
    (λ a b keeps. keeps) (λ x y z keeps again. keeps_twice 1 x y z keeps (keeps_less 1 25 y z (omega arith) again))
