use Rattle.std.proofs.Common.{rules, ◌≡◌, refl}
use Rattle.rig_disk.specs.CallLog.{push}
use Rattle.rig_disk.specs.MemRig.{log_of}
use Rattle.rig_disk.specs.declared.call.Call.TheVariants.{Say}
use Rattle.rig_disk.proofs.RigLemmas.{say_unmoved, rig_say_moments, told_say_reads, told_said}
use Rattle.rig_disk.proofs.mem_rig.MemRigRig.say.Goals as goal

pub returns-in_err-begin-clause-any_moment : goal.returns-in_err-begin-clause-any_moment
returns-in_err-begin-clause-any_moment c = say_unmoved c.args.self.now _ c.args.bytes.now refl

pub returns-then-is_err-clause-any_moment : goal.returns-then-is_err-clause-any_moment
returns-then-is_err-clause-any_moment c =
    let is : c.say.new.self ≡ log_of c.args.self.now = search rules in
    say_unmoved c.args.self.now _ c.args.bytes.now is

pub returns-clause-said : goal.returns-clause-said
returns-clause-said c =
    let is : c.say.new.self ≡ push (log_of c.args.self.now) (Say c.args.bytes.now) = search rules in
    told_said (log_of c.args.self.now) c.say.new.self c.args.bytes.now is

pub returns-clause-any_moment : goal.returns-clause-any_moment
returns-clause-any_moment c =
    let is : c.say.new.self ≡ push (log_of c.args.self.now) (Say c.args.bytes.now) = search rules in
    rig_say_moments c.args.self.now _ c.args.bytes.now is

pub returns-clause-reads : goal.returns-clause-reads
returns-clause-reads c =
    let is : c.say.new.self ≡ push (log_of c.args.self.now) (Say c.args.bytes.now) = search rules in
    told_say_reads (log_of c.args.self.now) c.say.new.self c.args.bytes.now is
