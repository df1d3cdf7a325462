use Rattle.std.proofs.Common.{rules, ◌≡◌, refl}
use Rattle.rig_disk.specs.CallLog.{push}
use Rattle.rig_disk.specs.MemRig.{log_of}
use Rattle.rig_disk.specs.declared.call.Call.TheVariants.{Write}
use Rattle.rig_disk.proofs.RigLemmas.{write_unmoved, rig_write_moments, told_written, told_write_others, told_write_said}
use Rattle.rig_disk.proofs.mem_rig.MemRigRig.write_at.Goals as goal

pub returns-in_err-begin-clause-any_moment : goal.returns-in_err-begin-clause-any_moment
returns-in_err-begin-clause-any_moment c = write_unmoved c.args.self.now _ c.args.slot c.args.area c.args.at c.args.bytes.now (c.requires.at _ refl) refl

pub returns-then-is_err-clause-any_moment : goal.returns-then-is_err-clause-any_moment
returns-then-is_err-clause-any_moment c =
    let is : c.write.new.self ≡ log_of c.args.self.now = search rules in
    write_unmoved c.args.self.now _ c.args.slot c.args.area c.args.at c.args.bytes.now (c.requires.at _ refl) is

pub returns-clause-written : goal.returns-clause-written
returns-clause-written c =
    let is : c.write.new.self ≡ push (log_of c.args.self.now) (Write c.args.slot c.args.area c.args.at c.args.bytes.now) = search rules in
    told_written (log_of c.args.self.now) c.write.new.self c.args.slot c.args.area c.args.at c.args.bytes.now (c.requires.at _ refl) is

pub returns-clause-any_moment : goal.returns-clause-any_moment
returns-clause-any_moment c =
    let is : c.write.new.self ≡ push (log_of c.args.self.now) (Write c.args.slot c.args.area c.args.at c.args.bytes.now) = search rules in
    rig_write_moments c.args.self.now _ c.args.slot c.args.area c.args.at c.args.bytes.now (c.requires.at _ refl) is

pub returns-clause-kept : goal.returns-clause-kept
returns-clause-kept c =
    let is : c.write.new.self ≡ push (log_of c.args.self.now) (Write c.args.slot c.args.area c.args.at c.args.bytes.now) = search rules in
    record {
      here = search rules;
      reads = told_write_others (log_of c.args.self.now) c.write.new.self c.args.slot c.args.area c.args.at c.args.bytes.now (c.requires.at _ refl) is;
      said = told_write_said (log_of c.args.self.now) c.write.new.self c.args.slot c.args.area c.args.at c.args.bytes.now (c.requires.at _ refl) is;
      counts = search rules;
    }
