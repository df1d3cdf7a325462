use Rattle.std.proofs.Common.{rules, ◌≡◌, refl}
use Rattle.rig_disk.specs.CallLog.{push}
use Rattle.rig_disk.specs.MemRig.{log_of}
use Rattle.rig_disk.specs.declared.call.Call.TheVariants.{Shorten}
use Rattle.rig_disk.proofs.RigLemmas.{cut_unmoved, rig_cut_moments, told_cut, told_cut_others, told_cut_said}
use Rattle.rig_disk.proofs.mem_rig.MemRigRig.cut.Goals as goal

pub returns-in_err-begin-clause-any_moment : goal.returns-in_err-begin-clause-any_moment
returns-in_err-begin-clause-any_moment c = cut_unmoved c.args.self.now _ c.args.slot c.args.area c.args.len refl

pub returns-then-is_err-clause-any_moment : goal.returns-then-is_err-clause-any_moment
returns-then-is_err-clause-any_moment c =
    let is : c.shorten.new.self ≡ log_of c.args.self.now = search rules in
    cut_unmoved c.args.self.now _ c.args.slot c.args.area c.args.len is

pub returns-clause-cut : goal.returns-clause-cut
returns-clause-cut c =
    let is : c.shorten.new.self ≡ push (log_of c.args.self.now) (Shorten c.args.slot c.args.area c.args.len) = search rules in
    told_cut (log_of c.args.self.now) c.shorten.new.self c.args.slot c.args.area c.args.len is

pub returns-clause-any_moment : goal.returns-clause-any_moment
returns-clause-any_moment c =
    let is : c.shorten.new.self ≡ push (log_of c.args.self.now) (Shorten c.args.slot c.args.area c.args.len) = search rules in
    rig_cut_moments c.args.self.now _ c.args.slot c.args.area c.args.len is

pub returns-clause-kept : goal.returns-clause-kept
returns-clause-kept c =
    let is : c.shorten.new.self ≡ push (log_of c.args.self.now) (Shorten c.args.slot c.args.area c.args.len) = search rules in
    record {
      here = search rules;
      reads = told_cut_others (log_of c.args.self.now) c.shorten.new.self c.args.slot c.args.area c.args.len is;
      said = told_cut_said (log_of c.args.self.now) c.shorten.new.self c.args.slot c.args.area c.args.len is;
      counts = search rules;
    }
