use Rattle.std.proofs.Common.{rules, ◌≡◌}
use Rattle.rig_disk.specs.CallLog.{push}
use Rattle.rig_disk.specs.MemRig.{log_of}
use Rattle.rig_disk.specs.declared.call.Call.TheVariants.{Sync}
use Rattle.rig_disk.proofs.RigLemmas.{rig_sync_moments, told_sync_reads, told_sync_said, told_sync_durable}
use Rattle.rig_disk.proofs.mem_rig.MemRigRig.sync.Goals as goal

pub returns-clause-durable : goal.returns-clause-durable
returns-clause-durable c =
    let is : c.sync.new.self ≡ push (log_of c.args.self.now) (Sync c.args.slot c.args.area) = search rules in
    told_sync_durable (log_of c.args.self.now) c.sync.new.self c.args.slot c.args.area is

pub returns-clause-any_moment : goal.returns-clause-any_moment
returns-clause-any_moment c =
    let is : c.sync.new.self ≡ push (log_of c.args.self.now) (Sync c.args.slot c.args.area) = search rules in
    rig_sync_moments c.args.self.now _ c.args.slot c.args.area is

pub returns-clause-reads : goal.returns-clause-reads
returns-clause-reads c =
    let is : c.sync.new.self ≡ push (log_of c.args.self.now) (Sync c.args.slot c.args.area) = search rules in
    told_sync_reads (log_of c.args.self.now) c.sync.new.self c.args.slot c.args.area is c.args.slot c.args.area

pub returns-clause-kept : goal.returns-clause-kept
returns-clause-kept c =
    let is : c.sync.new.self ≡ push (log_of c.args.self.now) (Sync c.args.slot c.args.area) = search rules in
    record {
      here = search rules;
      reads = λ s a other. told_sync_reads (log_of c.args.self.now) c.sync.new.self c.args.slot c.args.area is s a;
      said = told_sync_said (log_of c.args.self.now) c.sync.new.self c.args.slot c.args.area is;
      counts = search rules;
    }
