use Rattle.rig_disk.specs.MemRig.{log_of}
use Rattle.rig_disk.proofs.RigLemmas.{crash_image}
use Rattle.rig_disk.proofs.mem_rig.MemRig.crash.Goals as goal

pub returns-clause-image : goal.returns-clause-image
returns-clause-image c = crash_image (log_of c.args.self.now) c.in_ok-crash.field-0 c.in_ok-crash.ensures.calls c.in_ok-crash.ensures.image
