use Rattle.std.proofs.Common.{sym}
use Rattle.ceph_ec_tool.proofs.run.Goals as goal

pub tool-requires : goal.tool-requires
tool-requires c = λ q. rw (sym c.deref.ensures.value) (c.has_each_plugin.ensures.0 c.if-not-has_each_plugin.false q)
