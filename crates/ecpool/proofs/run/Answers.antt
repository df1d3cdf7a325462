use Rattle.std.proofs.Common.{sym}
use Rattle.ecpool.proofs.run.Goals as goal

pub ecpool-requires : goal.ecpool-requires
ecpool-requires c = λ q. rw (sym c.deref.ensures.value) (c.has_each_plugin.ensures.0 c.if-not-has_each_plugin.false q)
