use Rattle.script_rows.proofs.run.answered.Goals as goal

pub ecpool-requires : goal.ecpool-requires
ecpool-requires c = rw (← c.deref.ensures.value) (c.has_each_plugin.ensures.0 c.if-not-has_each_plugin.false)
