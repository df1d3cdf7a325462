use Rattle.tool_rows.proofs.serving.served.Goals as goal

pub tool-requires : goal.tool-requires
tool-requires c = rw (← c.deref.ensures.value) (c.has_each_plugin.ensures.0 c.if-not-has_each_plugin.false)
