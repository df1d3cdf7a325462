use Rattle.std.proofs.Common.{true≢false, sym, ◌∙◌}
use Rattle.ec_code.specs.declared.profile.Plugin.TheVariants as plugin
use Rattle.plugin_reg.proofs.CallerLemmas.{each_plugin}
use Rattle.plugin_reg.proofs.picks.has_each_plugin.Goals as goal
use Rattle.plugin_reg.proofs.picks.has_each_plugin.Goals.{else-jerasure-via-then-jerasure+else-lrc, else-jerasure-via-else-jerasure}

pub returns-then-lrc : goal.returns-then-lrc
returns-then-lrc g c = (
  λ t. each_plugin _ (c.has_plugin-jerasure.ensures.0 c.if-jerasure.true) (c.has_plugin-lrc.ensures.0 c.if-lrc.true) (c.has_plugin-shec.ensures.0 t),
  λ all. c.has_plugin-shec.ensures.1 (all plugin.Shec),
)

pub returns-else-jerasure : goal.returns-else-jerasure
returns-else-jerasure g c = (
  λ t. absurd (true≢false (sym t)),
  λ all. absurd (elim c.else-jerasure.branch [
    | else-jerasure-via-then-jerasure+else-lrc w ↦ true≢false (sym (c.has_plugin-lrc.ensures.1 (all plugin.Lrc)) ∙ w.if-lrc.false)
    | else-jerasure-via-else-jerasure w ↦ true≢false (sym (c.has_plugin-jerasure.ensures.1 (all plugin.Jerasure)) ∙ w.if-jerasure.false)
  ]),
)
