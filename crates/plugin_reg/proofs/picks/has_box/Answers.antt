use Rattle.std.proofs.Common.{true≢false, refl, sym}
use Rattle.plugin_reg.proofs.CallerLemmas.{element}
use Rattle.plugin_reg.proofs.picks.has_box.Goals as goal

pub returns-in-None : goal.returns-in-None
returns-in-None g c = (
  λ t. absurd (true≢false (sym t)),
  λ box.
      let d = element c.args.codes.now box.0 box.1 in
      absurd (c.in-None.ensures.none refl box.0 d box.1 (box.2 d)),
)
