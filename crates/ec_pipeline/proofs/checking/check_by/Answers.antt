use Rattle.std.proofs.Common.{ap, refl, arith}
use Rattle.ec_model.specs.Versions.{Version}
use Rattle.ec_pipeline.proofs.CheckLemmas.{not_worn}
use Rattle.ec_pipeline.proofs.checking.check_by.Goals as goal

pub returns-else-is_worn-clause-not_worn : goal.returns-else-is_worn-clause-not_worn
returns-else-is_worn-clause-not_worn c =
    not_worn c.args.joined.0 c.args.state.now.state.head c.args.shelf.now c.requires.few
    (omega (arith, ap (λ (v : Version). v.seq) c.head-prior.ensures, ap (λ (v : Version). v.seq) c.prior.view_is, c.if-prior.false))
    (c.if-is_worn.ensures.roomy refl)
