use Rattle.std.proofs.Common.{ℕ, refl, subst}
use Rattle.auth_log.specs.Choice.{JoinedLieBelow}
use Rattle.pool_tests.proofs.choices.chosen.Goals as goal

pub choose-requires : goal.choose-requires
choose-requires g c =
    let below : JoinedLieBelow c.shape-n.result.n c.args.intervals.now =
    subst (JoinedLieBelow c.shape-n.result.n) c.as_slice.ensures (c.if-lie_below.ensures refl) in
    subst (λ (n : ℕ). JoinedLieBelow n c.args.intervals.now) c.shape-n.ensures.0.same_n below
