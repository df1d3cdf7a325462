use Rattle.std.proofs.Common.{ℕ, refl, subst}
use Rattle.auth_log.specs.Choice.{JoinedLieBelow}
use Rattle.pool_tests.proofs.choices.state_by.Goals as goal

pub state-requires-clause-joined : goal.state-requires-clause-joined
state-requires-clause-joined g c =
    let below : JoinedLieBelow c.shape-n.result.n c.args.intervals.now =
    subst (JoinedLieBelow c.shape-n.result.n) c.as_slice.ensures (c.if-lie_below.ensures refl) in
    subst (λ (n : ℕ). JoinedLieBelow n c.args.intervals.now) c.shape-n.ensures.0.same_n below
