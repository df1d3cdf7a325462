use Rattle.std.proofs.Common.{◌≤◌, [], length, ap, arith, length-append}
use Rattle.shard_model.specs.StepBytes.{steps_bytes}
use Rattle.shard_store.specs.Told.{unflushed_bytes}
use Rattle.shard_store.proofs.store.Store.unstage.Goals as goal

pub invariant_of-self : goal.invariant_of-self
invariant_of-self c =
    let t = c.args.self.now.story in
    let fewer : length (unflushed_bytes c.unstage.new.self) ≤ length (unflushed_bytes t) =
    omega (arith, ap (λ x. length (unflushed_bytes x)) c.unstage.ensures, length-append t.pending [], length-append t.pending (steps_bytes t.staged)) in
    record { short = omega (arith, fewer, c.args.self.now.short); room = omega (arith, fewer, c.args.self.now.room) }
