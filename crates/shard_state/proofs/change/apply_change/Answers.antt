use Rattle.std.proofs.Common.{◌≡◌, ◌<◌, ◌*◌, ◌≤◌, length, true, sym, subst}
use Rattle.std.proofs.Math.Nat.{mul-pos}
use Rattle.shard_model.specs.Objects.{Geometry}
use Rattle.shard_model.specs.Changes.{fits_change, bytes_of}
use Rattle.shard_steps.specs.StepMeanings.{change_in, step_of}
use Rattle.shard_state.proofs.SoundLemmas.{write_longer}
use Rattle.shard_state.proofs.change.apply_change.Goals as goal

pub write-requires-clause-longer : goal.write-requires-clause-longer
write-requires-clause-longer c =
    let g : Geometry = record { k = c.args.g.k; unit = c.args.g.unit } in
    let w = c.in-Write in
    let positive : 0 < g.k * g.unit = mul-pos c.args.g.some_chunks c.args.g.some_bytes in
    let fit = subst (λ s. fits_change g (change_in (step_of s)) c.args.before ≡ true) w.is c.requires.fits in
    subst (λ n. length (bytes_of c.args.before) ≤ n) (sym c.bytes_of_size.ensures)
    (write_longer g positive w.fresh w.size w.at w.bytes c.args.before c.requires.held fit)
