use Rattle.std.proofs.Common.{ap, sym, ◌∙◌}
use Rattle.std.specs.Option.{option_copied}
use Rattle.pool_moves.proofs.DecideLemmas.{holds_exactly}
use Rattle.pool_core.proofs.choosing.holds_version.Goals as goal

pub returns-in-Some : goal.returns-in-Some
returns-in-Some c = holds_exactly c.args.shelf.now c.args.p c.args.version.now c.in-Some.store.now c.state.result.now c.holds.result c.requires.p
    (sym c.get.ensures.value ∙ ap option_copied c.in-Some.is) c.state.ensures.value c.holds.ensures
