use Rattle.std.proofs.Common.{rules, ◌∙◌, sym, subst}
use Rattle.pool_moves.specs.Opening.{AreTold}
use Rattle.pool_moves.proofs.ReadyLemmas.{never_none}
use Rattle.pool_core.proofs.pool.Pool.open.Goals as goal

pub returns-in-Ok-clause-held : goal.returns-in-Ok-clause-held
returns-in-Ok-clause-held g c = λ told held.
    c.in-Ok.ensures.held (subst (λ n. AreTold (g.R.Rig.is_here c.args.rig.now) (g.R.Rig.reads c.args.rig.now) n) (sym c.shape-shape.ensures.0.same_n) told)
    (record { held_map = held; stores = record { each = λ p store there. absurd (never_none store (sym (c.new.ensures.stores p) ∙ there)) } })

pub returns-in-Ok-clause-numbers : goal.returns-in-Ok-clause-numbers
returns-in-Ok-clause-numbers g c = search rules
