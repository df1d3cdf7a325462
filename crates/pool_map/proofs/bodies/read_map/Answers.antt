use Rattle.std.proofs.Common.{rules, ◌∷◌, ◌-◌, length, take, drop, ap, sym, subst, ◌∙◌, Err}
use Rattle.std.proofs.lemmas.List.{drop_more}
use Rattle.pool_map.specs.Maps.{IsCanonical}
use Rattle.pool_map.specs.declared.fault.MapFault.TheVariants.{BadMap}
use Rattle.pool_map.proofs.FaultLemmas.{err_by}
use Rattle.pool_map.proofs.BodyLemmas.{behind_first, not_lines, not_state}
use Rattle.pool_map.proofs.bodies.read_map.Goals as goal

pub returns-in_err-opened-clause-bad : goal.returns-in_err-opened-clause-bad
returns-in_err-opened-clause-bad g c = λ e m same is.
    not_lines c.args.k c.args.unit c.args.n c.args.bodies.now m same is c.as_slice.result.now (drop 1 c.args.bodies.now)
    (drop_more c.args.bodies.now 0 c.index-bodies-0.result (search rules) ∙ ap (λ b. b ∷ drop 1 c.args.bodies.now) (sym c.index-bodies-0.is ∙ sym c.as_slice.ensures.value))
    c.in_ok-first.first.lines c.in_ok-first.first.rest.now c.in_ok-first.ensures.only
    (λ p canonical. c.in_err-opened.ensures.bad (ap Err (err_by c.from_residual-in_err-opened.result c.in_err-opened.field-0.0 BadMap c.from_residual-in_err-opened.ensures.1 e))
    p (subst (λ l. IsCanonical l p c.args.k c.args.n c.args.unit) (sym c.as_slice-2.ensures.value) canonical))

pub returns-in_err-state-clause-bad : goal.returns-in_err-state-clause-bad
returns-in_err-state-clause-bad g c = λ e m same is.
    not_state c.args.k c.args.unit c.args.n c.args.bodies.now m same is c.as_slice.result.now (take (length c.args.bodies.now - 1) (drop 1 c.args.bodies.now))
    (behind_first c.args.bodies.now c.as_slice.result.now (search rules)
    (drop_more c.args.bodies.now 0 c.index-bodies-0.result (search rules) ∙ ap (λ b. b ∷ drop 1 c.args.bodies.now) (sym c.index-bodies-0.is ∙ sym c.as_slice.ensures.value)))
    c.in_ok-first.first.lines c.in_ok-first.first.rest.now c.in_ok-first.ensures.only
    (c.in_err-state.ensures.bad (ap Err (err_by c.from_residual-in_err-state.result c.in_err-state.field-0.0 BadMap c.from_residual-in_err-state.ensures.1 e)))
