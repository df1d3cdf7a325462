use Rattle.std.proofs.Common.{List, ℕ, sym, ◌∙◌, subst}
use Rattle.plugin_reg.specs.Opening.{GivesProfile, IsRefused}
use Rattle.pool_run.specs.Profiles.{SaysFault}
use Rattle.pool_run.proofs.StatusLemmas.{all_taken}
use Rattle.pool_run.proofs.creating.create_from_input.Goals as goal

pub returns-in-Ok-clause-created : goal.returns-in-Ok-clause-created
returns-in-Ok-clause-created g c = λ text p told within gives.
    let same = c.deref.ensures.value ∙ all_taken _ _ text c.in-Ok.text.items told c.in-Ok.ensures.whole in
    c.create_pool.ensures.created p (subst (λ (t : List ℕ). GivesProfile t p) (sym same) gives)

pub returns-in-Ok-clause-refused : goal.returns-in-Ok-clause-refused
returns-in-Ok-clause-refused g c = λ text f told within is.
    let same = c.deref.ensures.value ∙ all_taken _ _ text c.in-Ok.text.items told c.in-Ok.ensures.whole in
    subst (λ (t : List ℕ). SaysFault t c.create_pool.result.0 (g.R.Rig.said c.args.rig.now) (g.R.Rig.said c.create_pool.new.rig)) same
    (c.create_pool.ensures.refused f (subst (λ (t : List ℕ). IsRefused t f) (sym same) is))

pub returns-in-Ok-clause-status_3 : goal.returns-in-Ok-clause-status_3
returns-in-Ok-clause-status_3 g c = λ e.
    let found = c.create_pool.ensures.status_3 e in
    (c.in-Ok.text.items, found.0, subst (λ (t : List ℕ). IsRefused t found.0) c.deref.ensures.value found.1, c.in-Ok.ensures.whole)
