use Rattle.std.proofs.Common.{Some, None, sym, ap, ◌∙◌}
use Rattle.std.specs.FinMap as map
use Rattle.pool_run.specs.Stored.{Kept}
use Rattle.pool_run.proofs.KeptLemmas.{size_found}
use Rattle.pool_run.proofs.MapLemmas.{get-entries}
use Rattle.pool_run.proofs.objects.Objects.size_of.Goals as goal

pub returns-in-Some : goal.returns-in-Some
returns-in-Some c = λ code unit objects kept.
    ap Some c.size.ensures
    ∙ size_found code unit objects c.args.self.now c.args.name.now (Some c.in-Some.object.now) kept
    (ap (λ (k : Kept). map.get k.objects c.args.name.now) (sym c.self.view_is) ∙ get-entries c.args.name.now c.self.inside.objects.entries ∙ sym c.in-Some.ensures.value)

pub returns-in-None : goal.returns-in-None
returns-in-None c = λ code unit objects kept.
    size_found code unit objects c.args.self.now c.args.name.now None kept
    (ap (λ (k : Kept). map.get k.objects c.args.name.now) (sym c.self.view_is) ∙ get-entries c.args.name.now c.self.inside.objects.entries ∙ sym c.in-None.ensures.value)
