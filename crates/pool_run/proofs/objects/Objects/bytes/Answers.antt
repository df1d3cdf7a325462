use Rattle.std.proofs.Common.{sym, ap, ◌∙◌}
use Rattle.std.specs.FinMap as map
use Rattle.pool_run.specs.Stored.{Kept}
use Rattle.pool_run.proofs.KeptLemmas.{kept_found, bytes_found, bytes_absent}
use Rattle.pool_run.proofs.MapLemmas.{get-entries}
use Rattle.pool_run.proofs.objects.Objects.bytes.Goals as goal

pub decode-requires-clause-stored : goal.decode-requires-clause-stored
decode-requires-clause-stored g c =
    let code = (goal.Code-dyn g c.args.code.now).meaning c.args.code.now.1 in
    let of =
    kept_found code c.args.unit c.requires.stored.0 c.args.self.now c.args.name.now c.in-Some.object.now c.requires.stored.1
    (ap (λ (k : Kept). map.get k.objects c.args.name.now) (sym c.self.view_is) ∙ get-entries c.args.name.now c.self.inside.objects.entries ∙ sym c.in-Some.ensures.value)
    in
    (of.0, of.1)

pub returns-in-None : goal.returns-in-None
returns-in-None g c = λ objects kept.
    let code = (goal.Code-dyn g c.args.code.now).meaning c.args.code.now.1 in
    bytes_absent code c.args.unit objects c.args.self.now c.args.name.now kept
    (ap (λ (k : Kept). map.get k.objects c.args.name.now) (sym c.self.view_is) ∙ get-entries c.args.name.now c.self.inside.objects.entries ∙ sym c.in-None.ensures.value)

pub returns-in_ok-decode-in-Some : goal.returns-in_ok-decode-in-Some
returns-in_ok-decode-in-Some g c = λ objects kept.
    let code = (goal.Code-dyn g c.args.code.now).meaning c.args.code.now.1 in
    bytes_found code c.args.unit objects c.args.self.now c.args.name.now _ _ kept
    (ap (λ (k : Kept). map.get k.objects c.args.name.now) (sym c.self.view_is) ∙ get-entries c.args.name.now c.self.inside.objects.entries ∙ sym c.in-Some.ensures.value)
    c.in_ok-decode-in-Some.ensures
