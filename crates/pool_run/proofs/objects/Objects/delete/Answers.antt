use Rattle.std.proofs.Common.{Some, length, refl, sym, ap, ◌∙◌, arith}
use Rattle.std.specs.FinMap as map
use Rattle.pool_run.specs.Stored.{Kept, or_zero}
use Rattle.pool_run.proofs.KeptLemmas.{size_found, size_within}
use Rattle.pool_run.proofs.MapLemmas.{by_name, entries-remove, get-entries}
use Rattle.pool_run.proofs.ServeLemmas.{delete_is_absent, delete_is_done}
use Rattle.pool_run.proofs.objects.Objects.delete.Goals as goal

pub overflow_sub-self : goal.overflow_sub-self
overflow_sub-self c =
    let all = c.requires.stored in
    let here = ap (λ (k : Kept). map.get k.objects c.args.name.now) (sym c.self.view_is) ∙ get-entries c.args.name.now c.self.inside.objects.entries ∙ sym c.in-Some.ensures.value in
    omega (
      arith,
      c.from.ensures,
      c.size.ensures,
      ap or_zero (size_found all.0 all.1 all.2 c.args.self.now c.args.name.now (Some c.in-Some.object) all.3 here),
      size_within all.0 all.1 all.2 c.args.self.now c.args.name.now all.3,
      ap (λ (k : Kept). k.usage) c.self.view_is,
    )

pub returns-in-Some : goal.returns-in-Some
returns-in-Some c = λ code unit objects kept.
    let here = ap (λ (k : Kept). map.get k.objects c.args.name.now) (sym c.self.view_is) ∙ get-entries c.args.name.now c.self.inside.objects.entries ∙ sym c.in-Some.ensures.value in
    let usage = ap (λ (k : Kept). k.usage) c.self.view_is in
    delete_is_done code unit objects c.args.self.now _ c.args.name.now c.in-Some.object c.done.result c.done.ensures
    (entries-remove _ _ c.args.name.now c.in-Some.ensures.updates.0 ∙ ap (λ (k : Kept). map.remove k.objects c.args.name.now) c.self.view_is)
    (c.in-Some.ensures.len ∙ ap (λ (k : Kept). k.count) c.self.view_is)
    (omega (
      arith,
      c.from.ensures,
      c.size.ensures,
      usage,
      ap or_zero (size_found code unit objects c.args.self.now c.args.name.now (Some c.in-Some.object) kept here),
      size_within code unit objects c.args.self.now c.args.name.now kept,
    ))
    here kept

pub returns-in-None : goal.returns-in-None
returns-in-None c = λ code unit objects kept.
    let here = ap (λ (k : Kept). map.get k.objects c.args.name.now) (sym c.self.view_is) ∙ get-entries c.args.name.now c.self.inside.objects.entries ∙ sym c.in-None.ensures.value in
    let same = ap (λ es. record { objects = map.from_entries {R = by_name} es; count = length es; usage = c.self.inside.usage }) c.in-None.ensures.unchanged ∙ c.self.view_is in
    delete_is_absent code unit objects c.args.self.now _ c.args.name.now _ refl same here kept
