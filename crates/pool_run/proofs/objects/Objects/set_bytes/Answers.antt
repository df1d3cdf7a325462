use Rattle.std.proofs.Common.{◌+◌, ℕ, List, cond, is_some, length, sym, ap, subst, ◌∙◌, arith}
use Rattle.std.specs.FinMap as map
use Rattle.pool_run.specs.Stored.{IsStored, Kept, or_zero}
use Rattle.pool_run.proofs.KeptLemmas.{kept_inserted, size_within}
use Rattle.pool_run.proofs.MapLemmas.{entries-insert, get-entries}
use Rattle.pool_run.proofs.objects.Objects.set_bytes.Goals as goal

pub usage_with-usage-requires-clause-taken : goal.usage_with-usage-requires-clause-taken
usage_with-usage-requires-clause-taken g c =
    let code = (goal.Code-dyn g c.args.code.now).meaning c.args.code.now.1 in
    let all = c.requires.stored in
    omega (
      arith,
      ap or_zero (c.size_of.ensures code c.args.unit all.0 all.1),
      size_within code c.args.unit all.0 c.args.self.now c.args.name all.1,
      ap (λ (k : Kept). k.usage) c.self.view_is,
    )

pub returns-clause-ok : goal.returns-clause-ok
returns-clause-ok g c = λ objects kept within.
    let code = (goal.Code-dyn g c.args.code.now).meaning c.args.code.now.1 in
    let here = c.in_ok-insert.ensures.old ∙ sym (get-entries c.args.name c.self.inside.objects.entries) ∙ ap (λ (k : Kept). map.get k.objects c.args.name) c.self.view_is in
    kept_inserted code c.args.unit objects c.args.self.now _ c.args.name c.args.bytes.now c.in_ok-object.object
    (entries-insert _ _ c.args.name c.in_ok-object.object c.in_ok-insert.ensures.updates.0 ∙ ap (λ (k : Kept). map.insert k.objects c.args.name c.in_ok-object.object) c.self.view_is)
    (c.in_ok-insert.ensures.len ∙ (λ i. (c.self.view_is i).count + cond (is_some (here i)) 0 1))
    (omega (arith, c.usage_with-usage.ensures, ap or_zero (c.size_of.ensures code c.args.unit objects kept), ap (λ (b : List ℕ). length b) c.as_slice.ensures.value, ap (λ (k : Kept). k.usage) c.self.view_is))
    (subst (λ (b : List ℕ). IsStored code c.args.unit b c.in_ok-object.object) c.as_slice-2.ensures.value c.in_ok-object.ensures) kept within
