use Rattle.std.proofs.Common.{◌++◌, List, ℕ, map, length, append-nil, sym, ap, ◌∙◌}
use Rattle.std.specs.Fmt.{decimal}
use Rattle.ec_positions.specs.Commands.{Done}
use Rattle.pool_run.specs.Stored.{Kept, Stored}
use Rattle.pool_run.proofs.ListingLemmas.{list_is_done, sized}
use Rattle.pool_run.proofs.objects.Objects.list.Goals as goal

pub returns : goal.returns
returns c = λ code unit objects kept.
    let all = c.into_iter-name-iterator.ensures.into_iter_gives ∙ c.iter-name-items.ensures.rest in
    let whole = sym (append-nil c.loop-name.entries.items)
    ∙ ap (λ (l : List (List ℕ × Stored)). c.loop-name.entries.items ++ map sized l) (sym c.in-None.ensures.steps.0)
    ∙ c.loop-name.invariant.2 ∙ ap (map sized) all in
    list_is_done code unit objects c.args.self.now c.self.inside.objects.entries _ (ap (λ (k : Kept). k.objects) (sym c.self.view_is)) c.iter-name-items.ensures.ordered
    (λ i. Done (decimal (length (whole i))) (whole i)) kept
