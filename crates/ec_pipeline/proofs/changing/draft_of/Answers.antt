use Rattle.std.proofs.Common.{◌≡◌, ◌<◌, ◌^◌, ◌⊎◌, ℕ, List, Option, IfOk, sym, subst}
use Rattle.std.specs.List.{All}
use Rattle.rig_disk.specs.Faults.{Rose}
use Rattle.shard_store.specs.Ranges.{object_bytes}
use Rattle.shard_store.specs.Shelves.{store_at}
use Rattle.ec_positions.specs.Objects.{Object, bytes_in}
use Rattle.ec_positions.specs.Positions.{change_of, write_of}
use Rattle.ec_positions.specs.Updates.{name_of}
use Rattle.ec_pipeline.specs.Drafts.{drafted_change, drafted_write, size_or_none, HasSize}
use Rattle.ec_pipeline.specs.Reading.{AreStored, HasStripesOf, LacksStripes}
use Rattle.ec_pipeline.specs.Updates.{update_of}
use Rattle.ec_pipeline.specs.declared.update.Update.{Update}
use Rattle.ec_pipeline.proofs.changing.draft_of.Goals as goal

pub returns-in-Append-clause-slot : goal.returns-in-Append-clause-slot
returns-in-Append-clause-slot g c s is =
    let checked = c.args.checked.now in
    subst (λ (u : Update). Rose (g.R.Rig.faults c.args.rig.now s) (g.R.Rig.faults c.draft_at.new.rig s)
    ⊎ LacksStripes checked.g.k checked.g.unit (size_or_none checked.size) (object_bytes (store_at c.args.shelf.now s) (name_of (update_of u)))) (sym c.in-Append.is) (c.draft_at.ensures.slot s is)

pub returns-in-Write-clause-slot : goal.returns-in-Write-clause-slot
returns-in-Write-clause-slot g c s is =
    let checked = c.args.checked.now in
    subst (λ (u : Update). Rose (g.R.Rig.faults c.args.rig.now s) (g.R.Rig.faults c.draft_at-in-Write.new.rig s)
    ⊎ LacksStripes checked.g.k checked.g.unit (size_or_none checked.size) (object_bytes (store_at c.args.shelf.now s) (name_of (update_of u)))) (sym c.in-Write.is) (c.draft_at-in-Write.ensures.slot s is)

pub returns-in-Write-clause-value : goal.returns-in-Write-clause-value
returns-in-Write-clause-value g c =
    let code = (goal.Code-dyn g c.args.code.now).meaning c.args.code.now.1 in
    let unit = c.args.checked.now.g.unit in
    let size = c.args.checked.now.size in
    let set = c.args.joined.0 in
    let shelf = c.args.shelf.now in
    let rig = c.args.rig.now in
    let reads = g.R.Rig.reads rig in
    let images = g.R.Rig.images rig (g.R.Rig.clock rig) in
    subst (λ (u : Update). IfOk c.draft_at-in-Write.result (λ draft. (o : Option Object) → HasSize o size → All (λ b. b < 2 ^ 8) (bytes_in o) → AreStored reads images set shelf
    → HasStripesOf code unit set shelf (name_of (update_of u)) (bytes_in o) → (p : ℕ) → drafted_change code unit p draft (update_of u) ≡ change_of code unit p o (update_of u))) (sym c.in-Write.is)
    (subst (λ (bytes : List ℕ). IfOk c.draft_at-in-Write.result (λ draft. (o : Option Object) → HasSize o size → All (λ b. b < 2 ^ 8) (bytes_in o) → AreStored reads images set shelf
    → HasStripesOf code unit set shelf c.in-Write.name (bytes_in o) → (p : ℕ) → drafted_write code unit p draft ≡ write_of code unit p o c.in-Write.off bytes)) c.as_slice-in-Write.ensures.value c.draft_at-in-Write.ensures.value)
