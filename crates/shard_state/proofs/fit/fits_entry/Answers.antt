use Rattle.std.proofs.Common.{sym, ap, ◌∙◌, option_copied}
use Rattle.shard_model.specs.Changes.{Replace, fits_change}
use Rattle.shard_model.specs.Objects.{Geometry}
use Rattle.shard_steps.specs.StepMeanings.{change_in, step_of}
use Rattle.shard_state.proofs.fit.fits_entry.Goals as goal

pub returns-in-Replace : goal.returns-in-Replace
returns-in-Replace c =
    let w = c.in-Replace in
    let g : Geometry = record { k = c.args.g.k; unit = c.args.g.unit } in
    let o = option_copied c.args.held in
    c.fits_replace.ensures o ∙ (λ i. fits_change g (Replace w.size (c.as_slice-in-Replace.ensures.value i)) o) ∙ ap (λ s. fits_change g (change_in (step_of s)) o) (sym w.is)
