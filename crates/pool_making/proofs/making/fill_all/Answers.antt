use Rattle.std.proofs.Common.{◌∙◌, ap, arith, subst, inl, inr, ⊎_elim, Err}
use Rattle.rig_disk.proofs.Moments.{at_end}
use Rattle.slot_journal.specs.InUse.{text_in_use}
use Rattle.pool_map.specs.Maps.{IsNoPool}
use Rattle.pool_moves.specs.Contents.{Layout}
use Rattle.pool_map.specs.declared.fault.MapFault.TheVariants as map
use Rattle.pool_moves.proofs.MakingLemmas.{filled, filled_whole, same_counts}
use Rattle.pool_making.proofs.FaultLemmas.{cause_after, map_cause, none_failed, ok_err}
use Rattle.pool_making.proofs.FrameLemmas.{all_made, all_made_costs, shards_made, shards_made_costs}
use Rattle.pool_making.proofs.making.fill_all.Goals as goal

pub returns-clause-made : goal.returns-clause-made
returns-clause-made g c told image said now =
    let l : Layout = record { geometry = record { k = c.args.g.k; unit = c.args.g.unit }; n = c.args.shape.n } in
    filled_whole g.R.Rig.is_here g.R.Rig.reads g.R.Rig.clock g.R.Rig.images g.R.Rig.faults c.args.rig.now l (omega (arith, c.requires.few)) c.args.profile.now c.args.shape.k
    c.make_shards.new.rig c.make.new.rig c.in-Ok.ensures.made told c.in-Ok-make.field-0 c.in-Ok-make.ensures.made c.make.ensures.any_moment image said now

pub returns-clause-any_moment : goal.returns-clause-any_moment
returns-clause-any_moment g c told none =
    let l : Layout = record { geometry = record { k = c.args.g.k; unit = c.args.g.unit }; n = c.args.shape.n } in
    filled g.R.Rig.is_here g.R.Rig.reads g.R.Rig.clock g.R.Rig.images g.R.Rig.faults c.args.rig.now l (omega (arith, c.requires.few)) c.args.profile.now c.args.shape.k
    c.make_shards.new.rig c.make.new.rig c.in-Ok.ensures.made told none c.make.ensures.any_moment

pub returns-in-Err-make-clause-any_moment : goal.returns-in-Err-make-clause-any_moment
returns-in-Err-make-clause-any_moment g c told none =
    let l : Layout = record { geometry = record { k = c.args.g.k; unit = c.args.g.unit }; n = c.args.shape.n } in
    filled g.R.Rig.is_here g.R.Rig.reads g.R.Rig.clock g.R.Rig.images g.R.Rig.faults c.args.rig.now l (omega (arith, c.requires.few)) c.args.profile.now c.args.shape.k
    c.make_shards.new.rig c.make.new.rig c.in-Ok.ensures.made told none c.make.ensures.any_moment

pub returns-in-Err-make-clause-refused : goal.returns-in-Err-make-clause-refused
returns-in-Err-make-clause-refused g c =
    let old = c.args.rig.now in
    let mid = c.make_shards.new.rig in
    ⊎_elim (λ failed. inl failed.1)
    (λ none_left. inr (λ none image said now. at_end g.R.Rig.clock g.R.Rig.images old mid (λ image said. IsNoPool (text_in_use 16 (image 16)))
    (c.in-Ok.ensures.made.moments none) image said
    (subst (λ rig. g.R.Rig.images rig (g.R.Rig.clock rig) image said) (c.make.ensures.refused (c.in-Err-make.is ∙ ap Err none_left.0)) now)))
    c.fault_of.ensures

pub returns-in-Err-clause-kept : goal.returns-in-Err-clause-kept
returns-in-Err-clause-kept g c = shards_made g.R.Rig.is_here g.R.Rig.reads g.R.Rig.said g.R.Rig.faults g.R.Rig.syncs g.R.Rig.bytes_written g.R.Rig.bytes_read
    c.args.shape.n (omega (arith, c.requires.few)) c.args.rig.now c.make_shards.new.rig c.make_shards.ensures.kept c.make_shards.ensures.costs

pub returns-in-Err-clause-costs : goal.returns-in-Err-clause-costs
returns-in-Err-clause-costs g c = shards_made_costs g.R.Rig.is_here g.R.Rig.reads g.R.Rig.said g.R.Rig.faults g.R.Rig.syncs g.R.Rig.bytes_written g.R.Rig.bytes_read
    c.args.shape.n (omega (arith, c.requires.few)) c.args.rig.now c.make_shards.new.rig c.make_shards.ensures.kept c.make_shards.ensures.costs

pub returns-in-Err-make-clause-kept : goal.returns-in-Err-make-clause-kept
returns-in-Err-make-clause-kept g c = all_made g.R.Rig.is_here g.R.Rig.reads g.R.Rig.said g.R.Rig.faults g.R.Rig.syncs g.R.Rig.bytes_written g.R.Rig.bytes_read
    c.args.shape.n (omega (arith, c.requires.few)) c.args.rig.now c.make_shards.new.rig c.make_shards.ensures.kept c.make_shards.ensures.costs c.make.new.rig c.make.ensures.kept.on_slot

pub returns-in-Err-make-clause-costs : goal.returns-in-Err-make-clause-costs
returns-in-Err-make-clause-costs g c = all_made_costs g.R.Rig.is_here g.R.Rig.reads g.R.Rig.said g.R.Rig.faults g.R.Rig.syncs g.R.Rig.bytes_written g.R.Rig.bytes_read
    c.args.shape.n (omega (arith, c.requires.few)) c.args.rig.now c.make_shards.new.rig c.make_shards.ensures.kept c.make_shards.ensures.costs c.make.new.rig c.make.ensures.kept.on_slot

pub returns-clause-kept : goal.returns-clause-kept
returns-clause-kept g c = all_made g.R.Rig.is_here g.R.Rig.reads g.R.Rig.said g.R.Rig.faults g.R.Rig.syncs g.R.Rig.bytes_written g.R.Rig.bytes_read
    c.args.shape.n (omega (arith, c.requires.few)) c.args.rig.now c.make_shards.new.rig c.make_shards.ensures.kept c.make_shards.ensures.costs c.make.new.rig c.make.ensures.kept.on_slot

pub returns-clause-costs : goal.returns-clause-costs
returns-clause-costs g c = all_made_costs g.R.Rig.is_here g.R.Rig.reads g.R.Rig.said g.R.Rig.faults g.R.Rig.syncs g.R.Rig.bytes_written g.R.Rig.bytes_read
    c.args.shape.n (omega (arith, c.requires.few)) c.args.rig.now c.make_shards.new.rig c.make_shards.ensures.kept c.make_shards.ensures.costs c.make.new.rig c.make.ensures.kept.on_slot

pub returns-in-Err-make-clause-cause : goal.returns-in-Err-make-clause-cause
returns-in-Err-make-clause-cause g c =
    cause_after c.args.shape.n (g.R.Rig.faults c.args.rig.now) (g.R.Rig.faults c.make_shards.new.rig) (g.R.Rig.faults c.make.new.rig) _ c.in-Ok.ensures.made.faults
    (map_cause c.args.shape.n (g.R.Rig.faults c.make_shards.new.rig) (g.R.Rig.faults c.make.new.rig) c.make.result _ c.fault_of.result c.in-Err-make.is
    c.make.ensures.only_if_fault c.make.ensures.kept.on_slot.kept.counts.faults c.fault_of.ensures)

pub returns-clause-cause : goal.returns-clause-cause
returns-clause-cause g c =
    cause_after c.args.shape.n (g.R.Rig.faults c.args.rig.now) (g.R.Rig.faults c.make_shards.new.rig) (g.R.Rig.faults c.make.new.rig) _ c.in-Ok.ensures.made.faults
    (none_failed c.args.shape.n (g.R.Rig.faults c.make_shards.new.rig) (g.R.Rig.faults c.make.new.rig) _ (λ s e. cc) (λ e. cc)
    (same_counts (g.R.Rig.faults c.make.new.rig) (g.R.Rig.faults c.make_shards.new.rig) 16 (c.in-Ok-make.ensures.only_if_fault.quiet (λ e. ok_err c.in-Ok-make.field-0 map.Failed e))
    c.make.ensures.kept.on_slot.kept.counts.faults))
