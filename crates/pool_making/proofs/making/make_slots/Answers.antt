use Rattle.std.proofs.Common.{◌∙◌, ◌+◌, inl, inr, arith}
use Rattle.rig_disk.proofs.Moments.{weaker, goes_on, at_end}
use Rattle.slot_journal.specs.Limits.{make_reads, make_syncs}
use Rattle.shard_store.specs.Limits.{store_bytes}
use Rattle.pool_moves.specs.Contents.{Layout}
use Rattle.pool_moves.specs.Creating.{HasNoneOrFirst}
use Rattle.pool_moves.proofs.ContentLemmas.{same_told}
use Rattle.pool_making.specs.Frames.{IsOfPool}
use Rattle.pool_making.proofs.FaultLemmas.{cause_after, not_ok, on_ok}
use Rattle.pool_making.proofs.FrameLemmas.{costs_more, costs_weaker, then_more}
use Rattle.pool_making.proofs.making.make_slots.Goals as goal

pub returns-in-Err-clause-any_moment : goal.returns-in-Err-clause-any_moment
returns-in-Err-clause-any_moment g c told none =
    let l : Layout = record { geometry = record { k = c.args.g.k; unit = c.args.g.unit }; n = c.args.shape.n } in
    let old = c.args.rig.now in
    weaker g.R.Rig.clock g.R.Rig.images old c.place_all.new.rig (λ image said. g.R.Rig.images old (g.R.Rig.clock old) image said)
    (λ image said. HasNoneOrFirst l c.args.profile.now c.args.shape.k image) c.place_all.ensures.any_moment (λ image said was. inl (none image said was))

pub returns-clause-any_moment : goal.returns-clause-any_moment
returns-clause-any_moment g c told none =
    let l : Layout = record { geometry = record { k = c.args.g.k; unit = c.args.g.unit }; n = c.args.shape.n } in
    let old = c.args.rig.now in
    let mid = c.place_all.new.rig in
    let placed = c.in-Ok.ensures.placed in
    goes_on g.R.Rig.clock g.R.Rig.images old mid c.fill_all.new.rig (λ image said. HasNoneOrFirst l c.args.profile.now c.args.shape.k image)
    (λ image said. HasNoneOrFirst l c.args.profile.now c.args.shape.k image)
    (weaker g.R.Rig.clock g.R.Rig.images old mid (λ image said. g.R.Rig.images old (g.R.Rig.clock old) image said)
    (λ image said. HasNoneOrFirst l c.args.profile.now c.args.shape.k image) placed.moments (λ image said was. inl (none image said was)))
    (c.fill_all.ensures.any_moment (λ s below. let t = told s below in (t.0, same_told s (g.R.Rig.reads mid s) (g.R.Rig.reads old s) (placed.reads s) ∙ t.1))
    (λ image said now. none image said (at_end g.R.Rig.clock g.R.Rig.images old mid (λ image said. g.R.Rig.images old (g.R.Rig.clock old) image said) placed.moments image said now)))
    (λ image said is. is)

pub returns-clause-cause : goal.returns-clause-cause
returns-clause-cause g c = cause_after c.args.shape.n (g.R.Rig.faults c.args.rig.now) (g.R.Rig.faults c.place_all.new.rig) (g.R.Rig.faults c.fill_all.new.rig) _
    c.in-Ok.ensures.placed.faults c.fill_all.ensures.cause

pub returns-clause-made : goal.returns-clause-made
returns-clause-made g c =
    let old = c.args.rig.now in
    let mid = c.place_all.new.rig in
    let placed = c.in-Ok.ensures.placed in
    on_ok c.fill_all.result
    (λ whole told. whole (λ s below. let t = told s below in (t.0, same_told s (g.R.Rig.reads mid s) (g.R.Rig.reads old s) (placed.reads s) ∙ t.1)))
    c.fill_all.ensures.made

pub returns-in-Err-clause-refused : goal.returns-in-Err-clause-refused
returns-in-Err-clause-refused g c =
    let old = c.args.rig.now in
    inr (λ none image said now. none image said
    (at_end g.R.Rig.clock g.R.Rig.images old c.place_all.new.rig (λ image said. g.R.Rig.images old (g.R.Rig.clock old) image said) c.place_all.ensures.any_moment image said now))

pub returns-clause-untouched : goal.returns-clause-untouched
returns-clause-untouched g c some = absurd (not_ok c.place_all.result c.in-Ok.field-0 c.in-Ok.is (c.place_all.ensures.exists.whenever some.0 some.1.0 some.1.1))

pub returns-in-Err-clause-costs : goal.returns-in-Err-clause-costs
returns-in-Err-clause-costs g c =
    costs_weaker g.R.Rig.is_here g.R.Rig.reads g.R.Rig.said g.R.Rig.faults g.R.Rig.syncs g.R.Rig.bytes_written g.R.Rig.bytes_read
    c.args.shape.n 0 0 0 1 0 make_syncs store_bytes make_reads (1 + make_syncs) 4062 c.args.rig.now c.place_all.new.rig
    (omega arith, omega arith, omega arith, omega arith, omega arith) c.place_all.ensures.costs

pub returns-clause-kept : goal.returns-clause-kept
returns-clause-kept g c =
    then_more g.R.Rig.is_here g.R.Rig.reads g.R.Rig.said g.R.Rig.faults g.R.Rig.syncs g.R.Rig.bytes_written g.R.Rig.bytes_read
    (IsOfPool c.args.shape.n) (IsOfPool c.args.shape.n) (IsOfPool c.args.shape.n) c.args.rig.now c.place_all.new.rig c.fill_all.new.rig (λ s is. is) (λ s is. is)
    c.place_all.ensures.kept c.fill_all.ensures.kept

pub returns-clause-costs : goal.returns-clause-costs
returns-clause-costs g c =
    costs_more g.R.Rig.is_here g.R.Rig.reads g.R.Rig.said g.R.Rig.faults g.R.Rig.syncs g.R.Rig.bytes_written g.R.Rig.bytes_read
    c.args.shape.n 0 0 0 1 0 make_syncs store_bytes make_reads make_syncs 4062 c.args.rig.now c.place_all.new.rig c.fill_all.new.rig
    c.place_all.ensures.costs c.fill_all.ensures.costs
