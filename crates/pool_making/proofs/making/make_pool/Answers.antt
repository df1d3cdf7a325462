use Rattle.std.proofs.Common.{OnOk, ℕ, List}
use Rattle.rig_disk.specs.Disk.{Image}
use Rattle.rig_disk.specs.During.{During}
use Rattle.pool_moves.specs.Contents.{Layout}
use Rattle.pool_moves.specs.Creating.{HasNoneOrFirst, IsCreated}
use Rattle.pool_moves.specs.Making.{AllAreTold, HaveNoPool}
use Rattle.pool_making.specs.Faults.{HasMakeCause}
use Rattle.pool_making.specs.Frames.{CostsOfPool, IsOfPool, KeepsOutside}
use Rattle.pool_making.proofs.ProfileLemmas.{by_code}
use Rattle.pool_making.proofs.making.make_pool.Goals as goal

pub make_slots-requires-clause-profile : goal.make_slots-requires-clause-profile
make_slots-requires-clause-profile g c = record {
  accepted = c.requires.accepted;
  writable = c.requires.writable;
  shape = ((goal.Code-dyn g c.args.code.now).meaning c.args.code.now.1, c.requires.code, c.shape-shape.ensures.0);
}

pub returns-clause-made : goal.returns-clause-made
returns-clause-made g c =
    let p = c.args.profile.now in
    let old = c.args.rig.now in
    let new = c.make_slots.new.rig in
    by_code ((goal.Code-dyn g c.args.code.now).meaning c.args.code.now.1) c.shape-shape.result.k c.shape-shape.result.n c.shape-shape.result.lead p.stripe_unit c.geometry_of-g.result.k c.geometry_of-g.result.unit
    c.shape-shape.ensures.0 c.geometry_of-g.ensures.k c.geometry_of-g.ensures.unit
    (λ (l : Layout) (k : ℕ). OnOk c.make_slots.result (AllAreTold (g.R.Rig.reads old) → (image : Image) (said : List ℕ) → g.R.Rig.images new (g.R.Rig.clock new) image said → IsCreated l p k image))
    c.make_slots.ensures.made

pub returns-clause-any_moment : goal.returns-clause-any_moment
returns-clause-any_moment g c =
    let p = c.args.profile.now in
    let old = c.args.rig.now in
    by_code ((goal.Code-dyn g c.args.code.now).meaning c.args.code.now.1) c.shape-shape.result.k c.shape-shape.result.n c.shape-shape.result.lead p.stripe_unit c.geometry_of-g.result.k c.geometry_of-g.result.unit
    c.shape-shape.ensures.0 c.geometry_of-g.ensures.k c.geometry_of-g.ensures.unit
    (λ (l : Layout) (k : ℕ). AllAreTold (g.R.Rig.reads old) → HaveNoPool (g.R.Rig.images old (g.R.Rig.clock old))
    → During g.R.Rig.clock g.R.Rig.images old c.make_slots.new.rig (λ (image : Image) (said : List ℕ). HasNoneOrFirst l p k image))
    c.make_slots.ensures.any_moment

pub returns-clause-cause : goal.returns-clause-cause
returns-clause-cause g c =
    let p = c.args.profile.now in
    let old = c.args.rig.now in
    let new = c.make_slots.new.rig in
    by_code ((goal.Code-dyn g c.args.code.now).meaning c.args.code.now.1) c.shape-shape.result.k c.shape-shape.result.n c.shape-shape.result.lead p.stripe_unit c.geometry_of-g.result.k c.geometry_of-g.result.unit
    c.shape-shape.ensures.0 c.geometry_of-g.ensures.k c.geometry_of-g.ensures.unit
    (λ (l : Layout) (k : ℕ). HasMakeCause l.n (g.R.Rig.faults old) (g.R.Rig.faults new) c.make_slots.result)
    c.make_slots.ensures.cause

pub returns-clause-kept : goal.returns-clause-kept
returns-clause-kept g c =
    let p = c.args.profile.now in
    let old = c.args.rig.now in
    let new = c.make_slots.new.rig in
    by_code ((goal.Code-dyn g c.args.code.now).meaning c.args.code.now.1) c.shape-shape.result.k c.shape-shape.result.n c.shape-shape.result.lead p.stripe_unit c.geometry_of-g.result.k c.geometry_of-g.result.unit
    c.shape-shape.ensures.0 c.geometry_of-g.ensures.k c.geometry_of-g.ensures.unit
    (λ (l : Layout) (k : ℕ). KeepsOutside (IsOfPool l.n) g.R.Rig.is_here g.R.Rig.reads g.R.Rig.said g.R.Rig.syncs g.R.Rig.bytes_written g.R.Rig.bytes_read old new)
    c.make_slots.ensures.kept

pub returns-clause-costs : goal.returns-clause-costs
returns-clause-costs g c =
    let p = c.args.profile.now in
    let old = c.args.rig.now in
    let new = c.make_slots.new.rig in
    by_code ((goal.Code-dyn g c.args.code.now).meaning c.args.code.now.1) c.shape-shape.result.k c.shape-shape.result.n c.shape-shape.result.lead p.stripe_unit c.geometry_of-g.result.k c.geometry_of-g.result.unit
    c.shape-shape.ensures.0 c.geometry_of-g.ensures.k c.geometry_of-g.ensures.unit
    (λ (l : Layout) (k : ℕ). CostsOfPool g.R.Rig.syncs g.R.Rig.bytes_written g.R.Rig.bytes_read l.n old new)
    c.make_slots.ensures.costs
