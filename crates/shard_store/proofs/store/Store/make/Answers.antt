use Rattle.shard_model.specs.Objects.{Geometry}
use Rattle.slot_journal.specs.Writing.{first_text}
use Rattle.shard_store.specs.Stories.{shard_head}
use Rattle.shard_store.proofs.MakeLemmas.{made, make_moments}
use Rattle.shard_store.proofs.store.Store.make.Goals as goal

pub returns-in-Ok-make-clause-ok : goal.returns-in-Ok-make-clause-ok
returns-in-Ok-make-clause-ok g c text told =
    let geometry : Geometry = record { k = c.args.g.k; unit = c.args.g.unit } in (
      first_text c.shard_head.result c.body.result.now,
      made (g.R.Rig.reads c.make.new.rig) (g.R.Rig.images c.make.new.rig (g.R.Rig.clock c.make.new.rig)) _ (first_text c.shard_head.result c.body.result.now)
          c.shard_head.result c.body.result.now geometry c.args.slot c.args.n c.args.partial c.in-Ok.story c.shard_head.ensures c.in-Ok-make.ensures.ok.fresh.slot_is (λ i. c.args.n)
          c.in-Ok.ensures c.body.ensures c.flushed.ensures (c.in-Ok-make.ensures.ok.holds text told),
    )

pub returns-in-Ok-make-clause-any_moment : goal.returns-in-Ok-make-clause-any_moment
returns-in-Ok-make-clause-any_moment g c =
    let geometry : Geometry = record { k = c.args.g.k; unit = c.args.g.unit } in
    make_moments geometry c.args.partial c.in-Ok.story c.in-Ok.ensures c.shard_head.result c.body.result.now c.body.ensures
    g.R.Rig.clock g.R.Rig.images c.args.rig.now c.make.new.rig (g.R.Rig.reads c.args.rig.now c.args.slot) c.args.slot (shard_head c.args.slot geometry c.args.n) c.shard_head.ensures c.make.ensures.any_moment

pub returns-in-Err-Failed-clause-any_moment : goal.returns-in-Err-Failed-clause-any_moment
returns-in-Err-Failed-clause-any_moment g c =
    let geometry : Geometry = record { k = c.args.g.k; unit = c.args.g.unit } in
    make_moments geometry c.args.partial c.in-Ok.story c.in-Ok.ensures c.shard_head.result c.body.result.now c.body.ensures
    g.R.Rig.clock g.R.Rig.images c.args.rig.now c.make.new.rig (g.R.Rig.reads c.args.rig.now c.args.slot) c.args.slot (shard_head c.args.slot geometry c.args.n) c.shard_head.ensures c.make.ensures.any_moment

pub returns-in-Ok-make-clause-kept : goal.returns-in-Ok-make-clause-kept
returns-in-Ok-make-clause-kept g c = c.make.ensures.kept.on_slot.kept

pub returns-in-Err-Failed-clause-kept : goal.returns-in-Err-Failed-clause-kept
returns-in-Err-Failed-clause-kept g c = c.make.ensures.kept.on_slot.kept
