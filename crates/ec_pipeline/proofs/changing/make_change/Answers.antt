use Rattle.std.proofs.Common.{◌≤◌, inr, refl, sym, subst, ◌∙◌, Option}
use Rattle.std.specs.Prelude.{IfSome}
use Rattle.std.specs.FinMap as fin
use Rattle.shard_store.specs.OnSlot.{HasRoomFor}
use Rattle.shard_store.specs.Shelves.{store_at}
use Rattle.shard_store.specs.Told.{with_step, all_accepted}
use Rattle.shard_store.specs.declared.store.Store.{Store}
use Rattle.ec_positions.specs.Updates.{name_of}
use Rattle.ec_pipeline.specs.Drafts.{drafted_step, size_or_none}
use Rattle.ec_pipeline.specs.Preparing.{Prepared}
use Rattle.ec_pipeline.specs.Shelving.{BecomesAt}
use Rattle.ec_pipeline.specs.Showing.{ShowsAt}
use Rattle.ec_pipeline.specs.Staging.{IsMisfitAt}
use Rattle.ec_pipeline.specs.Updates.{update_of}
use Rattle.ec_pipeline.specs.declared.fault.PrepareFault.TheVariants.{Slot}
use Rattle.ec_pipeline.proofs.HinderLemmas.{slot_staged}
use Rattle.ec_pipeline.proofs.ReadLemmas.{fault_same}
use Rattle.ec_pipeline.specs.Shelving.{TellsOn}
use Rattle.ec_pipeline.proofs.AgainLemmas.{idle_again, steps_again, tells_kept}
use Rattle.ec_pipeline.proofs.ChangeLemmas.{step_short, room_at, ready_then, stripes_shown, prepared, unchanged_then, unchanged_same}
use Rattle.ec_pipeline.proofs.SetLemmas.{below_16, position_below}
use Rattle.ec_pipeline.proofs.changing.make_change.Goals as goal

pub change_all-requires-clause-room : goal.change_all-requires-clause-room
change_all-requires-clause-room g c s has =
    let code = (goal.Code-dyn g c.args.code.now).meaning c.args.code.now.1 in
    let stripes = c.args.checked.now.g in
    let asked = update_of c.args.update.now in
    let draft = c.in-Ok.draft in
    let set = c.args.joined.0 in
    let few = below_16 code.n set c.shape-shape.ensures.1.few c.requires.below in
    let some_k : 1 ≤ code.k = subst (λ k. 1 ≤ k) c.requires.same_k stripes.some_chunks in
    let short = step_short code stripes.unit s draft asked (size_or_none c.args.checked.now.size) some_k stripes.some_bytes stripes.within_limit c.are_names.ensures c.requires.small c.in-Ok.ensures.list in
    subst (λ (o : Option Store). IfSome o (HasRoomFor (drafted_step code stripes.unit s draft asked))) (sym (c.draft_of.ensures.stores s))
    (room_at code.k c.args.queued (drafted_step code stripes.unit s draft asked) (store_at c.args.shelf.now s) c.requires.queued short (c.requires.ready s has) (c.requires.roomy s (position_below 16 set s few has) has))

pub returns-in-Ok-change_all-clause-ready : goal.returns-in-Ok-change_all-clause-ready
returns-in-Ok-change_all-clause-ready g c s has =
    let code = (goal.Code-dyn g c.args.code.now).meaning c.args.code.now.1 in
    let stripes = c.args.checked.now.g in
    let asked = update_of c.args.update.now in
    let draft = c.in-Ok.draft in
    let set = c.args.joined.0 in
    let few = below_16 code.n set c.shape-shape.ensures.1.few c.requires.below in
    let some_k : 1 ≤ code.k = subst (λ k. 1 ≤ k) c.requires.same_k stripes.some_chunks in
    let short = step_short code stripes.unit s draft asked (size_or_none c.args.checked.now.size) some_k stripes.some_bytes stripes.within_limit c.are_names.ensures c.requires.small c.in-Ok.ensures.list in
    let step = drafted_step code stripes.unit s draft asked in
    ready_then code.k c.args.queued step (store_at c.args.shelf.now s) (store_at c.change_all.new.shelf s) short (c.requires.ready s has)
    (subst (λ (o : Option Store). BecomesAt (λ t. all_accepted (with_step t step)) o (store_at c.change_all.new.shelf s)) (c.draft_of.ensures.stores s)
    (c.in-Ok-change_all.ensures.ok.inside s (position_below 16 set s few has) has))

pub returns-in-Ok-change_all-clause-ok : goal.returns-in-Ok-change_all-clause-ok
returns-in-Ok-change_all-clause-ok g c unit m head epoch shown stored known allowed =
    let code = (goal.Code-dyn g c.args.code.now).meaning c.args.code.now.1 in
    let stripes = c.args.checked.now.g in
    let asked = update_of c.args.update.now in
    let set = c.args.joined.0 in
    let old = c.args.shelf.now in
    let few = below_16 code.n set c.shape-shape.ensures.1.few c.requires.below in
    let some_k : 1 ≤ code.k = subst (λ k. 1 ≤ k) c.requires.same_k stripes.some_chunks in
    let shown_too : ShowsAt code stripes.unit set m head old = subst (λ u. ShowsAt code u set m head old) (sym known.unit_is) shown in
    subst (λ u. Prepared code u set m head epoch asked old c.change_all.new.shelf) known.unit_is
    (prepared code stripes.unit set code.k c.args.queued m head epoch asked c.in-Ok.draft old c.draft_of.new.shelf c.change_all.new.shelf some_k stripes.some_bytes few allowed c.are_bytes.ensures
    c.requires.ready shown_too c.draft_of.ensures.stores (c.in-Ok.ensures.versions.0 ∙ known.version_is) (c.in-Ok.ensures.versions.1 ∙ known.prior_is)
    (λ p. c.in-Ok.ensures.value (fin.get m (name_of asked)) known.size_is (shown.shows.bytes (name_of asked)) stored (stripes_shown code stripes.unit set code.k c.args.queued m head (name_of asked) old c.requires.ready shown_too) p)
    c.in-Ok-change_all.ensures.ok)

pub returns-clause-slot : goal.returns-clause-slot
returns-clause-slot g c s is =
    let code = (goal.Code-dyn g c.args.code.now).meaning c.args.code.now.1 in
    let unit = c.args.checked.now.g.unit in
    let asked = update_of c.args.update.now in
    let draft = c.in-Ok.draft in
    let fault = c.in-Err-change_all.fault in
    let cause = slot_staged c.args.joined.0 (λ p. drafted_step code unit p draft asked) c.draft_of.new.shelf fault s c.in-Err-change_all.ensures.faults (fault_same _ fault (Slot s) is) in
    inr (
      cause.0,
      inr (record {
        draft = draft;
        version_is = c.in-Ok.ensures.versions.0;
        prior_is = c.in-Ok.ensures.versions.1;
        shaped = c.in-Ok.ensures.shape;
        misfit = subst (λ (o : Option Store). IsMisfitAt o (drafted_step code unit s draft asked)) (c.draft_of.ensures.stores s) cause.1;
      }),
    )

pub returns-in-Err-clause-idle : goal.returns-in-Err-clause-idle
returns-in-Err-clause-idle g c s has =
    let old = c.args.shelf.now in
    let new = c.draft_of.new.shelf in
    idle_again g.R.Rig.is_here g.R.Rig.reads g.R.Rig.said g.R.Rig.clock g.R.Rig.images g.R.Rig.faults g.R.Rig.syncs g.R.Rig.bytes_written g.R.Rig.bytes_read
    c.args.rig.now c.draft_of.new.rig s (λ t. t) (store_at old s) (store_at new s) c.draft_of.ensures.rig (λ t none. none)
    (unchanged_same old new c.draft_of.ensures.stores s) (c.requires.idle s has)

pub returns-in-Err-clause-stored : goal.returns-in-Err-clause-stored
returns-in-Err-clause-stored g c stored s has =
    let old = c.args.shelf.now in
    let new = c.draft_of.new.shelf in
    let same = unchanged_same old new c.draft_of.ensures.stores s in
    steps_again g.R.Rig.is_here g.R.Rig.reads g.R.Rig.said g.R.Rig.clock g.R.Rig.images g.R.Rig.faults g.R.Rig.syncs g.R.Rig.bytes_written g.R.Rig.bytes_read
    c.args.rig.now c.draft_of.new.rig (λ t. t) (store_at old s) (store_at new s) c.draft_of.ensures.rig (λ t. refl)
    same (tells_kept (store_at old s) (store_at new s) same) (stored s has)

pub returns-clause-idle : goal.returns-clause-idle
returns-clause-idle g c s has =
    let old = c.args.shelf.now in
    let new = c.change_all.new.shelf in
    idle_again g.R.Rig.is_here g.R.Rig.reads g.R.Rig.said g.R.Rig.clock g.R.Rig.images g.R.Rig.faults g.R.Rig.syncs g.R.Rig.bytes_written g.R.Rig.bytes_read
    c.args.rig.now c.draft_of.new.rig s (λ t. t) (store_at old s) (store_at new s) c.draft_of.ensures.rig (λ t none. none)
    (unchanged_then old c.draft_of.new.shelf new c.draft_of.ensures.stores c.in-Err-change_all.ensures.unchanged s) (c.requires.idle s has)

pub returns-clause-stored : goal.returns-clause-stored
returns-clause-stored g c stored s has =
    let old = c.args.shelf.now in
    let new = c.change_all.new.shelf in
    let same = unchanged_then old c.draft_of.new.shelf new c.draft_of.ensures.stores c.in-Err-change_all.ensures.unchanged s in
    steps_again g.R.Rig.is_here g.R.Rig.reads g.R.Rig.said g.R.Rig.clock g.R.Rig.images g.R.Rig.faults g.R.Rig.syncs g.R.Rig.bytes_written g.R.Rig.bytes_read
    c.args.rig.now c.draft_of.new.rig (λ t. t) (store_at old s) (store_at new s) c.draft_of.ensures.rig (λ t. refl)
    same (tells_kept (store_at old s) (store_at new s) same) (stored s has)

pub returns-in-Ok-change_all-clause-idle : goal.returns-in-Ok-change_all-clause-idle
returns-in-Ok-change_all-clause-idle g c s has =
    let code = (goal.Code-dyn g c.args.code.now).meaning c.args.code.now.1 in
    let old = c.args.shelf.now in
    let new = c.change_all.new.shelf in
    let few = below_16 code.n c.args.joined.0 c.shape-shape.ensures.1.few c.requires.below in
    let step = drafted_step code c.args.checked.now.g.unit s c.in-Ok.draft (update_of c.args.update.now) in
    idle_again g.R.Rig.is_here g.R.Rig.reads g.R.Rig.said g.R.Rig.clock g.R.Rig.images g.R.Rig.faults g.R.Rig.syncs g.R.Rig.bytes_written g.R.Rig.bytes_read
    c.args.rig.now c.draft_of.new.rig s (λ t. all_accepted (with_step t step)) (store_at old s) (store_at new s) c.draft_of.ensures.rig (λ t none. refl)
    (subst (λ (o : Option Store). BecomesAt (λ t. all_accepted (with_step t step)) o (store_at new s)) (c.draft_of.ensures.stores s)
    (c.in-Ok-change_all.ensures.ok.inside s (position_below 16 c.args.joined.0 s few has) has))
    (c.requires.idle s has)

pub returns-in-Ok-change_all-clause-stored : goal.returns-in-Ok-change_all-clause-stored
returns-in-Ok-change_all-clause-stored g c stored s has =
    let code = (goal.Code-dyn g c.args.code.now).meaning c.args.code.now.1 in
    let old = c.args.shelf.now in
    let new = c.change_all.new.shelf in
    let few = below_16 code.n c.args.joined.0 c.shape-shape.ensures.1.few c.requires.below in
    let step = drafted_step code c.args.checked.now.g.unit s c.in-Ok.draft (update_of c.args.update.now) in
    steps_again g.R.Rig.is_here g.R.Rig.reads g.R.Rig.said g.R.Rig.clock g.R.Rig.images g.R.Rig.faults g.R.Rig.syncs g.R.Rig.bytes_written g.R.Rig.bytes_read
    c.args.rig.now c.draft_of.new.rig (λ t. all_accepted (with_step t step)) (store_at old s) (store_at new s) c.draft_of.ensures.rig (λ t. refl)
    (subst (λ (o : Option Store). BecomesAt (λ t. all_accepted (with_step t step)) o (store_at new s)) (c.draft_of.ensures.stores s)
    (c.in-Ok-change_all.ensures.ok.inside s (position_below 16 c.args.joined.0 s few has) has))
    (subst (λ (o : Option Store). TellsOn o (store_at new s)) (c.draft_of.ensures.stores s) (c.in-Ok-change_all.ensures.told s))
    (stored s has)
