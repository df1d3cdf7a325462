use Rattle.std.proofs.Common.{◌≡◌, ◌<◌, ◌*◌, ◌++◌, ◌∷◌, [], map as each, true, sym, ap, subst, ◌∙◌}
use Rattle.std.proofs.Math.Nat.{mul-pos}
use Rattle.std.proofs.lemmas.List.{map-append}
use Rattle.std.specs.FinMap as map
use Rattle.shard_model.specs.Objects.{Geometry, MayBeHeld}
use Rattle.shard_model.specs.Changes.{fits_change, undo_of as undo_of_change}
use Rattle.shard_model.specs.Steps.{Entry, Log}
use Rattle.std.proofs.lemmas.Bool.{and_parts}
use Rattle.shard_model.specs.States.{Running, logged, follows, fits}
use Rattle.shard_state.proofs.OrderLemmas.{ordered_after, OrderedWith, ordered_with}
use Rattle.shard_state.specs.Sound.{IsOrdered}
use Rattle.shard_model.specs.Shards.{Shard, stepped}
use Rattle.shard_steps.specs.StepMeanings.{change_in, step_of}
use Rattle.shard_state.specs.Inner.{shard_of}
use Rattle.shard_state.specs.Places.{inside}
use Rattle.shard_state.specs.Records.{recorded}
use Rattle.shard_state.specs.Sound.{IsKept, logged_in}
use Rattle.shard_state.specs.declared.record.Record.{Record}
use Rattle.shard_state.proofs.StateLemmas.{here, entered, objects_entered, entered_kept, made_kept}
use Rattle.shard_state.proofs.state.ShardState.enter.Goals as goal

pub change_place-requires-clause-held : goal.change_place-requires-clause-held
change_place-requires-clause-held c =
    let g : Geometry = record { k = c.self.inside.geometry.k; unit = c.self.inside.geometry.unit } in
    let positive : 0 < g.k * g.unit = mul-pos c.self.inside.geometry.some_chunks c.self.inside.geometry.some_bytes in
    let e : Entry = record { version = c.args.version.now; prior = c.args.prior.now; name = c.args.name.now; change = change_in (step_of c.args.step.now) } in
    subst (MayBeHeld g) (sym (here g positive c.self.inside.places c.make_place.new.places e c.in_ok-make_place.ensures.made)) (c.self.invariant.kept.held c.args.name.now)

pub change_place-requires-clause-fits : goal.change_place-requires-clause-fits
change_place-requires-clause-fits c =
    let g : Geometry = record { k = c.self.inside.geometry.k; unit = c.self.inside.geometry.unit } in
    let positive : 0 < g.k * g.unit = mul-pos c.self.inside.geometry.some_chunks c.self.inside.geometry.some_bytes in
    let change = change_in (step_of c.args.step.now) in
    let e : Entry = record { version = c.args.version.now; prior = c.args.prior.now; name = c.args.name.now; change = change } in
    let fit_here = (and_parts (follows c.args.self.now.state e) (fits_change c.args.self.now.geometry change (map.get c.args.self.now.state.objects e.name))
    (ap (fits c.args.self.now.geometry c.args.self.now.state) (sym c.requires.entry) ∙ c.requires.fits)).1 in
    subst (λ o. fits_change g change o ≡ true) (sym (here g positive c.self.inside.places c.make_place.new.places e c.in_ok-make_place.ensures.made))
    (subst (λ (s : Shard). fits_change s.geometry change (map.get s.state.objects c.args.name.now) ≡ true) (sym c.self.view_is) fit_here)

pub invariant_of-self-in_err-undo : goal.invariant_of-self-in_err-undo
invariant_of-self-in_err-undo c =
    let g : Geometry = record { k = c.self.inside.geometry.k; unit = c.self.inside.geometry.unit } in
    let log = each recorded c.self.inside.log.items in
    let order =
    subst (λ (es : _). OrderedWith (shard_of c.self.inside).state (each logged_in (each recorded es))) (sym c.in_ok-reserve.ensures.items)
    (ordered_with (shard_of c.self.inside).state c.self.invariant.ordered) in
    record {
      kept =
          subst (λ (es : _). IsKept g c.change_place.new.places (inside c.change_place.new.places) (each recorded es)) (sym c.in_ok-reserve.ensures.items)
          (subst (λ p. IsKept g p (inside p) log) (sym c.in_err-undo.ensures.unchanged)
          (made_kept g c.self.inside.places c.make_place.new.places c.args.name.now log c.in_ok-make_place.ensures.made c.self.invariant.kept));
      ordered = record { below = order.below; rising = order.rising; alone = order.alone };
    }

pub returns-clause-ok : goal.returns-clause-ok
returns-clause-ok c =
    let g : Geometry = record { k = c.self.inside.geometry.k; unit = c.self.inside.geometry.unit } in
    let positive : 0 < g.k * g.unit = mul-pos c.self.inside.geometry.some_chunks c.self.inside.geometry.some_bytes in
    let change = change_in (step_of c.args.step.now) in
    let e : Entry = record { version = c.args.version.now; prior = c.args.prior.now; name = c.args.name.now; change = change } in
    let old = c.self.inside.places in
    let made = c.make_place.new.places in
    let has = c.in_ok-make_place.ensures.made in
    let x : Record = record {
      entry = record { what = record { version = c.args.version.now; prior = c.args.prior.now; name = c.in_ok-logged_name.logged_name; kind = c.args.kind }; undo = c.in_ok-undo.undo };
      spare = c.in_ok-undo.spare;
    } in
    let undo = c.in_ok-undo.ensures.undo.0 ∙ ap (undo_of_change change) (here g positive old made e has) in
    let is : (recorded x).logged ≡ logged (inside old) e =
    λ i. record { version = e.version; prior = e.prior; name = c.in_ok-logged_name.ensures i; kind = c.requires.kind i; undo = undo i } in
    let items = c.in-Ok.ensures.items ∙ ap (λ es. es ++ x ∷ []) c.in_ok-reserve.ensures.items in
    let olds = each recorded c.self.inside.log.items in
    let logs = ap (λ es. each logged_in (each recorded es)) items ∙ ap (each logged_in) (map-append recorded c.self.inside.log.items (x ∷ []))
    ∙ map-append logged_in olds (recorded x ∷ []) ∙ ap (λ n. each logged_in olds ++ n ∷ []) is in
    let objects = ap inside c.in_ok-undo.ensures.ok ∙ objects_entered g positive old made e has in
    let s = shard_of c.self.inside in
    (λ i. record { geometry = g; state = record { phase = Running; objects = objects i; log = logs i; tail = s.state.tail; firm = s.state.firm; head = e.version; les = s.state.les; partial = s.state.partial } })
    ∙ ap (λ t. stepped t (Log e)) c.self.view_is
    ∙ ap (stepped c.args.self.now) (sym c.requires.entry)

pub invariant_of-self-2 : goal.invariant_of-self-2
invariant_of-self-2 c =
    let g : Geometry = record { k = c.self.inside.geometry.k; unit = c.self.inside.geometry.unit } in
    let positive : 0 < g.k * g.unit = mul-pos c.self.inside.geometry.some_chunks c.self.inside.geometry.some_bytes in
    let change = change_in (step_of c.args.step.now) in
    let e : Entry = record { version = c.args.version.now; prior = c.args.prior.now; name = c.args.name.now; change = change } in
    let fit_here = (and_parts (follows c.args.self.now.state e) (fits_change c.args.self.now.geometry change (map.get c.args.self.now.state.objects e.name))
    (ap (fits c.args.self.now.geometry c.args.self.now.state) (sym c.requires.entry) ∙ c.requires.fits)).1 in
    let old = c.self.inside.places in
    let made = c.make_place.new.places in
    let has = c.in_ok-make_place.ensures.made in
    let x : Record = record {
      entry = record { what = record { version = c.args.version.now; prior = c.args.prior.now; name = c.in_ok-logged_name.logged_name; kind = c.args.kind }; undo = c.in_ok-undo.undo };
      spare = c.in_ok-undo.spare;
    } in
    let fit : fits_change g change (map.get (inside old) e.name) ≡ true =
    subst (λ (s : Shard). fits_change s.geometry change (map.get s.state.objects c.args.name.now) ≡ true) (sym c.self.view_is) fit_here in
    let undo = c.in_ok-undo.ensures.undo.0 ∙ ap (undo_of_change change) (here g positive old made e has) in
    let is : (recorded x).logged ≡ logged (inside old) e =
    λ i. record { version = e.version; prior = e.prior; name = c.in_ok-logged_name.ensures i; kind = c.requires.kind i; undo = undo i } in
    let items = c.in-Ok.ensures.items ∙ ap (λ es. es ++ x ∷ []) c.in_ok-reserve.ensures.items in
    let logs = ap (each recorded) items ∙ map-append recorded c.self.inside.log.items (x ∷ []) in
    let kept = entered_kept g positive old made e has (each recorded c.self.inside.log.items) (recorded x) c.self.invariant.kept fit is c.in_ok-undo.ensures.undo.1 in
    record {
      kept = subst (λ p. IsKept g p (inside p) (each recorded c.push.new.self.items)) (sym c.in_ok-undo.ensures.ok)
          (subst (IsKept g (entered g positive old made e has) (inside (entered g positive old made e has))) (sym logs) kept);
      ordered = subst (λ (t : Shard). IsOrdered t.state) (sym (returns-clause-ok c))
          (ordered_after c.args.self.now.geometry c.args.self.now.state (step_of c.args.step.now) (subst (λ (t : Shard). IsOrdered t.state) c.self.view_is c.self.invariant.ordered) c.requires.fits);
    }
