use Rattle.std.proofs.Common.{sym, ap, subst, ◌∙◌, IsSome, Some, arith}
use Rattle.std.proofs.lemmas.Bool.{false≢true}
use Rattle.std.specs.FinMap as map
use Rattle.shard_state.specs.Places.{joined}
use Rattle.shard_state.proofs.MapLemmas.{by_name, get-listed, listed-insert}
use Rattle.std.specs.BTreeMap.{is_at}
use Rattle.std.specs.Map.{set_value}
use Rattle.shard_state.proofs.TotalsLemmas.{few_places, small_total, set_totals}
use Rattle.shard_state.proofs.places.Places.set.Goals as goal

pub unreachable-requires : goal.unreachable-requires
unreachable-requires c =
    false≢true (subst IsSome (sym (c.in-None.ensures.value ∙ sym (get-listed c.args.name.now c.self.inside.slots.entries) ∙ ap (λ m. map.get m c.args.name.now) c.self.view_is)) c.requires)

pub returns-clause-value : goal.returns-clause-value
returns-clause-value c =
    let there = subst IsSome (sym (sym (get-listed c.args.name.now c.self.inside.slots.entries) ∙ ap (λ m. map.get m c.args.name.now) c.self.view_is)) c.requires in
    listed-insert c.self.inside.slots.entries _ c.args.name.now c.replace-before.new.dest ((c.get_mut.follows.holds c.replace-before.new.dest).3 there).0
    ∙ (λ i. map.insert (c.self.view_is i) c.args.name.now (c.replace-before.ensures.after i))

pub returns-clause-before : goal.returns-clause-before
returns-clause-before c =
    ap joined (ap Some c.replace-before.ensures.value ∙ c.in-Some.ensures.value ∙ sym (get-listed c.args.name.now c.self.inside.slots.entries) ∙ ap (λ m. map.get m c.args.name.now) c.self.view_is)

pub add-requires-clause-few : goal.add-requires-clause-few
add-requires-clause-few c = omega (arith, few_places _ _ _ c.self.invariant, c.len-places.ensures.len, c.len-places.ensures.small)

pub add-requires-clause-fits : goal.add-requires-clause-fits
add-requires-clause-fits c = omega (arith, small_total _ _ _ c.self.invariant, c.len-places.ensures.len, c.len-places.ensures.small)

pub invariant_of-self : goal.invariant_of-self
invariant_of-self c =
    let written = c.get_mut.follows.holds c.replace-before.new.dest in
    set_totals c.self.inside.slots.entries _ (is_at (by_name c.args.name.now)) c.replace-before.result c.args.value _ _ _ _ c.self.invariant
    (sym (ap Some c.replace-before.ensures.value ∙ c.in-Some.ensures.value))
    (written.0 ∙ ap (set_value (is_at (by_name c.args.name.now)) c.self.inside.slots.entries) c.replace-before.ensures.after) written.4
    (c.take.ensures.count ∙ c.add.ensures.count) (c.take.ensures.used ∙ c.add.ensures.used)
