use Rattle.std.proofs.Common.{◌≡◌, ◌<◌, ◌*◌, sym, ap, subst, ◌∙◌, arith, length, take, drop, map}
use Rattle.std.proofs.Math.Nat.{mul-pos}
use Rattle.std.proofs.lemmas.List.{length-map}
use Rattle.shard_model.specs.Fronts.{up_to, after}
use Rattle.shard_model.specs.States.{Running, version_of, undone}
use Rattle.shard_model.specs.Shards.{Shard}
use Rattle.shard_state.specs.Records.{recorded}
use Rattle.shard_state.specs.Sound.{logged_in}
use Rattle.shard_state.proofs.HoldLemmas.{log_is}
use Rattle.shard_model.specs.Steps.{Control, Back}
use Rattle.shard_state.specs.Sound.{IsOrdered}
use Rattle.shard_state.proofs.OrderLemmas.{ordered_after}
use Rattle.shard_state.proofs.WayLemmas.{one_further, at_end, shorter}
use Rattle.shard_state.proofs.state.ShardState.back.Goals as goal

pub loop-self-smaller : goal.loop-self-smaller
loop-self-smaller c =
    let items = c.self-in-loop-self.inside.log.items in
    let long : length c.loop-self.self.state.log ≡ length items = sym (ap (λ s. length s.state.log) c.self-in-loop-self.view_is) ∙ length-map (map recorded items) logged_in ∙ length-map items recorded in
    shorter c.loop-self.self c.undo_newest.new.self (omega (arith, long, c.loop-self-test.true, c.len.ensures)) c.undo_newest.ensures

pub loop-self-preserved : goal.loop-self-preserved
loop-self-preserved c =
    let items = c.self-in-loop-self.inside.log.items in
    let long : length c.loop-self.self.state.log ≡ length items = sym (ap (λ s. length s.state.log) c.self-in-loop-self.view_is) ∙ length-map (map recorded items) logged_in ∙ length-map items recorded in
    one_further c.front_len-cut.result c.args.self.now c.loop-self.self c.undo_newest.new.self c.loop-self.invariant (omega (arith, long, c.loop-self-test.true, c.len.ensures)) c.undo_newest.ensures

pub returns-clause-value : goal.returns-clause-value
returns-clause-value c =
    let v = c.args.version.now in
    let before = c.args.self.now in
    let cut = c.front_len-cut.result in
    let items = c.self-in-loop-self.inside.log.items in
    let long : length c.loop-self.self.state.log ≡ length items = sym (ap (λ s. length s.state.log) c.self-in-loop-self.view_is) ∙ length-map (map recorded items) logged_in ∙ length-map items recorded in
    let end = at_end cut before c.loop-self.self c.loop-self.invariant (omega (arith, long, c.loop-self-test.false, c.len.ensures)) in
    let log = log_is c.self.inside.log.items ∙ ap (λ s. s.state.log) c.self.view_is in
    let front = subst (λ ns. take cut ns ≡ up_to version_of v ns) log c.front_len-cut.ensures.front in
    let rest = subst (λ ns. drop cut ns ≡ after version_of v ns) log c.front_len-cut.ensures.rest in
    ap (λ (t : Shard). record { geometry = t.geometry; state = record t.state { phase = Running; head = v } }) (c.self-2.view_is ∙ end)
    ∙ (λ i. record { geometry = before.geometry; state = record before.state { phase = Running; objects = undone before.geometry before.state.objects (rest i); log = front i; head = v } })

pub returns-clause-stripes : goal.returns-clause-stripes
returns-clause-stripes c =
    subst (λ (s : Shard). 0 < s.geometry.k * s.geometry.unit) c.self.view_is (mul-pos c.self.inside.geometry.some_chunks c.self.inside.geometry.some_bytes)

pub invariant_of-self : goal.invariant_of-self
invariant_of-self c =
    record {
      kept = c.self-2.invariant.kept;
      ordered = subst (λ (t : Shard). IsOrdered t.state) (sym (returns-clause-value c))
          (ordered_after c.args.self.now.geometry c.args.self.now.state (Control (Back c.args.version.now)) (subst (λ (t : Shard). IsOrdered t.state) c.self.view_is c.self.invariant.ordered) c.requires);
    }
