use Rattle.std.proofs.Common.{rules, ◌∷◌, ◌+◌, drop, ap, sym, ◌∙◌}
use Rattle.std.proofs.lemmas.List.{drop_more}
use Rattle.pool_map.specs.Meanings.{state_of}
use Rattle.pool_map.proofs.StateLemmas.{all_on}
use Rattle.pool_map.proofs.state.State.add_bodies.Goals as goal

pub loop-i-preserved : goal.loop-i-preserved
loop-i-preserved c = (
  c.add_body.ensures.n ∙ c.loop-i.invariant.0,
  all_on c.args.self.now.n (state_of c.args.self.now) c.args.bodies.now (state_of c.loop-i.self) (state_of c.add_body.new.self) c.as_slice.result.now
      (drop c.loop-i.i c.args.bodies.now) (drop (c.loop-i.i + 1) c.args.bodies.now) c.loop-i.invariant.1
      (drop_more c.args.bodies.now c.loop-i.i c.index-bodies-i.result (search rules) ∙ ap (λ b. b ∷ drop (c.loop-i.i + 1) c.args.bodies.now) (sym c.index-bodies-i.is ∙ sym c.as_slice.ensures.value))
      (rw (← c.loop-i.invariant.0) c.in_ok-add_body.ensures.ok) (rw (← c.loop-i.invariant.0) c.in_ok-add_body.ensures.only),
)
