use Rattle.std.proofs.Common.{◌≡◌, ◌-◌, ◌+◌, ◌∙◌, sym, ap, true, drop, arith}
use Rattle.std.specs.FinMap as map
use Rattle.shard_state.proofs.SpotLemmas.{by_name}
use Rattle.shard_state.proofs.AscendLemmas.{two_at, last_sorted}
use Rattle.shard_state.proofs.fit.ascend.Goals as goal

pub loop-i-preserved : goal.loop-i-preserved
loop-i-preserved c =
    let list = c.args.attrs.now in
    let i = c.loop-i.i in
    let back : i ≡ i + 1 - 1 = omega arith in (
      omega arith,
      c.loop-i.invariant.1
          ∙ two_at list i c.index-attrs-i.result c.index-attrs-i-in-loop-i.result c.loop-i.invariant.0 c.loop-i-test.true c.index-attrs-i.is c.index-attrs-i-in-loop-i.is true (sym c.if-not-is_below.ensures)
          ∙ ap (λ n. map.is_sorted by_name (drop n list)) back,
    )

pub returns : goal.returns
returns c = sym (c.loop-i.invariant.1 ∙ last_sorted c.args.attrs.now c.loop-i.i c.loop-i-test.false)
