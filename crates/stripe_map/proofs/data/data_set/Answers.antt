use Rattle.std.proofs.Common.{◌≡◌, ◌<◌, slice_index, subst, arith}
use Rattle.ec_words.proofs.SetLemmas.{set_below}
use Rattle.stripe_map.proofs.DataSetLemmas.{one_value_more}
use Rattle.stripe_map.proofs.data.data_set.Goals as goal

pub loop-j-preserved : goal.loop-j-preserved
loop-j-preserved g c =
    let code = (goal.Code-dyn g c.args.code.now).meaning c.args.code.now.1 in
    one_value_more (slice_index code.places) c.loop-j.bits c.loop-j.j c.place.result
    (omega (arith, c.place.ensures.1.0, c.place.ensures.1.1.few)) c.place.ensures.0 c.loop-j.invariant

pub returns-clause-below : goal.returns-clause-below
returns-clause-below g c =
    let code = (goal.Code-dyn g c.args.code.now).meaning c.args.code.now.1 in
    let few : c.loop-j.j ≡ code.k = omega (arith, c.shape-j-end.ensures.0) in
    set_below code.n c.loop-j.bits (λ p has.
    let found = (c.loop-j.invariant p).0 has in
    subst (λ q. q < code.n) found.1.1 (c.shape-j-end.ensures.1.placed found.0 (omega (arith, few, found.1.0))))
