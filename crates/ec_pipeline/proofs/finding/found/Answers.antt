use Rattle.std.proofs.Math.Nat.{mul-pos}
use Rattle.shard_store.specs.Stored.{told_in}
use Rattle.ec_pipeline.proofs.FindLemmas.{found_told, small_found}
use Rattle.ec_pipeline.proofs.finding.found.Goals as goal

pub returns-clause-value : goal.returns-clause-value
returns-clause-value c =
    let there = c.found_in.result in
    found_told c.args.joined.0 c.args.shelf.now c.args.name.now there.0.k there.0.unit there.1 c.in-Some.lead c.in-Some.ensures.some.1 c.in-Some.ensures.least c.in-Some-get.store.now c.in-Some-get.ensures.value
    c.state.result.now c.state.ensures.value c.found_in.ensures

pub returns-clause-small : goal.returns-clause-small
returns-clause-small c =
    let there = c.found_in.result in
    small_found (told_in c.in-Some-get.store.now) c.args.name.now c.state.result.now there.0.k there.0.unit there.1 c.state.ensures.sound c.state.ensures.value c.found_in.ensures (mul-pos there.0.some_chunks there.0.some_bytes)
