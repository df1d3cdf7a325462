use Rattle.std.proofs.Common.{◌≡◌, ◌≤◌, subst}
use Rattle.ec_model.specs.Codes.{IsPositionList}
use Rattle.shard_model.specs.Changes as changes
use Rattle.shard_model.specs.Steps.{Log}
use Rattle.ec_positions.specs.Positions.{position_list}
use Rattle.ec_positions.proofs.ListLemmas.{lists_are_one}
use Rattle.ec_pipeline.proofs.draft.write_step.Goals as goal

pub returns : goal.returns
returns g c =
    let code = (goal.Code-dyn g c.args.code.now).meaning c.args.code.now.1 in
    let d = c.args.draft.now in
    let some_k = subst (λ k. 1 ≤ k) c.requires.same_k c.args.g.some_chunks in
    let list : c.in_ok-bytes.bytes ≡ position_list code c.args.g.unit d.window.items c.args.p =
    lists_are_one code c.args.g.unit c.args.p d.window.items c.in_ok-bytes.bytes some_k c.args.g.some_bytes
    (subst (λ w. IsPositionList code c.args.g.unit w c.args.p c.in_ok-bytes.bytes) c.as_slice.ensures.value c.in_ok-bytes.ensures) in
    λ i. Log (record { version = d.version; prior = d.prior; name = c.in_ok-name.ensures i; change = changes.Write d.fresh d.size d.at (list i) })
