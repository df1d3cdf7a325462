use Rattle.std.proofs.Common.{◌≡◌, ◌≤◌, length, subst}
use Rattle.shard_model.specs.Changes as changes
use Rattle.shard_model.specs.Steps.{Log}
use Rattle.ec_positions.specs.Positions.{position_list}
use Rattle.ec_positions.proofs.ListLemmas.{lists_are_one}
use Rattle.ec_pipeline.proofs.draft.replace_step.Goals as goal

pub returns : goal.returns
returns g c =
    let code = (goal.Code-dyn g c.args.code.now).meaning c.args.code.now.1 in
    let d = c.args.draft.now in
    let some_k = subst (λ k. 1 ≤ k) c.requires.same_k c.args.g.some_chunks in
    let list : c.in_ok-list.list ≡ position_list code c.args.g.unit c.args.bytes.now c.args.p =
    lists_are_one code c.args.g.unit c.args.p c.args.bytes.now c.in_ok-list.list some_k c.args.g.some_bytes c.in_ok-list.ensures in
    λ i. Log (record { version = d.version; prior = d.prior; name = c.in_ok-name.ensures i; change = changes.Replace (length c.args.bytes.now) (list i) })
