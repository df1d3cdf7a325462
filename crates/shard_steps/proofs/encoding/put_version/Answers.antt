use Rattle.std.proofs.Common.{◌≡◌, ◌++◌, ap, subst, ◌∙◌, OnOk}
use Rattle.std.specs.Int.{bytes_high_first}
use Rattle.std.proofs.lemmas.List.{append_assoc}
use Rattle.shard_model.specs.StepBytes.{version_bytes}
use Rattle.shard_steps.proofs.encoding.put_version.Goals as goal

pub returns : goal.returns
unfolding version_bytes
returns c =
    let v = c.version.inside in
    subst (λ t. OnOk c.put_u64.result (c.put_u64.new.out ≡ t))
    (ap (λ o. o ++ bytes_high_first 8 v.seq) c.in_ok-put_u32.ensures.ok
    ∙ append_assoc c.args.out.now (bytes_high_first 4 v.epoch) (bytes_high_first 8 v.seq)
    ∙ ap (λ w. c.args.out.now ++ version_bytes w) c.version.view_is)
    c.put_u64.ensures.ok
