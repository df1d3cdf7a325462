use Rattle.std.proofs.Common.{◌≡◌, ◌∷◌, [], subst, OnOk}
use Rattle.std.specs.Int.{bytes_high_first}
use Rattle.shard_model.specs.StepBytes.{counted_bytes}
use Rattle.shard_steps.proofs.EncodingLemmas.{four_parts}
use Rattle.shard_steps.proofs.encoding.put_write.Goals as goal

pub returns : goal.returns
returns c =
    subst (λ t. OnOk c.put_counted.result (c.put_counted.new.out ≡ t))
    (four_parts c.args.out.now (c.args.fresh ∷ []) (bytes_high_first 4 c.args.size) (bytes_high_first 4 c.args.at) (counted_bytes c.args.bytes.now)
    c.put_bytes.new.out c.put_u32.new.out c.put_u32-2.new.out
    c.in_ok-put_bytes.ensures.ok c.in_ok-put_u32.ensures.ok c.in_ok-put_u32-2.ensures.ok)
    c.put_counted.ensures
