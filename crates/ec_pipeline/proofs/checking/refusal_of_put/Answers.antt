use Rattle.std.proofs.Common.{◌≡◌, ◌-◌, ◌^◌, min, ap, subst, ◌∙◌, arith}
use Rattle.ec_pipeline.specs.Drafts.{size_or_none}
use Rattle.ec_pipeline.specs.Refusals.{IsRefusalOfPut}
use Rattle.ec_pipeline.specs.Sizes.{new_size_of}
use Rattle.ec_pipeline.specs.Updates.{update_of}
use Rattle.ec_pipeline.proofs.CheckLemmas.{refusal_told, put_small}
use Rattle.ec_pipeline.proofs.checking.refusal_of_put.Goals as goal

pub returns-clause-meant : goal.returns-clause-meant
returns-clause-meant c =
    let shard = c.args.state.now.state.objects in
    let update = update_of c.args.update.now in
    refusal_told update shard c.args.size c.new_size-size_then.result c.put_refusal.result c.requires.puts c.requires.size
    (c.new_size-size_then.ensures ∙ ap (λ n. min (new_size_of update n) (2 ^ 64 - 1)) (c.from.ensures ∙ c.size_or_none.ensures))
    (subst (λ n. IsRefusalOfPut shard n c.new_size-size_then.result c.put_refusal.result) c.name.ensures c.put_refusal.ensures.meant)

pub returns-clause-small : goal.returns-clause-small
returns-clause-small c none =
    let update = update_of c.args.update.now in
    let is : c.new_size-size_then.result ≡ min (new_size_of update (size_or_none c.args.size)) (2 ^ 64 - 1) =
    c.new_size-size_then.ensures ∙ ap (λ n. min (new_size_of update n) (2 ^ 64 - 1)) (c.from.ensures ∙ c.size_or_none.ensures) in
    put_small update (size_or_none c.args.size) c.requires.puts (omega (arith, is, c.put_refusal.ensures.small none))
