use Rattle.std.proofs.Common.{◌-◌, ◌^◌, min, ap, ◌∙◌}
use Rattle.shard_model.specs.Listings as listings
use Rattle.ec_positions.proofs.UsageLemmas.{usage-shard_of}
use Rattle.ec_pipeline.proofs.ObjectLemmas.{set_absent, set_by_value}
use Rattle.ec_pipeline.proofs.refusing.set_refusal.Goals as goal

pub returns-in-None-clause-meant : goal.returns-in-None-clause-meant
returns-in-None-clause-meant c = set_absent c.args.state.now.state.objects c.args.name.now c.args.attr.now c.args.value.now c.in-None.ensures

pub returns-in-Some-clause-meant : goal.returns-in-Some-clause-meant
returns-in-Some-clause-meant c =
    set_by_value c.args.state.now.state.objects c.args.name.now c.args.attr.now c.args.value.now c.usage.result c.in-Some.held.now c.value_refusal.result c.in-Some.ensures
    (λ code unit p m is. c.usage.ensures ∙ ap (λ s. min (listings.usage s) (2 ^ 64 - 1)) is ∙ ap (λ n. min n (2 ^ 64 - 1)) (usage-shard_of code unit p m))
    c.value_refusal.ensures.meant
