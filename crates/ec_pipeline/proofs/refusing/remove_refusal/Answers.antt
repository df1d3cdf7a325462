use Rattle.std.proofs.Common.{ap, ◌∙◌, arith}
use Rattle.std.specs.FinMap as fin
use Rattle.shard_model.specs.Objects.{ShardObject}
use Rattle.ec_pipeline.proofs.ObjectLemmas.{remove_absent, remove_lacks, remove_large, remove_there}
use Rattle.ec_pipeline.proofs.refusing.remove_refusal.Goals as goal

pub returns-in-None : goal.returns-in-None
returns-in-None c = remove_absent c.args.state.now.state.objects c.args.name.now c.args.attr.now c.in-None.ensures

pub returns-in-None-get : goal.returns-in-None-get
returns-in-None-get c = remove_lacks c.args.state.now.state.objects c.args.name.now c.args.attr.now c.in-Some.held.now c.in-Some.ensures (c.in-None-get.ensures ∙ ap (λ (h : ShardObject). fin.get h.attrs c.args.attr.now) c.held.view_is)

pub returns-then-from-gt-MAX_SIZE : goal.returns-then-from-gt-MAX_SIZE
returns-then-from-gt-MAX_SIZE c =
    remove_large c.args.state.now.state.objects c.args.name.now c.args.attr.now c.in-Some.held.now c.in-Some-get.field-0.now c.in-Some.ensures
    (c.in-Some-get.ensures ∙ ap (λ (h : ShardObject). fin.get h.attrs c.args.attr.now) c.held.view_is)
    (omega (arith, c.from.ensures, ap (λ (h : ShardObject). h.size) c.held.view_is, c.if-from-gt-MAX_SIZE.true))

pub returns-else-from-gt-MAX_SIZE : goal.returns-else-from-gt-MAX_SIZE
returns-else-from-gt-MAX_SIZE c =
    remove_there c.args.state.now.state.objects c.args.name.now c.args.attr.now c.in-Some.held.now c.in-Some-get.field-0.now c.in-Some.ensures
    (c.in-Some-get.ensures ∙ ap (λ (h : ShardObject). fin.get h.attrs c.args.attr.now) c.held.view_is)
    (omega (arith, c.from.ensures, ap (λ (h : ShardObject). h.size) c.held.view_is, c.if-from-gt-MAX_SIZE.false))
