use Rattle.std.proofs.Common.{length, ap, ◌∙◌, arith}
use Rattle.std.specs.FinMap as fin
use Rattle.shard_model.specs.Objects.{ShardObject}
use Rattle.ec_pipeline.proofs.ObjectLemmas.{value_large, replaced_full, replaced, added_full, added_many, added}
use Rattle.ec_pipeline.proofs.refusing.value_refusal.Goals as goal

pub returns-then-value-gt-MAX_VALUE-clause-meant : goal.returns-then-value-gt-MAX_VALUE-clause-meant
returns-then-value-gt-MAX_VALUE-clause-meant c =
    value_large c.args.taken c.args.held.now c.args.attr.now c.args.value.now (omega (arith, c.if-value-gt-MAX_VALUE.true))

pub returns-then-taken-saturating_add-clause-meant : goal.returns-then-taken-saturating_add-clause-meant
returns-then-taken-saturating_add-clause-meant c =
    replaced_full c.args.taken c.args.held.now c.args.attr.now c.args.value.now (omega (arith, c.if-value-gt-MAX_VALUE.false))
    c.saturating_add-taken.result (omega (arith, c.saturating_add-taken.ensures))
    c.in-Some.old.now (c.in-Some.ensures ∙ ap (λ (h : ShardObject). fin.get h.attrs c.args.attr.now) c.held.view_is)
    c.saturating_add.result (omega (arith, c.saturating_add.ensures, ap length c.as_slice.ensures.value))
    (omega (arith, c.if-taken-saturating_add.true))

pub returns-else-taken-saturating_add-clause-meant : goal.returns-else-taken-saturating_add-clause-meant
returns-else-taken-saturating_add-clause-meant c =
    replaced c.args.taken c.args.held.now c.args.attr.now c.args.value.now (omega (arith, c.if-value-gt-MAX_VALUE.false))
    c.saturating_add-taken.result (omega (arith, c.saturating_add-taken.ensures))
    c.in-Some.old.now (c.in-Some.ensures ∙ ap (λ (h : ShardObject). fin.get h.attrs c.args.attr.now) c.held.view_is)
    c.saturating_add.result (omega (arith, c.saturating_add.ensures, ap length c.as_slice.ensures.value))
    (omega (arith, c.if-taken-saturating_add.false))

pub returns-then-saturating_add-gt-MAX_USAGE-clause-meant : goal.returns-then-saturating_add-gt-MAX_USAGE-clause-meant
returns-then-saturating_add-gt-MAX_USAGE-clause-meant c =
    added_full c.args.taken c.args.held.now c.args.attr.now c.args.value.now (omega (arith, c.if-value-gt-MAX_VALUE.false))
    c.saturating_add-taken.result (omega (arith, c.saturating_add-taken.ensures))
    (c.in-None.ensures ∙ ap (λ (h : ShardObject). fin.get h.attrs c.args.attr.now) c.held.view_is)
    c.saturating_add-in-None.result (omega (arith, c.saturating_add-in-None.ensures, ap length c.as_slice-in-None.ensures.value))
    (omega (arith, c.if-saturating_add-gt-MAX_USAGE.true))

pub returns-then-len-ge-MAX_ATTRS-clause-meant : goal.returns-then-len-ge-MAX_ATTRS-clause-meant
returns-then-len-ge-MAX_ATTRS-clause-meant c =
    added_many c.args.taken c.args.held.now c.args.attr.now c.args.value.now (omega (arith, c.if-value-gt-MAX_VALUE.false))
    c.saturating_add-taken.result (omega (arith, c.saturating_add-taken.ensures))
    (c.in-None.ensures ∙ ap (λ (h : ShardObject). fin.get h.attrs c.args.attr.now) c.held.view_is)
    c.saturating_add-in-None.result (omega (arith, c.saturating_add-in-None.ensures, ap length c.as_slice-in-None.ensures.value))
    (omega (arith, c.if-saturating_add-gt-MAX_USAGE.false))
    (omega (arith, c.len.ensures, ap (λ (h : ShardObject). fin.len h.attrs) c.held.view_is, c.if-len-ge-MAX_ATTRS.true))

pub returns-else-len-ge-MAX_ATTRS-clause-meant : goal.returns-else-len-ge-MAX_ATTRS-clause-meant
returns-else-len-ge-MAX_ATTRS-clause-meant c =
    added c.args.taken c.args.held.now c.args.attr.now c.args.value.now (omega (arith, c.if-value-gt-MAX_VALUE.false))
    c.saturating_add-taken.result (omega (arith, c.saturating_add-taken.ensures))
    (c.in-None.ensures ∙ ap (λ (h : ShardObject). fin.get h.attrs c.args.attr.now) c.held.view_is)
    c.saturating_add-in-None.result (omega (arith, c.saturating_add-in-None.ensures, ap length c.as_slice-in-None.ensures.value))
    (omega (arith, c.if-saturating_add-gt-MAX_USAGE.false))
    (omega (arith, c.len.ensures, ap (λ (h : ShardObject). fin.len h.attrs) c.held.view_is, c.if-len-ge-MAX_ATTRS.false))
