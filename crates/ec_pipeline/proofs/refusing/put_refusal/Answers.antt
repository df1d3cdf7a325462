use Rattle.std.proofs.Common.{rules, ◌≡◌, ◌<◌, ◌⊎◌, is_none, true, false, inl, inr, arith, ap, ◌∙◌}
use Rattle.std.specs.FinMap as fin
use Rattle.ec_pipeline.specs.Refusals.{size_in}
use Rattle.ec_pipeline.proofs.RefuseLemmas.{refused_many, refused_full, not_refused}
use Rattle.ec_pipeline.proofs.refusing.put_refusal.Goals.{else-is_absent-via-then-is_absent+else-count-ge-MAX_OBJECTS, else-is_absent-via-else-is_absent}
use Rattle.ec_pipeline.proofs.refusing.put_refusal.Goals as goal

pub returns-then-count-ge-MAX_OBJECTS-clause-meant : goal.returns-then-count-ge-MAX_OBJECTS-clause-meant
returns-then-count-ge-MAX_OBJECTS-clause-meant c =
    let shard = c.args.state.now.state.objects in
    let none : is_none (fin.get shard c.args.name.now) ≡ true = search rules in
    refused_many shard c.args.name.now c.args.size (omega (arith, c.if-size-gt-MAX_SIZE.false)) none (omega (arith, c.count.ensures, c.if-count-ge-MAX_OBJECTS.true))

pub returns-then-saturating_add-from-clause-meant : goal.returns-then-saturating_add-from-clause-meant
returns-then-saturating_add-from-clause-meant c =
    let shard = c.args.state.now.state.objects in
    let old : c.size_of.result ≡ size_in (fin.get shard c.args.name.now) = c.size_of.ensures ∙ ap size_in c.object-held.ensures in
    let few : (is_none (fin.get shard c.args.name.now) ≡ false) ⊎ (fin.len shard < 65536) = elim c.else-is_absent.branch [
      | else-is_absent-via-then-is_absent+else-count-ge-MAX_OBJECTS w ↦ inr (omega (arith, w.count.ensures, w.if-count-ge-MAX_OBJECTS.false))
      | else-is_absent-via-else-is_absent w ↦ inl (search rules)
    ] in
    refused_full shard c.args.name.now c.args.size (omega (arith, c.if-size-gt-MAX_SIZE.false)) few
    (omega (arith, old, c.size_of.type_inv))
    (omega (arith, old, c.usage.ensures, c.saturating_add.ensures, c.from.ensures, c.if-saturating_add-from.true))

pub returns-clause-meant : goal.returns-clause-meant
returns-clause-meant c =
    let shard = c.args.state.now.state.objects in
    let old : c.size_of.result ≡ size_in (fin.get shard c.args.name.now) = c.size_of.ensures ∙ ap size_in c.object-held.ensures in
    let few : (is_none (fin.get shard c.args.name.now) ≡ false) ⊎ (fin.len shard < 65536) = elim c.else-is_absent.branch [
      | else-is_absent-via-then-is_absent+else-count-ge-MAX_OBJECTS w ↦ inr (omega (arith, w.count.ensures, w.if-count-ge-MAX_OBJECTS.false))
      | else-is_absent-via-else-is_absent w ↦ inl (search rules)
    ] in
    not_refused shard c.args.name.now c.args.size (omega (arith, c.if-size-gt-MAX_SIZE.false)) few
    (omega (arith, old, c.size_of.type_inv))
    (omega (arith, old, c.usage.ensures, c.saturating_add.ensures, c.from.ensures, c.if-saturating_add-from.false))
