use Rattle.std.proofs.Common.{◌<◌, ◌≤◌, ◌+◌, ◌*◌, length, ap, sym, subst, ◌∙◌, arith, inl, inr}
use Rattle.ec_model.specs.Stripes.{stripe_count}
use Rattle.ec_positions.specs.Windows.{stripes_from}
use Rattle.ec_positions.proofs.WindowLemmas.{length-stripes_from}
use Rattle.shard_store.specs.Ranges.{LacksRange, object_bytes}
use Rattle.shard_store.specs.Shelves.{store_at}
use Rattle.ec_pipeline.specs.declared.fault.PrepareFault.TheVariants.{Slot}
use Rattle.ec_pipeline.specs.Reading.{GiveRange}
use Rattle.ec_pipeline.proofs.StripeLemmas.{stripes_given, all_stripes, shard_whole}
use Rattle.ec_pipeline.proofs.ReadLemmas.{same_answer}
use Rattle.ec_pipeline.proofs.reading.stripes.Goals as goal

pub returns-in-Ok-clause-value : goal.returns-in-Ok-clause-value
returns-in-Ok-clause-value g c old all inside stored has =
    let code = (goal.Code-dyn g c.args.code.now).meaning c.args.code.now.1 in
    let unit = c.args.g.unit in
    let part = stripes_from (c.args.g.k * unit) c.args.first c.args.count old in
    elim inside [
      | inr none ↦ absurd (c.if-count-eq0.false none)
      | inl within ↦
          let some_k : 1 ≤ code.k = subst (λ k. 1 ≤ k) c.requires.same_k c.args.g.some_chunks in
          let positive : 0 < c.args.count = omega (arith, c.if-count-eq0.false) in
          let given = stripes_given code unit c.args.joined.0 c.args.shelf.now c.args.name.now c.args.first c.args.count old some_k c.args.g.some_bytes positive
          (subst (λ k. c.args.first + c.args.count ≤ stripe_count k unit (length old)) c.requires.same_k within) has in
          c.into_vec.ensures
          ∙ c.in-Ok.ensures.value part
          (length-stripes_from (c.args.g.k * unit) c.args.first c.args.count old ∙ ap (λ k. c.args.count * (k * unit)) (sym c.from.ensures))
          (all_stripes (c.args.g.k * unit) c.args.first c.args.count old all) stored
          (subst (λ k. GiveRange code unit c.args.joined.0 c.args.shelf.now c.args.name.now (c.args.first * unit) (stripes_from (k * unit) c.args.first c.args.count old)) (sym c.requires.same_k) given)
    ]

pub returns-in-Err-clause-slot : goal.returns-in-Err-clause-slot
returns-in-Err-clause-slot g c s is = elim (c.in-Err.ensures.slot s (same_answer _ _ c.in-Err.fault (Slot s) is)) [
  | inl rose ↦ inl rose
  | inr lacks ↦ inr (
    omega (arith, c.if-count-eq0.false),
    subst (LacksRange (object_bytes (store_at c.args.shelf.now s) c.args.name.now) (c.args.first * c.args.g.unit))
        (shard_whole c.args.g.k c.args.g.unit c.from.result c.args.count c.args.g.some_chunks c.args.g.some_bytes c.from.ensures) lacks,
  )
]
