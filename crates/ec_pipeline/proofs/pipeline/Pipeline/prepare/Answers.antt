use Rattle.std.proofs.Common.{◌≡◌, ◌≤◌, ◌+◌, ◌∙◌, sym, subst, inl, inr, None}
use Rattle.shard_store.specs.Shelves.{store_at}
use Rattle.ec_pipeline.specs.Checking.{IsWorn}
use Rattle.ec_positions.specs.Refusals.{refusal_of}
use Rattle.ec_pipeline.specs.Updates.{update_of}
use Rattle.ec_pipeline.specs.declared.fault.PrepareFault.TheVariants.{Slot}
use Rattle.ec_pipeline.proofs.HinderLemmas.{never_hinders, below_limit}
use Rattle.ec_pipeline.proofs.ReadLemmas.{same_answer}
use Rattle.ec_pipeline.proofs.PrepareLemmas.{worn_over, plain_refuses_none, ok_not_worn, plain_worn, ok_worn, same_stripes_of}
use Rattle.ec_pipeline.proofs.pipeline.Pipeline.prepare.Goals as goal

pub make-requires-clause-same_k : goal.make-requires-clause-same_k
make-requires-clause-same_k g c =
    let code = (goal.Code-dyn g c.args.code.now).meaning c.args.code.now.1 in
    c.in-Ok.ensures.k code.k (λ s has. same_stripes_of code.k _ (store_at c.args.shelf.now s) (c.requires.ready s has))

pub returns-in-Err-clause-refused : goal.returns-in-Err-clause-refused
returns-in-Err-clause-refused g c unit m head shown =
    let code = (goal.Code-dyn g c.args.code.now).meaning c.args.code.now.1 in
    c.in-Err.ensures.refused code unit m head shown

pub returns-in-Err-clause-worn : goal.returns-in-Err-clause-worn
returns-in-Err-clause-worn g c unit m head shown none =
    let code = (goal.Code-dyn g c.args.code.now).meaning c.args.code.now.1 in
    worn_over _ _ c.in-Err.fault (IsWorn c.args.joined.0 head c.args.shelf.now) (c.in-Err.ensures.worn code unit m head shown none)

pub returns-in-Ok-make-clause-refused : goal.returns-in-Ok-make-clause-refused
returns-in-Ok-make-clause-refused g c unit m head shown =
    let code = (goal.Code-dyn g c.args.code.now).meaning c.args.code.now.1 in
    c.in-Ok.ensures.refused code unit m head shown

pub returns-in-Ok-make-clause-worn : goal.returns-in-Ok-make-clause-worn
returns-in-Ok-make-clause-worn g c unit m head shown none =
    let code = (goal.Code-dyn g c.args.code.now).meaning c.args.code.now.1 in
    ok_worn _ c.in-Ok-make.field-0 (IsWorn c.args.joined.0 head c.args.shelf.now) (ok_not_worn _ c.in-Ok.checked (IsWorn c.args.joined.0 head c.args.shelf.now) (c.in-Ok.ensures.worn code unit m head shown none))

pub returns-in-Ok-make-clause-ok : goal.returns-in-Ok-make-clause-ok
returns-in-Ok-make-clause-ok g c unit m head shown stored =
    let code = (goal.Code-dyn g c.args.code.now).meaning c.args.code.now.1 in
    c.in-Ok-make.ensures.ok unit m head c.args.epoch shown stored (c.in-Ok.ensures.known code unit m head shown) (c.in-Ok.ensures.refused code unit m head shown)

pub returns-in-Err-make-clause-refused : goal.returns-in-Err-make-clause-refused
returns-in-Err-make-clause-refused g c unit m head shown =
    let code = (goal.Code-dyn g c.args.code.now).meaning c.args.code.now.1 in
    c.in-Ok.ensures.refused code unit m head shown ∙ sym (plain_refuses_none c.in-Err-make.fault c.in-Err-make.ensures.faults)

pub returns-in-Err-make-clause-worn : goal.returns-in-Err-make-clause-worn
returns-in-Err-make-clause-worn g c unit m head shown none =
    let code = (goal.Code-dyn g c.args.code.now).meaning c.args.code.now.1 in
    plain_worn _ c.in-Err-make.fault (IsWorn c.args.joined.0 head c.args.shelf.now) c.in-Err-make.ensures.faults (ok_not_worn _ c.in-Ok.checked (IsWorn c.args.joined.0 head c.args.shelf.now) (c.in-Ok.ensures.worn code unit m head shown none))

pub returns-in-Err-make-clause-slot : goal.returns-in-Err-make-clause-slot
returns-in-Err-make-clause-slot g c s is = elim (c.in-Err-make.ensures.slot s (same_answer _ _ c.in-Err-make.fault (Slot s) is)) [
  | inl rose ↦ inl rose
  | inr hinders ↦ inr (record { checked = c.in-Ok.checked; told = c.in-Ok.ensures.lead; hinders = hinders })
]

pub returns-in-Err-make-clause-by_count : goal.returns-in-Err-make-clause-by_count
returns-in-Err-make-clause-by_count g c unit m head s shown follow is =
    let code = (goal.Code-dyn g c.args.code.now).meaning c.args.code.now.1 in
    let set = c.args.joined.0 in
    let shelf = c.args.shelf.now in
    let asked = update_of c.args.update.now in
    let checked = c.in-Ok.checked in
    let allowed : refusal_of m asked ≡ None = c.in-Ok.ensures.refused code unit m head shown in
    let known = c.in-Ok.ensures.known code unit m head shown in
    let some_k : 1 ≤ code.k = subst (λ k. 1 ≤ k) known.k_is checked.g.some_chunks in
    let some : 1 ≤ unit = subst (λ n. 1 ≤ n) known.unit_is checked.g.some_bytes in
    let fresh = ok_not_worn _ checked (IsWorn set head shelf) (c.in-Ok.ensures.worn code unit m head shown allowed) in
    let below = below_limit (head.seq + 1) (λ most. fresh (inl most)) in
    elim (c.in-Err-make.ensures.slot s (same_answer _ _ c.in-Err-make.fault (Slot s) is)) [
      | inl rose ↦ rose
      | inr hinders ↦ absurd (never_hinders code unit set code.k _ m head c.args.epoch asked shelf checked s some_k some allowed c.requires.ready shown follow known below hinders)
    ]
