use Rattle.std.proofs.Common.{inl, ap, sym, ◌∙◌, length, slice_index_or, arith}
use Rattle.ec_tool.proofs.DoneLemmas.{done_as}
use Rattle.ec_tool.proofs.program.tool.Goals as goal

pub serve-requires-clause-boxes : goal.serve-requires-clause-boxes
serve-requires-clause-boxes g c = λ q. rw c.deref_mut.ensures.value (c.requires q)

pub returns-in-Ok-clause-headline : goal.returns-in-Ok-clause-headline
returns-in-Ok-clause-headline g c =
    let long = ap length c.deref_mut.ensures.value in
    inl (
      c.in-Ok.request,
      c.in-Ok.ensures,
      done_as _ _ c.in-Ok.request _
          (λ name box. (box.0, omega (arith, box.1, long), λ d. ap (λ l. (goal.Code-dyn g ((slice_index_or l box.0 d).vtable, (slice_index_or l box.0 d).value)).plugin_name (slice_index_or l box.0 d).value) (sym c.deref_mut.ensures.value) ∙ box.2 d))
          (λ name box. (box.0, omega (arith, box.1, long), λ d. ap (λ l. (goal.Code-dyn g ((slice_index_or l box.0 d).vtable, (slice_index_or l box.0 d).value)).plugin_name (slice_index_or l box.0 d).value) c.deref_mut.ensures.value ∙ box.2 d))
          c.serve.ensures.done,
    )
