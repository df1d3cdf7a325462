use Rattle.std.proofs.Common.{◌≡◌, ◌≤◌, ◌*◌, ◌/◌, length, ap, sym, subst, ◌∙◌, arith}
use Rattle.ec_positions.specs.Objects.{bytes_in}
use Rattle.ec_positions.specs.Updates.{overlaid}
use Rattle.ec_positions.specs.Positions.{count_touched}
use Rattle.ec_positions.specs.Windows.{stripes_from}
use Rattle.ec_pipeline.proofs.DraftLemmas.{size_known, fresh_known, write_drafted, place_short}
use Rattle.ec_pipeline.proofs.drafting.write_draft.Goals as goal

pub returns-clause-value : goal.returns-clause-value
returns-clause-value g c o is all stored has p =
    let code = (goal.Code-dyn g c.args.code.now).meaning c.args.code.now.1 in
    let stripes = c.args.checked.now.g in
    let unit = stripes.unit in
    let off = c.args.off in
    let bytes = c.args.bytes.now in
    let some_k : 1 ≤ code.k = subst (λ k. 1 ≤ k) c.requires.same_k stripes.some_chunks in
    let long : c.size_or_none-size.result ≡ length (bytes_in o) = c.size_or_none-size.ensures ∙ size_known o c.args.checked.now.size is in
    let window : c.in-Ok.window.items ≡ stripes_from (code.k * unit) (off / (code.k * unit)) (count_touched (code.k * unit) off (length bytes)) (overlaid off bytes (bytes_in o)) =
    c.in-Ok.ensures.value (bytes_in o) (sym long) all stored has
    ∙ ap (λ k. stripes_from (k * unit) (off / (k * unit)) (count_touched (k * unit) off (length bytes)) (overlaid off bytes (bytes_in o))) c.requires.same_k in
    write_drafted code unit p off o bytes c.in-Ok.window.items c.fresh_number-fresh.result c.max.result (off / (c.from.result * unit) * unit) some_k stripes.some_bytes (omega (arith, c.if-bytes-eq0.false))
    (c.fresh_number-fresh.ensures ∙ fresh_known o c.args.checked.now.size is)
    (omega (arith, c.max.ensures, long))
    (ap (λ k. off / (k * unit) * unit) (c.from.ensures ∙ c.requires.same_k))
    window

pub overflow_mul-result-2 : goal.overflow_mul-result-2
overflow_mul-result-2 g c =
    let stripes = c.args.checked.now.g in
    let some : 1 ≤ c.from.result = subst (λ k. 1 ≤ k) (sym c.from.ensures) stripes.some_chunks in
    omega (arith, place_short c.from.result stripes.unit c.args.off some, c.requires.new_size)
