use Rattle.std.proofs.Common.{◌≡◌, ◌≤◌, ◌+◌, ◌-◌, ◌*◌, ◌/◌, ◌^◌, length, min, ap, sym, subst, ◌∙◌, arith}
use Rattle.std.specs.Int.{div_ceil}
use Rattle.ec_model.specs.Stripes.{stripe_count, shard_len}
use Rattle.shard_model.specs.Changes.{resized, written}
use Rattle.ec_positions.specs.Windows.{stripes_from}
use Rattle.ec_pipeline.proofs.DraftLemmas.{there_inside, touched_short, touched_room, window_short, window_made, list_short}
use Rattle.ec_pipeline.proofs.reading.window.Goals as goal

pub stripes-requires-clause-limit : goal.stripes-requires-clause-limit
stripes-requires-clause-limit g c =
    let k = c.args.g.k in
    let unit = c.args.g.unit in
    let off = c.args.off in
    let len = length c.args.bytes.now in
    let first : off / (c.from.result * unit) ≡ off / (k * unit) = ap (λ x. off / (x * unit)) c.from.ensures in
    let count : (off + len - 1) / (c.from.result * unit) - off / (c.from.result * unit) + 1 ≡ (off + len - 1) / (k * unit) - off / (k * unit) + 1 =
    ap (λ x. (off + len - 1) / (x * unit) - off / (x * unit) + 1) c.from.ensures in
    touched_short k unit off len c.min-there.result (off / (c.from.result * unit)) c.args.g.some_chunks c.args.g.some_bytes c.requires.few c.args.g.within_limit c.requires.some c.requires.new_size
    first (omega (arith, c.min-there.ensures, count))

pub put_over-requires : goal.put_over-requires
put_over-requires g c =
    let unit = c.args.g.unit in
    let off = c.args.off in
    let len = length c.args.bytes.now in
    record {
      inside = subst (λ x. off - off / (x * unit) * (x * unit) + len ≤ ((off + len - 1) / (x * unit) - off / (x * unit) + 1) * (x * unit)) (sym c.from.ensures)
          (touched_room c.args.g.k unit off len c.args.g.some_chunks c.args.g.some_bytes c.requires.some);
    }

pub returns-clause-value : goal.returns-clause-value
returns-clause-value g c old long all stored has =
    let k = c.args.g.k in
    let unit = c.args.g.unit in
    let off = c.args.off in
    let bytes = c.args.bytes.now in
    let len = length bytes in
    let found = c.in-Ok.found.items in
    let stripes = stripe_count k unit (length old) in
    let first : off / (c.from.result * unit) ≡ off / (k * unit) = ap (λ x. off / (x * unit)) c.from.ensures in
    let count : (off + len - 1) / (c.from.result * unit) - off / (c.from.result * unit) + 1 ≡ (off + len - 1) / (k * unit) - off / (k * unit) + 1 =
    ap (λ x. (off + len - 1) / (x * unit) - off / (x * unit) + 1) c.from.ensures in
    let rows : c.div_ceil.result ≡ stripes = c.div_ceil.ensures ∙ ap (λ x. div_ceil c.args.size (x * unit)) c.from.ensures ∙ ap (λ n. div_ceil n (k * unit)) (sym long) in
    let there : c.min-there.result ≡ min ((off + len - 1) / (k * unit) - off / (k * unit) + 1) (stripes - off / (k * unit)) =
    omega (arith, c.min-there.ensures, c.saturating_sub.ensures, rows, first, count) in
    let there_too : c.min-there.result ≡ min ((off + len - 1) / (k * unit) - off / (k * unit) + 1) (stripes - off / (c.from.result * unit)) =
    omega (arith, there, first) in
    let read : found ≡ stripes_from (k * unit) (off / (k * unit)) c.min-there.result old =
    c.in-Ok.ensures.value old all (there_inside (off / (c.from.result * unit)) ((off + len - 1) / (k * unit) - off / (k * unit) + 1) stripes c.min-there.result there_too) stored has
    ∙ ap (λ f. stripes_from (k * unit) f c.min-there.result old) first in
    let made = c.in_ok-window.ensures.value
    ∙ ap (λ x. written (off - off / (x * unit) * (x * unit)) bytes (resized (((off + len - 1) / (x * unit) - off / (x * unit) + 1) * (x * unit)) found)) c.from.ensures in
    window_made k unit off c.min-there.result bytes old found c.in_ok-window.window.items c.args.g.some_chunks c.args.g.some_bytes c.requires.some there read made

pub returns-clause-long : goal.returns-clause-long
returns-clause-long g c =
    let k = c.args.g.k in
    let unit = c.args.g.unit in
    let off = c.args.off in
    let len = length c.args.bytes.now in
    let count = (off + len - 1) / (k * unit) - off / (k * unit) + 1 in
    let same : ((off + len - 1) / (c.from.result * unit) - off / (c.from.result * unit) + 1) * (c.from.result * unit) ≡ count * (k * unit) =
    ap (λ x. ((off + len - 1) / (x * unit) - off / (x * unit) + 1) * (x * unit)) c.from.ensures in
    omega (arith, c.in_ok-window.ensures.long, same, window_short k unit off len c.args.g.some_chunks c.args.g.some_bytes c.requires.few c.args.g.within_limit c.requires.some c.requires.new_size)

pub returns-clause-list : goal.returns-clause-list
returns-clause-list g c =
    let code = (goal.Code-dyn g c.args.code.now).meaning c.args.code.now.1 in
    let k = c.args.g.k in
    let unit = c.args.g.unit in
    let off = c.args.off in
    let len = length c.args.bytes.now in
    let same : ((off + len - 1) / (c.from.result * unit) - off / (c.from.result * unit) + 1) * (c.from.result * unit) ≡ ((off + len - 1) / (k * unit) - off / (k * unit) + 1) * (k * unit) =
    ap (λ x. ((off + len - 1) / (x * unit) - off / (x * unit) + 1) * (x * unit)) c.from.ensures in
    subst (λ x. shard_len x unit (length c.in_ok-window.window.items) ≤ 2 ^ 20 + 2 ^ 16) c.requires.same_k
    (list_short k unit off len (length c.in_ok-window.window.items) c.args.g.some_chunks c.args.g.some_bytes c.args.g.within_limit c.requires.some c.requires.new_size (c.in_ok-window.ensures.long ∙ same))
