use Rattle.std.proofs.Common.{◌≡◌, ◌<◌, ℕ, slice_index, subst, refl}
use Rattle.ec_model.specs.Codes.{HasPosition}
use Rattle.ec_model.specs.Rows.{unit_entry}
use Rattle.stripe_map.proofs.MadeLemmas.{own_chunk_combines}
use Rattle.stripe_map.proofs.combining.data_row.Goals as goal

pub returns-then-has : goal.returns-then-has
returns-then-has g c =
    let code = (goal.Code-dyn g c.args.code.now).meaning c.args.code.now.1 in
    let same : c.place-p.result ≡ slice_index code.places c.args.j = c.place-p.ensures.0 in
    own_chunk_combines code c.args.from.0 c.args.j c.unit_row.result c.place-p.ensures.1.1 c.requires.j
    (subst (HasPosition c.args.from.0) same (c.if-has.ensures.0 refl))
    c.unit_row.ensures.long
    (subst (λ p. (q : ℕ) → q < 16 → slice_index c.unit_row.result q ≡ unit_entry p q) same c.unit_row.ensures.entries)
