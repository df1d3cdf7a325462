use Rattle.std.proofs.Common.{◌≡◌, ◌∙◌, ℕ, ap, sym, arith, get_or, ◌+◌, ◌%◌, ◌/◌, ◌*◌, Fits}
use Rattle.std.specs.Int.{w8}
use Rattle.std.proofs.lemmas.Simd.{length-zip2, Each1-get_or}
use Rattle.ec_model.specs.Field.{field_product}
use Rattle.gf256.proofs.NibbleLemmas.{shifted_at, sum_of_halves_at}
use Rattle.gf256.proofs.lanes.Multiples.of.Goals as goal

pub returns-clause-long : goal.returns-clause-long
returns-clause-long c = length-zip2 _ c.looked_up-low.result c.looked_up-high.result (c.looked_up-low.ensures.long ∙ sym c.looked_up-high.ensures.long) ∙ c.looked_up-low.ensures.long

in_its_half : (k x : ℕ) → (16 * (k / 16) + x % 16) % 16 ≡ x % 16
in_its_half k x = omega arith

pub returns-clause-products : goal.returns-clause-products
returns-clause-products c = λ k lt.
    let x = get_or c.args.bytes k 0 in
    let byte = (Each1-get_or (Fits w8) c.args.bytes k 0 (omega arith) c.fits-bytes.1).fits in
    let low : get_or c.looked_up-low.result k 0 ≡ field_product c.args.self.now.coef (x % 16) =
    c.looked_up-low.ensures.found k lt
    ∙ c.args.self.now.low_products (16 * (k / 16) + x % 16) (omega arith)
    ∙ ap (field_product c.args.self.now.coef) (in_its_half k x) in
    let high : get_or c.looked_up-high.result k 0 ≡ field_product c.args.self.now.coef (x / 16 % 16 * 16) =
    c.looked_up-high.ensures.found k lt
    ∙ ap (λ t. get_or c.args.self.now.high (16 * (k / 16) + t % 16) 0) (shifted_at c.args.bytes k c.fits-bytes.0 lt)
    ∙ c.args.self.now.high_products (16 * (k / 16) + x / 16 % 16) (omega arith)
    ∙ ap (λ t. field_product c.args.self.now.coef (t * 16)) (in_its_half k (x / 16)) in
    sum_of_halves_at c.args.self.now.coef c.args.bytes c.looked_up-low.result c.looked_up-high.result k c.looked_up-low.ensures.long c.looked_up-high.ensures.long lt byte low high
