-- The table of inverses.
use Rattle.std.proofs.Common.{◌≡◌, ◌≢◌, ℕ, ◌+◌, ◌%◌, ◌-◌, ◌^◌, ◌<◌, refl, ap, sym, ◌∙◌, arith, true, ◌&&◌, eqb, ltb, subst, slice_index_or}
use Rattle.std.proofs.lemmas.Bool.{eqb-true, and_parts}
use Rattle.std.proofs.Math.Nat.{mod-eq_of_lt}
use borrow.Author.Tests.{ltb-true}
use Rattle.ec_model.specs.Field.{carry_less_product, remainder, field_product, IsInverse}
use Rattle.gf256.specs.declared.inverses.TheConstants.{INVERSES}
use Rattle.gf256.proofs.FieldLemmas.{each_below, each_below_at, field_product_comm, field_product_assoc, one-field_product, field_product-zero}

pub field_product-one : (a : ℕ) → a < 2 ^ 8 → field_product a 1 ≡ a
field_product-one a h = field_product_comm a 1 ∙ one-field_product a ∙ mod-eq_of_lt h

pub inverse_only : (a b c : ℕ) → a < 2 ^ 8 → b < 2 ^ 8 → c < 2 ^ 8 → field_product a b ≡ 1 → field_product a c ≡ 1 → c ≡ b
inverse_only a b c ha hb hc eb ec =
    sym (one-field_product c ∙ mod-eq_of_lt hc) ∙ ap (λ t. field_product t c) (sym eb ∙ field_product_comm a b)
    ∙ field_product_assoc b a c ∙ ap (λ t. field_product b t) ec ∙ field_product-one b hb

table_test : each_below 255 (λ i. eqb (field_product (i + 1) (slice_index_or INVERSES (i + 1) 0)) 1 && ltb (slice_index_or INVERSES (i + 1) 0) 256) ≡ true
unfolding field_product carry_less_product remainder
table_test = refl

pub inverse_in_table : (a : ℕ) → a ≢ 0 → a < 2 ^ 8 → IsInverse a (slice_index_or INVERSES a 0)
inverse_in_table a nz h =
    let t = each_below_at 255 (λ i. eqb (field_product (i + 1) (slice_index_or INVERSES (i + 1) 0)) 1 && ltb (slice_index_or INVERSES (i + 1) 0) 256) table_test (a - 1) (omega arith) in
    let e : a - 1 + 1 ≡ a = omega arith in
    let both = and_parts _ _ t in
    let product : field_product a (slice_index_or INVERSES a 0) ≡ 1 = let P : ℕ → Type 0 = λ n. field_product n (slice_index_or INVERSES n 0) ≡ 1 in subst P e (eqb-true _ _ both.0) in
    let byte : slice_index_or INVERSES a 0 < 2 ^ 8 = let P : ℕ → Type 0 = λ n. slice_index_or INVERSES n 0 < 2 ^ 8 in subst P e (ltb-true _ _ both.1) in
    record { byte = byte; product = product; only = λ c hc ec. inverse_only a (slice_index_or INVERSES a 0) c h byte hc product ec }

-- a product with something that is not 0 is 0 only where the other is
pub no_zero_divisor : (a b : ℕ) → a ≢ 0 → a < 2 ^ 8 → field_product a b ≡ 0 → b % 2 ^ 8 ≡ 0
no_zero_divisor a b nz h e =
    let i = inverse_in_table a nz h in
    let u = slice_index_or INVERSES a 0 in
    sym (one-field_product b) ∙ ap (λ t. field_product t b) (sym i.product ∙ field_product_comm a u)
    ∙ field_product_assoc u a b ∙ ap (λ t. field_product u t) e ∙ field_product-zero u
