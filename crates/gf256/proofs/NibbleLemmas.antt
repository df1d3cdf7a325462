-- Products by look-ups of the two halves of each byte.
use Rattle.std.proofs.Common.{◌≡◌, ℕ, ◌+◌, ◌-◌, ◌*◌, ◌/◌, ◌%◌, ◌^◌, ◌<◌, ◌≤◌, List, length, get_or, ap, sym, ◌∙◌, arith, bit_and, bit_xor, lit<, refl, true, eqb}
use Rattle.std.specs.Int.{w8}
use Rattle.std.specs.Prelude.{replicate}
use Rattle.std.specs.Simd.Lanes.{zip2, chunk, put_chunk}
use Rattle.std.proofs.Math.Nat.{mod-lt}
use Rattle.std.proofs.lemmas.Nat.{and_le_r, and_mask, xor_comm, shr_split}
use Rattle.std.proofs.lemmas.Simd.{SwzOk, swz_l, SwzOk-from_below, get_or-swz_l_below, get_or-zip2, get_or-replicate, Each1-zip2, Each2-splat, Each1-all, length-zip2, length-replicate, length-chunk, get_or-chunk, get_or-put_chunk_at, get_or-put_chunk_below, get_or-put_chunk_above}
use Rattle.std.proofs.lemmas.Bool.{eqb-true}
use Rattle.ec_model.specs.Field.{field_product, carry_less_product, remainder}
use Rattle.gf256.specs.Kernels.{AddsWithin}
use Rattle.gf256.proofs.FieldLemmas.{field_product-sum, field_product_assoc, each_below, each_below_at}
use Rattle.gf256.proofs.InverseLemmas.{field_product-one}
use Rattle.gf256.proofs.LinearLemmas.{joined}

pub length-nibbles : (n : ℕ) (f : List ℕ) → length f ≡ n → length (zip2 bit_and f (replicate n 15)) ≡ n
length-nibbles n f h = length-zip2 bit_and f (replicate n 15) (omega (arith, length-replicate {A = ℕ} n 15)) ∙ h

pub nibbles_ok : (b n : ℕ) (f : List ℕ) → n ≡ b * 16 → length f ≡ n → SwzOk w8 16 n 0 (zip2 bit_and f (replicate n 15))
nibbles_ok b n f e h =
    SwzOk-from_below w8 16 b n 0 (zip2 bit_and f (replicate n 15)) e (omega (arith, length-nibbles n f h))
    (Each1-zip2 bit_and (λ j. j < 16) f (replicate n 15)
    (Each2-splat (λ x y. bit_and x y < 16) f n 15 (Each1-all (λ x. bit_and x 15 < 16) (λ x. omega (arith, and_le_r x 15)) f)))

get_or-nibbles : (n : ℕ) (f : List ℕ) (k : ℕ) → length f ≡ n → k < n → get_or (zip2 bit_and f (replicate n 15)) k 0 ≡ get_or f k 0 % 16
get_or-nibbles n f k h lt =
    get_or-zip2 bit_and f (replicate n 15) k 0 0 0 (omega arith) (omega (arith, length-replicate {A = ℕ} n 15))
    ∙ ap (λ t. bit_and (get_or f k 0) t) (get_or-replicate n k 15 0 lt)
    ∙ and_mask (get_or f k 0) 4

pub looked_up_at : (table f : List ℕ) (k : ℕ) → length f ≡ 32 → k < 32 →
    get_or (swz_l w8 16 table 0 (zip2 bit_and f (replicate 32 15))) k 0 ≡ get_or table (16 * (k / 16) + get_or f k 0 % 16) 0
looked_up_at table f k h lt =
    let js : List ℕ = zip2 bit_and f (replicate 32 15) in
    let at : get_or js k 0 ≡ get_or f k 0 % 16 = get_or-nibbles 32 f k h lt in
    let small : get_or f k 0 % 16 < 16 = mod-lt (get_or f k 0) (lit< tt) in
    let place : 16 * ((0 + k) / 16) + get_or js k 0 ≡ 16 * (k / 16) + get_or f k 0 % 16 = omega arith in
    get_or-swz_l_below w8 16 table 0 js k (omega (arith, length-nibbles 32 f h)) (omega arith)
    ∙ ap (λ t. get_or table t 0) place

-- the products of the two halves make the product
pub halves : (coef x : ℕ) → x < 2 ^ 8 → bit_xor (field_product coef (x % 16)) (field_product coef (x / 16 % 16 * 16)) ≡ field_product coef x
halves coef x h =
    let e : x / 16 % 16 ≡ x / 16 = omega arith in
    let small : x % 16 < 2 ^ 4 = mod-lt x (lit< tt) in
    let whole : bit_xor (x % 16) (x / 16 * 16) ≡ x = xor_comm (x % 16) (x / 16 * 16) ∙ joined 4 (x / 16) (x % 16) small ∙ shr_split x 4 in
    sym (field_product-sum coef (x % 16) (x / 16 % 16 * 16)) ∙ ap (λ t. field_product coef t) (rw e whole)

pub shifted_at : (bytes : List ℕ) (k : ℕ) → length bytes ≡ 32 → k < 32 → get_or (zip2 (λ a b. a / 2 ^ b) bytes (replicate 32 4)) k 0 ≡ get_or bytes k 0 / 16
shifted_at bytes k h lt =
    get_or-zip2 (λ a b. a / 2 ^ b) bytes (replicate 32 4) k 0 0 0 (omega arith) (omega (arith, length-replicate {A = ℕ} 32 4))
    ∙ ap (λ t. get_or bytes k 0 / 2 ^ t) (get_or-replicate 32 k 4 0 lt)

pub sum_of_halves_at : (coef : ℕ) (bytes r1 r2 : List ℕ) (k : ℕ) → length r1 ≡ 32 → length r2 ≡ 32 → k < 32 → get_or bytes k 0 < 2 ^ 8 →
    get_or r1 k 0 ≡ field_product coef (get_or bytes k 0 % 16) → get_or r2 k 0 ≡ field_product coef (get_or bytes k 0 / 16 % 16 * 16) →
    get_or (zip2 bit_xor r1 r2) k 0 ≡ field_product coef (get_or bytes k 0)
sum_of_halves_at coef bytes r1 r2 k h1 h2 lt byte e1 e2 =
    get_or-zip2 bit_xor r1 r2 k 0 0 0 (omega arith) (omega arith)
    ∙ ap (λ t. bit_xor t (get_or r2 k 0)) e1 ∙ ap (λ t. bit_xor (field_product coef (get_or bytes k 0 % 16)) t) e2
    ∙ halves coef (get_or bytes k 0) byte

-- a block of 32 places is replaced by its sum with ps
pub length-sum_block : (i : ℕ) (to ps : List ℕ) → i + 32 ≤ length to → length ps ≡ 32 → length (zip2 bit_xor (chunk i 32 to) ps) ≡ 32
length-sum_block i to ps room long =
    length-zip2 bit_xor (chunk i 32 to) ps (length-chunk i 32 to room ∙ sym long) ∙ length-chunk i 32 to room

pub sum_block_inside : (i : ℕ) (to ps : List ℕ) (k : ℕ) → i + 32 ≤ length to → length ps ≡ 32 → k < 32 →
    get_or (put_chunk i to (zip2 bit_xor (chunk i 32 to) ps)) (i + k) 0 ≡ bit_xor (get_or to (i + k) 0) (get_or ps k 0)
sum_block_inside i to ps k room long lt =
    get_or-put_chunk_at i to (zip2 bit_xor (chunk i 32 to) ps) k 0 (omega (arith, length-sum_block i to ps room long)) (omega (arith, length-sum_block i to ps room long))
    ∙ get_or-zip2 bit_xor (chunk i 32 to) ps k 0 0 0 (omega (arith, length-chunk i 32 to room)) (omega arith)
    ∙ ap (λ t. bit_xor t (get_or ps k 0)) (get_or-chunk i 32 to k 0 lt)

-- a block of sums, put back at its place
pub block_sums : (f : ℕ → ℕ) (at : ℕ) (to from products : List ℕ) → at + 32 ≤ length to → length products ≡ 32
    → ((k : ℕ) → k < 32 → get_or products k 0 ≡ f (get_or from (at + k) 0))
    → AddsWithin f at (at + 32) to from (put_chunk at to (zip2 bit_xor (chunk at 32 to) products))
block_sums f at to from products room long products_of =
    let sums = zip2 bit_xor (chunk at 32 to) products in
    record {
      inside = λ k low high.
          let place : at + (k - at) ≡ k = omega arith in
          ap (λ n. get_or (put_chunk at to sums) n 0) (sym place)
          ∙ sum_block_inside at to products (k - at) room long (omega arith)
          ∙ ap (λ b. bit_xor (get_or to (at + (k - at)) 0) b) (products_of (k - at) (omega arith))
          ∙ ap (λ n. bit_xor (get_or to n 0) (f (get_or from n 0))) place;
      below = λ k under. get_or-put_chunk_below at to sums k 0 under;
      above = λ k over. get_or-put_chunk_above at to sums k 0 (omega (arith, length-sum_block at to products room long));
    }

twice_test : each_below 8 (λ h. eqb (field_product h 2) (h * 2)) ≡ true
unfolding field_product carry_less_product remainder
twice_test = refl

-- an even entry is the double of that of its half
pub even_product : (factor h : ℕ) → h < 8 → field_product (field_product factor h) 2 ≡ field_product factor (h * 2)
even_product factor h lt = field_product_assoc factor h 2 ∙ ap (λ t. field_product factor t) (eqb-true _ _ (each_below_at 8 (λ h. eqb (field_product h 2) (h * 2)) twice_test h lt))

-- an odd entry is one factor more than the even one before it
pub odd_product : (factor h : ℕ) → factor < 2 ^ 8 → bit_xor (field_product factor (h * 2)) factor ≡ field_product factor (h * 2 + 1)
odd_product factor h byte =
    ap (λ t. bit_xor (field_product factor (h * 2)) t) (sym (field_product-one factor byte))
    ∙ sym (field_product-sum factor (h * 2) 1)
    ∙ ap (λ t. field_product factor t) (joined 1 h 1 (lit< tt))

sixteen_test : each_below 16 (λ x. eqb (field_product 16 x) (x * 16)) ≡ true
unfolding field_product carry_less_product remainder
sixteen_test = refl

-- the products with the multiples of 16
pub high_product : (coef x : ℕ) → x < 16 → field_product (field_product coef 16) x ≡ field_product coef (x * 16)
high_product coef x lt = field_product_assoc coef 16 x ∙ ap (λ t. field_product coef t) (eqb-true _ _ (each_below_at 16 (λ x. eqb (field_product 16 x) (x * 16)) sixteen_test x lt))
