-- The stripes from the first byte's to the last byte's are those that have a byte of the range.
use Rattle.std.proofs.Common.{◌≡◌, ℕ, zero, suc, ◌+◌, ◌-◌, ◌*◌, ◌/◌, ◌<◌, ◌≤◌, ⊎_elim, arith, subst}
use Rattle.std.proofs.lemmas.Nat.{le-div, mul-le}
use Rattle.std.proofs.Math.Nat.{div-mul-le_self, mul-div_cancel, lt-div-mul-add, suc-mul}
use Rattle.std.proofs.lemmas.Bool.{cases_lt}
use Rattle.stripe_map.specs.Touch.{Holds, IsTouched}

-- a stripe that begins in the range has its own first byte there
begins_inside : (width off len stripe : ℕ) → 0 < width → off ≤ stripe * width → stripe * width < off + len → Holds width off len stripe
begins_inside width off len stripe pos from below = record { at = stripe * width; from = from; below = below; here = mul-div_cancel stripe pos }

-- a stripe that begins before the range, and no earlier than the one of its first byte, has that byte
begins_before : (width off len stripe : ℕ) → 0 < width → 0 < len → stripe * width ≤ off → off / width ≤ stripe → Holds width off len stripe
begins_before width off len stripe pos some before low =
    let high : stripe ≤ off / width = le-div stripe off width pos before in
    record { at = off; from = omega arith; below = omega arith; here = omega arith }

-- both cases together
reaches : (width off len stripe : ℕ) → 0 < width → 0 < len → off / width ≤ stripe → stripe ≤ (off + len - 1) / width → Holds width off len stripe
reaches width off len stripe pos some low high =
    let last : (off + len - 1) / width * width ≤ off + len - 1 = div-mul-le_self (off + len - 1) width in
    let here : stripe * width ≤ (off + len - 1) / width * width = mul-le stripe width ((off + len - 1) / width) width high (omega arith) in
    ⊎_elim (λ before. begins_before width off len stripe pos some (omega arith) low) (λ inside. begins_inside width off len stripe pos inside (omega arith)) (cases_lt (stripe * width) off)

-- a byte of the range lies in none but these
within : (width off len at : ℕ) → 0 < width → off ≤ at → at < off + len → (off / width ≤ at / width) × (at / width ≤ (off + len - 1) / width)
within width off len at pos from below =
    let first : off / width * width ≤ off = div-mul-le_self off width in
    let here : at / width * width ≤ at = div-mul-le_self at width in
    (le-div (off / width) at width pos (omega arith), le-div (at / width) (off + len - 1) width pos (omega arith))

pub first_to_last-IsTouched : (width off len : ℕ) → 0 < width → 0 < len → IsTouched width off len (off / width) ((off + len - 1) / width - off / width + 1)
first_to_last-IsTouched width off len pos some stripe = (
  λ both. reaches width off len stripe pos some both.0 (omega (arith, both.1, within width off len off pos (omega arith) (omega arith))),
  λ holds.
      let both = within width off len holds.at pos holds.from holds.below in
      subst (λ t. (off / width ≤ t) × (t < off / width + ((off + len - 1) / width - off / width + 1))) holds.here (both.0, omega (arith, both.1)),
)

-- a range touches no more stripes than it has bytes
product_above : (a b : ℕ) → 0 < a → 0 < b → a + b ≤ a * b + 1
product_above zero b pos some = absurd (omega arith)
product_above (suc a) b pos some = omega (arith, suc-mul a b, mul-le a 1 a b (omega arith) some)

pub count_below_len : (width off len : ℕ) → 0 < width → 0 < len → (off + len - 1) / width - off / width + 1 ≤ len
count_below_len width off len pos some = ⊎_elim
    (λ few. omega (arith, few))
    (λ many.
    let last : (off + len - 1) / width * width ≤ off + len - 1 = div-mul-le_self (off + len - 1) width in
    let next : off < off / width * width + width = lt-div-mul-add pos in
    let rows : (off / width + len) * width ≤ (off + len - 1) / width * width = mul-le (off / width + len) width ((off + len - 1) / width) width (omega (arith, many)) (omega arith) in
    let parts : (off / width + len) * width ≡ off / width * width + len * width = grind arith in
    absurd (omega (arith, product_above len width some pos)))
    (cases_lt ((off + len - 1) / width) (off / width + len))

-- a range without bytes touches none
pub no_byte-IsTouched : (width off : ℕ) → IsTouched width off 0 0 0
no_byte-IsTouched width off stripe = (λ both. absurd (omega (arith, both.1)), λ holds. absurd (omega (arith, holds.from, holds.below)))
