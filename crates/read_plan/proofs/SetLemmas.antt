-- Sets of positions: their sizes, one position more or less, and which of two comes before.
use Rattle.std.proofs.Common.{◌≡◌, ◌<◌, ◌≤◌, ◌+◌, ◌*◌, ◌-◌, ◌%◌, ◌^◌, ◌⊎◌, ℕ, zero, suc, refl, ap, sym, ◌∙◌, arith, inl, inr, bit_and, bit_or, bit_xor, lit<, min, max}
use lib.Count.{ones as count_ones, ones_in}
use Rattle.std.specs.Int.{bit_at, w16}
use Rattle.std.proofs.lemmas.Bool.{cases_eq}
use Rattle.std.proofs.lemmas.Nat.{and_le_r, ones_cat, mod-pow-add, pow_pos}
use Rattle.std.proofs.Math.Nat.{mod-lt, mod-eq_of_lt}
use Rattle.std.proofs.lemmas.Nat.Bits.{bit_at-lt, bit_at_and, bit_at_or, bit_at_xor, bit_at-pow_same, bit_at-pow_other, bit_at_set_same, bit_at_set_other, bit_at_clear_same, bit_at_clear_other, bit_at_above, bit_at-zero, same_from_bits}
use Rattle.ec_model.specs.Codes.{HasPosition, count_below}
use Rattle.read_plan.specs.Plans.{LiesIn, size_of}
use Rattle.read_plan.specs.Settling.{IsWith}

min-zero : (b : ℕ) → min 0 b ≡ 0
min-zero b = grind arith

pub has_or_not : (set p : ℕ) → HasPosition set p ⊎ (HasPosition set p → ⊥)
has_or_not set p = cases_eq (bit_at set p) 1

pub bit-zero : (set p : ℕ) → (HasPosition set p → ⊥) → bit_at set p ≡ 0
bit-zero set p out = let lt = bit_at-lt set p in grind (arith, out)

pub bit-of_zero : (set p : ℕ) → bit_at set p ≡ 0 → HasPosition set p → ⊥
bit-of_zero set p z h = omega arith

-- ---- the size of a set

ones_of_bit : (b : ℕ) → b < 2 → count_ones b ≡ b
unfolding count_ones ones_in
ones_of_bit zero h = refl
ones_of_bit (suc zero) h = refl
ones_of_bit (suc (suc b)) h = absurd (omega arith)

count_is_ones : (set n : ℕ) → count_ones (set % 2 ^ n) ≡ count_below set n
count_is_ones set zero = ap count_ones (no_rest set) ∙ ones_of_bit 0 (lit< tt)
  where
    no_rest : (set : ℕ) → set % 2 ^ 0 ≡ 0
    no_rest set = let lt : set % 2 ^ 0 < 2 ^ 0 = mod-lt set (pow_pos 0) in let one : 2 ^ 0 ≡ 1 = refl in omega arith
count_is_ones set (suc n) =
    ap (λ t. count_ones (set % 2 ^ t)) (one_more n) ∙ ap count_ones (mod-pow-add set 1 n)
    ∙ ones_cat n (bit_at set n) (set % 2 ^ n) (mod-lt set (pow_pos n))
    ∙ ap (λ t. t + count_ones (set % 2 ^ n)) (ones_of_bit (bit_at set n) (bit_at-lt set n))
    ∙ ap (λ t. bit_at set n + t) (count_is_ones set n)
  where
    one_more : (n : ℕ) → suc n ≡ 1 + n
    one_more n = omega arith

pub size_is_ones : (set : ℕ) → set < 2 ^ 16 → count_ones set ≡ size_of set
unfolding size_of
size_is_ones set fits = ap count_ones (sym (mod-eq_of_lt fits)) ∙ count_is_ones set 16

count-same : (one other n : ℕ) → ((p : ℕ) → p < n → bit_at other p ≡ bit_at one p) → count_below other n ≡ count_below one n
count-same one other zero same = refl
count-same one other (suc n) same = let here = same n (omega arith) in let rest = count-same one other n (λ p lt. same p (omega arith)) in omega arith

count-with : (q one other n : ℕ) → q < n → IsWith q one other → count_below other n ≡ count_below one n + 1
count-with q one other zero lt h = absurd (omega arith)
count-with q one other (suc n) lt h =
    elim (cases_eq n q) [
      | inl e ↦
          let rest = count-same one other n (λ p lp. h.others p (λ d. omega arith)) in
          let one_lacks : bit_at one n ≡ 0 = ap (λ t. bit_at one t) e ∙ bit-zero one q h.lacks in
          let other_has : bit_at other n ≡ 1 = ap (λ t. bit_at other t) e ∙ h.has in
          omega arith
      | inr ne ↦ let here = h.others n ne in let rest = count-with q one other n (below n q lt ne) h in omega arith
    ]
  where
    below : (n q : ℕ) → q < suc n → (n ≡ q → ⊥) → q < n
    below n q lt ne = grind arith

pub size-with : (q one other : ℕ) → q < 16 → IsWith q one other → size_of other ≡ size_of one + 1
unfolding size_of
size-with q one other lt h = count-with q one other 16 lt h

count-in : (one other n : ℕ) → LiesIn one other → count_below one n ≤ count_below other n
count-in one other zero h = omega arith
count-in one other (suc n) h =
    let rest = count-in one other n h in
    let le : bit_at one n ≤ bit_at other n = elim (has_or_not one n) [
      | inl has ↦ let there = h n has in omega arith
      | inr out ↦ let none = bit-zero one n out in omega arith
    ] in
    omega arith

pub size-in : (one other : ℕ) → LiesIn one other → size_of one ≤ size_of other
unfolding size_of
size-in one other h = count-in one other 16 h

count-le : (set n : ℕ) → count_below set n ≤ n
count-le set zero = omega arith
count-le set (suc n) = let rest = count-le set n in let lt = bit_at-lt set n in omega arith

pub size-le : (set : ℕ) → size_of set ≤ 16
unfolding size_of
size-le set = count-le set 16

count-zero : (set n : ℕ) → count_below set n ≡ 0 → (p : ℕ) → p < n → HasPosition set p → ⊥
count-zero set zero e p lt has = omega arith
count-zero set (suc n) e p lt has =
    elim (cases_eq p n) [
      | inl d ↦ let here : bit_at set n ≡ 1 = ap (λ t. bit_at set t) (sym d) ∙ has in omega arith
      | inr ne ↦ count-zero set n (omega arith) p (below p n lt ne) has
    ]
  where
    below : (p n : ℕ) → p < suc n → (p ≡ n → ⊥) → p < n
    below p n lt ne = grind arith

pub size-zero : (set : ℕ) → size_of set ≡ 0 → (p : ℕ) → p < 16 → HasPosition set p → ⊥
unfolding size_of
size-zero set e = count-zero set 16 e

pub size-none : size_of 0 ≡ 0
unfolding size_of
size-none = refl

-- a set of 16 bits has no position from 16 on, and neither has a set that lies in it
pub below_16 : (one avail : ℕ) → avail < 2 ^ 16 → LiesIn one avail → (p : ℕ) → 16 ≤ p → bit_at one p ≡ 0
below_16 one avail fits h p le = bit-zero one p (λ has. bit-of_zero avail p (bit_at_above avail 16 p fits le) (h p has))

-- a set of no position is 0
pub empty-zero : (one avail : ℕ) → avail < 2 ^ 16 → LiesIn one avail → size_of one ≡ 0 → one ≡ 0
empty-zero one avail fits h e = same_from_bits one 0 (λ p. elim (low_or_high p) [
  | inl lt ↦ bit-zero one p (size-zero one e p lt) ∙ sym (bit_at-zero p)
  | inr le ↦ below_16 one avail fits h p le ∙ sym (bit_at-zero p)
])
  where
    low_or_high : (p : ℕ) → (p < 16) ⊎ (16 ≤ p)
    low_or_high p = grind arith

-- ---- one position more or less

pub is_with : (set q : ℕ) → q < 16 → (HasPosition set q → ⊥) → IsWith q set (bit_or set (1 * 2 ^ q % 2 ^ 16))
is_with set q lt out = record {
  lacks = out;
  has = bit_at_set_same w16 set q lt;
  others = λ p ne. bit_at_set_other w16 set q lt p ne;
}

pub is_without : (set q : ℕ) → set < 2 ^ 16 → q < 16 → HasPosition set q → IsWith q (bit_and set (2 ^ 16 - 1 - (1 * 2 ^ q % 2 ^ 16))) set
is_without set q fits lt has = record {
  lacks = bit-of_zero (bit_and set (2 ^ 16 - 1 - (1 * 2 ^ q % 2 ^ 16))) q (bit_at_clear_same w16 set q lt);
  has = has;
  others = λ p ne. elim (low_or_high p) [
    | inl low ↦ sym (bit_at_clear_other w16 set q lt p low ne)
    | inr high ↦
        let z = bit_at_above set 16 p fits high in
        z ∙ sym (bit_at_and set (2 ^ 16 - 1 - (1 * 2 ^ q % 2 ^ 16)) p ∙ ap (λ t. min t (bit_at (2 ^ 16 - 1 - (1 * 2 ^ q % 2 ^ 16)) p)) z ∙ min-zero (bit_at (2 ^ 16 - 1 - (1 * 2 ^ q % 2 ^ 16)) p))
  ];
}
  where
    low_or_high : (p : ℕ) → (p < 16) ⊎ (16 ≤ p)
    low_or_high p = grind arith

-- every set that has a position has a set without it
pub less_one : (set q : ℕ) → HasPosition set q → IsWith q (bit_xor set (2 ^ q)) set
less_one set q has = record {
  lacks = bit-of_zero (bit_xor set (2 ^ q)) q (bit_at_xor set (2 ^ q) q ∙ rw (has, bit_at-pow_same q) refl);
  has = has;
  others = λ p ne. sym (bit_at_xor set (2 ^ q) p ∙ rw (bit_at-pow_other q p ne) (plus_none (bit_at set p) (bit_at-lt set p)));
}
  where
    plus_none : (b : ℕ) → b < 2 → (b + 0) % 2 ≡ b
    plus_none zero h = refl
    plus_none (suc zero) h = refl
    plus_none (suc (suc b)) h = absurd (omega arith)

-- ---- one set in another

pub in-or_left : (one other : ℕ) → LiesIn one (bit_or one other)
in-or_left one other p has = bit_at_or one other p ∙ rw has (top (bit_at other p) (bit_at-lt other p))
  where
    top : (b : ℕ) → b < 2 → max 1 b ≡ 1
    top zero h = refl
    top (suc zero) h = refl
    top (suc (suc b)) h = absurd (omega arith)

pub in-or_right : (one other : ℕ) → LiesIn other (bit_or one other)
in-or_right one other p has = bit_at_or one other p ∙ rw has (top (bit_at one p) (bit_at-lt one p))
  where
    top : (b : ℕ) → b < 2 → max b 1 ≡ 1
    top zero h = refl
    top (suc zero) h = refl
    top (suc (suc b)) h = absurd (omega arith)

pub in_by_and : (one other : ℕ) → bit_and one other ≡ one → LiesIn one other
in_by_and one other e p has = both (bit_at one p) (bit_at other p) (bit_at-lt other p) has (sym (bit_at_and one other p) ∙ ap (λ t. bit_at t p) e)
  where
    both : (a b : ℕ) → b < 2 → a ≡ 1 → min a b ≡ a → b ≡ 1
    both a zero h e m = absurd (omega arith)
    both a (suc zero) h e m = refl
    both a (suc (suc b)) h e m = absurd (omega arith)

pub and_by_in : (one other : ℕ) → LiesIn one other → bit_and one other ≡ one
and_by_in one other h = same_from_bits (bit_and one other) one (λ p. bit_at_and one other p ∙ elim (has_or_not one p) [
  | inl has ↦ rw (has, h p has) refl
  | inr out ↦ rw (bit-zero one p out) (min-zero (bit_at other p))
])

pub some_position : (set : ℕ) → 0 < size_of set → 0 < set
some_position zero h = absurd (let z = size-none in omega arith)
some_position (suc set) h = omega arith

-- a set that lies in one below a number is below that number
pub in-lt : (one avail top : ℕ) → avail < top → LiesIn one avail → one < top
in-lt one avail top fits h = let e = and_by_in one avail h in let le = and_le_r one avail in omega arith
