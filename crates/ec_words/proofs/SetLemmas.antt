-- Sets of positions as masks of 16 bits.
use Rattle.std.proofs.Common.{◌≡◌, ◌<◌, ◌≤◌, ◌+◌, ◌-◌, ◌*◌, ◌%◌, ◌^◌, ◌≢◌, ◌↔◌, ◌⊎◌, inl, inr, ℕ, zero, suc, Bool, true, false, if◌then◌else◌, min, bit_and, bit_or, bit_xor, refl, sym, ap, subst, ◌∙◌, arith}
use Rattle.std.specs.Int.{bit_at, w16}
use Rattle.std.proofs.Math.Pow.{pow-sub-lt}
use Rattle.std.proofs.lemmas.Bool.{cases_eq, false≢true}
use Rattle.std.proofs.lemmas.Nat.{and_le_r}
use Rattle.std.proofs.lemmas.Nat.Bits.{bit_at-zero, bit_at-lt, bit_at_and, bit_at_xor, bit_at-pow_same, bit_at-pow_other, bit_at_above, bit_at_ones, bit_at_set_same, bit_at_set_other, same_from_bits}
use Rattle.ec_model.specs.Codes.{HasPosition, count_below}

-- below n there are at most n positions
pub count-le : (mask n : ℕ) → count_below mask n ≤ n
count-le mask zero = omega arith
count-le mask (suc n) = let rest = count-le mask n in let lt = bit_at-lt mask n in omega arith

min-zero : (b : ℕ) → min 0 b ≡ 0
min-zero b = grind arith

bit-zero : (set p : ℕ) → (HasPosition set p → ⊥) → bit_at set p ≡ 0
bit-zero set p out = let lt = bit_at-lt set p in grind (arith, out)

-- a set that lies in another is what both have
pub inside_by : (one other : ℕ) → ((p : ℕ) → HasPosition one p → HasPosition other p) → bit_and one other ≡ one
inside_by one other h = same_from_bits (bit_and one other) one (λ p. bit_at_and one other p ∙ elim (cases_eq (bit_at one p) 1) [
  | inl has ↦ rw (has, h p has) refl
  | inr out ↦ rw (bit-zero one p out) (min-zero (bit_at other p))
])

-- and it lies below n where the other does
pub below_by : (one other n : ℕ) → ((p : ℕ) → HasPosition one p → HasPosition other p) → other < 2 ^ n → one < 2 ^ n
below_by one other n h lt =
    let is = inside_by one other h in
    let le = and_le_r one other in
    omega (arith, is, le, lt)

-- a set whose positions are below n lies below n
pub set_below : (n set : ℕ) → ((p : ℕ) → HasPosition set p → p < n) → set < 2 ^ n
set_below n set each = below_by set (2 ^ n - 1) n (λ p has. bit_at_ones n p (each p has)) (one_less n) where
  one_less : (k : ℕ) → 2 ^ k - 1 < 2 ^ k
  one_less k = pow-sub-lt k (omega arith)

-- a set below 2 ^ n has positions below n only
pub position_below : (n set p : ℕ) → set < 2 ^ n → HasPosition set p → p < n
position_below n set p fits has = elim (low_or_high p) [
  | inl lt ↦ lt
  | inr high ↦ absurd (omega (arith, has, bit_at_above set n p fits high))
]
  where
    low_or_high : (p : ℕ) → (p < n) ⊎ (n ≤ p)
    low_or_high p = grind arith

-- the set of the positions below p that are among some, with p
pub slot_added : (among : ℕ → Type 0) (mask p : ℕ) → p < 16 → among p → ((q : ℕ) → HasPosition mask q ↔ ((q < p) × among q))
    → (q : ℕ) → HasPosition (bit_or mask (1 * 2 ^ p % 2 ^ 16)) q ↔ ((q < p + 1) × among q)
slot_added among mask p lt here so_far q = elim (cases_eq q p) [
  | inl e ↦
      let has : HasPosition (bit_or mask (1 * 2 ^ p % 2 ^ 16)) q = ap (bit_at (bit_or mask (1 * 2 ^ p % 2 ^ 16))) e ∙ bit_at_set_same w16 mask p lt in
      (λ _. (omega (arith, e), subst among (sym e) here), λ _. has)
  | inr ne ↦
      let same = bit_at_set_other w16 mask p lt q ne in (
        λ has. let old = (so_far q).0 (sym same ∙ has) in (omega (arith, old.0), old.1),
        λ found. same ∙ (so_far q).1 (below q found.0 ne, found.1),
      )
] where
  below : (k : ℕ) → k < p + 1 → (k ≡ p → ⊥) → k < p
  below k lk other = grind arith

-- and without p
pub slot_left : (among : ℕ → Type 0) (mask p : ℕ) → (among p → ⊥) → ((q : ℕ) → HasPosition mask q ↔ ((q < p) × among q))
    → (q : ℕ) → HasPosition mask q ↔ ((q < p + 1) × among q)
slot_left among mask p none so_far q = (
  λ has. let old = (so_far q).0 has in (omega (arith, old.0), old.1),
  λ found. elim (cases_eq q p) [
    | inl e ↦ absurd (none (subst among e found.1))
    | inr ne ↦ (so_far q).1 (below q found.0 ne, found.1)
  ],
) where
  below : (k : ℕ) → k < p + 1 → (k ≡ p → ⊥) → k < p
  below k lk other = grind arith

-- the positions below n that pass a test
unfoldable pub mask_of : (ℕ → Bool) → ℕ → ℕ
mask_of test zero = 0
mask_of test (suc n) = if test n then bit_or (mask_of test n) (1 * 2 ^ n % 2 ^ 16) else mask_of test n

one_more : (n : ℕ) → n + 1 ≡ suc n
one_more n = omega arith

no_bit : (q : ℕ) → bit_at 0 q ≡ 1 → ⊥
no_bit q has = let none = bit_at-zero q in omega (arith, none, has)

pub of_mask : (test : ℕ → Bool) (n : ℕ) → n ≤ 16 → (q : ℕ) → HasPosition (mask_of test n) q ↔ ((q < n) × (test q ≡ true))
unfolding mask_of
of_mask test zero few = λ q. (λ has. absurd (no_bit q has), λ both. absurd (omega (arith, both.0)))
of_mask test (suc n) few = here (of_mask test n (omega (arith, few))) (test n) refl
  where
    among : ℕ → Type 0
    among q = test q ≡ true

    at_next : (mask : ℕ) → ((q : ℕ) → HasPosition mask q ↔ ((q < n + 1) × among q)) → (q : ℕ) → HasPosition mask q ↔ ((q < suc n) × among q)
    at_next mask each = subst (λ m. (q : ℕ) → HasPosition mask q ↔ ((q < m) × among q)) (one_more n) each

    here : ((q : ℕ) → HasPosition (mask_of test n) q ↔ ((q < n) × among q)) → (b : Bool) → test n ≡ b → (q : ℕ) → HasPosition (if b then bit_or (mask_of test n) (1 * 2 ^ n % 2 ^ 16) else mask_of test n) q ↔ ((q < suc n) × among q)
    here before true is = at_next (bit_or (mask_of test n) (1 * 2 ^ n % 2 ^ 16)) (slot_added among (mask_of test n) n (omega (arith, few)) is before)
    here before false is = at_next (mask_of test n) (slot_left among (mask_of test n) n (λ yes. false≢true (sym is ∙ yes)) before)

-- a set without one of its positions: it lacks that position, and the others are as in the set
pub lacks_one : (set p : ℕ) → HasPosition set p → HasPosition (bit_xor set (2 ^ p)) p → ⊥
lacks_one set p has there = absurd (omega (arith, there, none))
  where
    none : bit_at (bit_xor set (2 ^ p)) p ≡ 0
    none = bit_at_xor set (2 ^ p) p ∙ rw (has, bit_at-pow_same p) refl

pub keeps_others : (set p q : ℕ) → q ≢ p → bit_at (bit_xor set (2 ^ p)) q ≡ bit_at set q
keeps_others set p q ne = bit_at_xor set (2 ^ p) q ∙ rw (bit_at-pow_other p q ne) (plus_none (bit_at set q) (bit_at-lt set q))
  where
    plus_none : (b : ℕ) → b < 2 → (b + 0) % 2 ≡ b
    plus_none zero h = refl
    plus_none (suc zero) h = refl
    plus_none (suc (suc b)) h = absurd (omega arith)
