-- Maps of polynomials that keep sums, and that two of them agree on bytes where they agree on the powers of two.
use Rattle.std.proofs.Common.{◌≡◌, ℕ, ◌+◌, ◌*◌, ◌^◌, ◌<◌, ◌%◌, ◌/◌, zero, suc, bit_xor, refl, ap, sym, ◌∙◌, arith, inl, inr, ◌⊎◌, add-zero, zero-add, zero-mul, one-mul, add_comm}
use Rattle.std.specs.Int.{bit_at}
use Rattle.std.specs.Int.Bits.{xor_assoc, xor_zero_r, xor_self}
use Rattle.std.proofs.lemmas.Nat.{xor_comm, xor_block, pow_pos, shr_split, mod-pow-add}
use Rattle.std.proofs.Math.Nat.{pow-suc, div-lt_iff_lt-mul, mod-eq_of_lt, mod-lt}
use Rattle.std.proofs.lemmas.Nat.Bits.{bit_at_xor, bit_at-lt}

-- a map that keeps sums
pub record KeepsSums (f : ℕ → ℕ) : Type 0 where
  pub sums : (a b : ℕ) → f (bit_xor a b) ≡ bit_xor (f a) (f b)

pub xor_shl : (a b k : ℕ) → bit_xor a b * 2 ^ k ≡ bit_xor (a * 2 ^ k) (b * 2 ^ k)
xor_shl a b k = let e = simp add-zero at (xor_block k a b 0 0 (pow_pos k) (pow_pos k)) in sym e

pub xor_swap : (a b c d : ℕ) → bit_xor (bit_xor a b) (bit_xor c d) ≡ bit_xor (bit_xor a c) (bit_xor b d)
xor_swap a b c d =
    xor_assoc a b (bit_xor c d)
    ∙ ap (λ t. bit_xor a t) (sym (xor_assoc b c d) ∙ ap (λ t. bit_xor t d) (xor_comm b c) ∙ xor_assoc c b d)
    ∙ sym (xor_assoc a c (bit_xor b d))

-- a bit is 0 or 1
pub bit_cases : (p i : ℕ) → (bit_at p i ≡ 0) ⊎ (bit_at p i ≡ 1)
bit_cases p i = let h : bit_at p i < 2 = bit_at-lt p i in two (bit_at p i) h where
  two : (n : ℕ) → n < 2 → (n ≡ 0) ⊎ (n ≡ 1)
  two zero h = inl refl
  two (suc zero) h = inr refl
  two (suc (suc n)) h = absurd (omega arith)

-- a number below 2 ^ (n + 1) is the sum of its top term and the rest
pub top_and_rest : (n x : ℕ) → x < 2 ^ suc n → x ≡ bit_xor (bit_at x n * 2 ^ n) (x % 2 ^ n)
top_and_rest n x h =
    let wide : x < 2 * 2 ^ n = omega (arith, pow-suc 2 n) in
    let small : x / 2 ^ n < 2 = (div-lt_iff_lt-mul (pow_pos n)).1 wide in
    let bit : x / 2 ^ n % 2 ≡ x / 2 ^ n = mod-eq_of_lt small in
    let rest : x % 2 ^ n < 2 ^ n = mod-lt x (pow_pos n) in
    let apart : bit_xor (x / 2 ^ n * 2 ^ n) (x % 2 ^ n) ≡ x / 2 ^ n * 2 ^ n + x % 2 ^ n = joined n (x / 2 ^ n) (x % 2 ^ n) rest in
    rw bit (sym (apart ∙ shr_split x n))
  where
    joined : (n a r : ℕ) → r < 2 ^ n → bit_xor (a * 2 ^ n) r ≡ a * 2 ^ n + r
    joined n a r h = simp (add-zero, xor_zero_r, zero-mul, zero-add) at (xor_block n a 0 0 r (pow_pos n) h)

-- what keeps sums keeps 0
pub keeps_zero : (f : ℕ → ℕ) → KeepsSums f → f 0 ≡ 0
keeps_zero f k = k.sums 0 0 ∙ xor_self (f 0) where
  z : f 0 ≡ bit_xor (f 0) (f 0)
  z = k.sums 0 0

-- two maps that keep sums agree below 2 ^ n where they agree on the powers
pub agree_below : (f g : ℕ → ℕ) → KeepsSums f → KeepsSums g → (n : ℕ) → ((i : ℕ) → i < n → f (2 ^ i) ≡ g (2 ^ i)) → (x : ℕ) → x < 2 ^ n → f x ≡ g x
agree_below f g kf kg zero basis x h =
    let e : x ≡ 0 = omega arith in
    ap f e ∙ keeps_zero f kf ∙ sym (keeps_zero g kg) ∙ ap g (sym e)
agree_below f g kf kg (suc n) basis x h =
    let rest : f (x % 2 ^ n) ≡ g (x % 2 ^ n) = agree_below f g kf kg n (λ i lt. basis i (omega arith)) (x % 2 ^ n) (mod-lt x (pow_pos n)) in
    let top : f (bit_at x n * 2 ^ n) ≡ g (bit_at x n * 2 ^ n) = elim (bit_cases x n) [
      | inl e ↦ rw e (simp zero-mul (keeps_zero f kf ∙ sym (keeps_zero g kg)))
      | inr e ↦ rw e (simp one-mul (basis n (omega arith)))
    ] in
    let both : bit_xor (f (bit_at x n * 2 ^ n)) (f (x % 2 ^ n)) ≡ bit_xor (g (bit_at x n * 2 ^ n)) (g (x % 2 ^ n)) = cc in
    ap f (top_and_rest n x h) ∙ kf.sums (bit_at x n * 2 ^ n) (x % 2 ^ n) ∙ both ∙ sym (kg.sums (bit_at x n * 2 ^ n) (x % 2 ^ n)) ∙ ap g (sym (top_and_rest n x h))

-- a scaled sum
pub KeepsSums-then : (f g : ℕ → ℕ) → KeepsSums f → KeepsSums g → KeepsSums (λ x. g (f x))
KeepsSums-then f g kf kg = record { sums = λ a b. ap g (kf.sums a b) ∙ kg.sums (f a) (f b) }

pub KeepsSums-sum : (f g : ℕ → ℕ) → KeepsSums f → KeepsSums g → KeepsSums (λ x. bit_xor (f x) (g x))
KeepsSums-sum f g kf kg = record {
  sums = λ a b.
      ap (λ t. bit_xor t (g (bit_xor a b))) (kf.sums a b) ∙ ap (λ t. bit_xor (bit_xor (f a) (f b)) t) (kg.sums a b)
      ∙ xor_swap (f a) (f b) (g a) (g b);
}

pub KeepsSums-constant : KeepsSums (λ _. 0)
KeepsSums-constant = record { sums = λ a b. refl }

pub KeepsSums-self : KeepsSums (λ x. x)
KeepsSums-self = record { sums = λ a b. refl }

pub KeepsSums-shl : (k : ℕ) → KeepsSums (λ x. x * 2 ^ k)
KeepsSums-shl k = record { sums = λ a b. xor_shl a b k }

-- a multiple of 0 or 1
pub KeepsSums-bit_times : (c : ℕ) → (c ≡ 0) ⊎ (c ≡ 1) → KeepsSums (λ x. c * x)
KeepsSums-bit_times c (inl e) = record { sums = λ a b. rw e (simp zero-mul) }
KeepsSums-bit_times c (inr e) = record { sums = λ a b. rw e (simp one-mul) }

-- a bit of the argument times a constant
pub KeepsSums-bit_of : (i m : ℕ) → KeepsSums (λ x. bit_at x i * m)
KeepsSums-bit_of i m = record { sums = λ a b. ap (λ t. t * m) (bit_at_xor a b i) ∙ four (bit_at a i) (bit_at b i) m (bit_cases a i) (bit_cases b i) } where
  four : (u v m : ℕ) → (u ≡ 0) ⊎ (u ≡ 1) → (v ≡ 0) ⊎ (v ≡ 1) → (u + v) % 2 * m ≡ bit_xor (u * m) (v * m)
  four u v m (inl e) (inl d) = rw (e, d) (simp zero-mul)
  four u v m (inl e) (inr d) = rw (e, d) (simp (zero-mul, one-mul))
  four u v m (inr e) (inl d) = rw (e, d) (simp (zero-mul, one-mul, xor_zero_r))
  four u v m (inr e) (inr d) = rw (e, d) (simp (zero-mul, one-mul, xor_self))

-- a number above k bits, and k bits
pub joined : (k a r : ℕ) → r < 2 ^ k → bit_xor (a * 2 ^ k) r ≡ a * 2 ^ k + r
joined k a r h = simp (add-zero, xor_zero_r, zero-mul, zero-add) at (xor_block k a 0 0 r (pow_pos k) h)

-- one bit more of a number
pub bits_below-next : (n i : ℕ) → n % 2 ^ (i + 1) ≡ bit_xor (bit_at n i * 2 ^ i) (n % 2 ^ i)
bits_below-next n i =
    let e : n % 2 ^ (1 + i) ≡ (n / 2 ^ i % 2 ^ 1) * 2 ^ i + n % 2 ^ i = mod-pow-add n 1 i in
    rw (add_comm i 1) (e ∙ sym (joined i (bit_at n i) (n % 2 ^ i) (mod-lt n (pow_pos i))))
