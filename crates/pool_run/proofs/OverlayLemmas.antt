-- Bytes that are put into an object, by where they end.
use Rattle.std.proofs.Common.{◌≡◌, ℕ, ◌+◌, ◌-◌, ◌<◌, ◌≤◌, ◌==◌, Bool, true, false, zero, suc, List, ◌++◌, take, drop, replicate, length, length-append, append-nil, sym, ap, ◌∙◌, arith, if◌then◌else◌}
use Rattle.std.proofs.lemmas.Bool.{eqb-true, ne_eqb, true≢false}
use Rattle.std.proofs.lemmas.List.{length-replicate, length-take, drop_all}
use Rattle.shard_model.specs.Changes.{resized}
use Rattle.ec_positions.specs.Updates.{overlaid}

pub no_bytes_written : (off : ℕ) (bytes old : List ℕ) → length bytes ≡ 0 → overlaid off bytes old ≡ old
no_bytes_written off bytes old none = ap (λ n. if n == 0 then old else (resized off old ++ bytes) ++ drop (off + length bytes) old) none

-- a test whether there are none
pub none_if : (empty : Bool) (n m : ℕ) → empty ≡ (n == 0) → empty ≡ true → n ≡ m → m ≡ 0
none_if empty n m is holds same = sym same ∙ eqb-true n 0 (sym is ∙ holds)

pub some_if : (empty : Bool) (n m : ℕ) → empty ≡ (n == 0) → empty ≡ false → n ≡ m → 1 ≤ m
some_if empty zero m is holds same = absurd (true≢false (sym is ∙ holds))
some_if empty (suc n) m is holds same = omega (arith, same)

some_written : (off : ℕ) (bytes old : List ℕ) → 1 ≤ length bytes → overlaid off bytes old ≡ (resized off old ++ bytes) ++ drop (off + length bytes) old
some_written off bytes old some =
    ap (λ (b : Bool). if b then old else (resized off old ++ bytes) ++ drop (off + length bytes) old) (ne_eqb (length bytes) 0 (λ e. omega (arith, some, e)))

-- they end before the old ones do
pub overlaid_inside : (off : ℕ) (bytes old : List ℕ) → 1 ≤ length bytes → off + length bytes < length old
    → (take off old ++ bytes) ++ drop (off + length bytes) old ≡ overlaid off bytes old
overlaid_inside off bytes old some inside =
    let gap : off - length old ≡ 0 = omega (arith, inside) in
    ap (λ (front : List ℕ). (front ++ bytes) ++ drop (off + length bytes) old) (sym (ap (λ n. take off old ++ replicate n 0) gap ∙ append-nil (take off old)))
    ∙ sym (some_written off bytes old some)

-- they end at the end, or behind it
pub overlaid_behind : (off : ℕ) (bytes old : List ℕ) → 1 ≤ length bytes → length old ≤ off + length bytes
    → resized off old ++ bytes ≡ overlaid off bytes old
overlaid_behind off bytes old some behind =
    sym (append-nil (resized off old ++ bytes))
    ∙ ap (λ (tail : List ℕ). (resized off old ++ bytes) ++ tail) (sym (drop_all (off + length bytes) old behind))
    ∙ sym (some_written off bytes old some)

-- with them the object reaches beyond their place
pub reaches : (off : ℕ) (bytes old : List ℕ) → 1 ≤ length bytes → off ≤ length (overlaid off bytes old)
reaches off bytes old some =
    let is : length (overlaid off bytes old) ≡ length (resized off old ++ bytes) + length (drop (off + length bytes) old) =
    ap (λ (l : List ℕ). length l) (some_written off bytes old some) ∙ length-append (resized off old ++ bytes) (drop (off + length bytes) old) in
    let begin : length (resized off old ++ bytes) ≡ length (resized off old) + length bytes = length-append (resized off old) bytes in
    let front : length (resized off old) ≡ length (take off old) + length (replicate (off - length old) 0) = length-append (take off old) (replicate (off - length old) 0) in
    omega (arith, is, begin, front, length-take off old, length-replicate {A = ℕ} (off - length old) 0)
