-- What is told of an area, and what writes make of it.
use Rattle.std.proofs.Common.{◌≡◌, ◌≤◌, ◌+◌, ℕ, List, ◌++◌, length, take, drop, Option, None, Some, refl, sym, ◌∙◌, ap, arith, length-append, append_assoc}
use Rattle.std.proofs.lemmas.List.{take_at, drop_at, drop-drop, length-take-le}
use Rattle.rig_disk.specs.Disk.{on_told, written}

-- two changes of what is told are one
pub on_told_twice : (told : Option (List ℕ)) (f g h : List ℕ → List ℕ) → ((there : List ℕ) → told ≡ Some there → g (f there) ≡ h there) → on_told g (on_told f told) ≡ on_told h told
on_told_twice None f g h same = refl
on_told_twice (Some there) f g h same = ap (λ (l : List ℕ). Some l) (same there refl)

-- what was told before a change
pub record WasTold (old : Option (List ℕ)) (f : List ℕ → List ℕ) (now : List ℕ) : Type 0 where
  pub there : List ℕ
  pub told : old ≡ Some there
  pub changed : now ≡ f there

pub was_told : (old : Option (List ℕ)) (f : List ℕ → List ℕ) (now : List ℕ) → on_told f old ≡ Some now → WasTold old f now
was_told None f now told = cc
was_told (Some there) f now told = record { there = there; told = refl; changed = cc }

pub length-written : (at : ℕ) (bytes there : List ℕ) → at ≤ length there → at + length bytes ≤ length (written at bytes there)
length-written at bytes there le = omega (arith, length-append (take at there ++ bytes) (drop (at + length bytes) there), length-append (take at there) bytes, length-take-le at there le)

-- a write and another right behind it are one
pub written_behind : (at : ℕ) (xs ys there : List ℕ) → at ≤ length there → written (at + length xs) ys (written at xs there) ≡ written at (xs ++ ys) there
written_behind at xs ys there le =
    let head = take at there ++ xs in
    let size : length head ≡ at + length xs = length-append (take at there) xs ∙ ap (λ n. n + length xs) (length-take-le at there le) in
    let first : take (at + length xs) (head ++ drop (at + length xs) there) ≡ head = take_at head (drop (at + length xs) there) (at + length xs) size in
    let back : drop (at + length xs + length ys) (head ++ drop (at + length xs) there) ≡ drop (at + length (xs ++ ys)) there =
    sym (drop-drop (length ys) (at + length xs) (head ++ drop (at + length xs) there)) ∙ ap (λ (l : List ℕ). drop (length ys) l) (drop_at head (drop (at + length xs) there) (at + length xs) size)
    ∙ drop-drop (length ys) (at + length xs) there ∙ ap (λ n. drop n there) (omega (arith, length-append xs ys)) in
    ap (λ (l : List ℕ). l ++ ys ++ drop (at + length xs + length ys) (head ++ drop (at + length xs) there)) first
    ∙ ap (λ (l : List ℕ). head ++ ys ++ l) back
    ∙ ap (λ (l : List ℕ). l ++ drop (at + length (xs ++ ys)) there) (append_assoc (take at there) xs ys)

-- three writes, each right behind the one before, are one
pub written_three : (told : Option (List ℕ)) (at n : ℕ) (a b c : List ℕ) → length a ≡ n → ((there : List ℕ) → told ≡ Some there → at ≤ length there)
    → on_told (written (at + n + length b) c) (on_told (written (at + n) b) (on_told (written at a) told)) ≡ on_told (written at (a ++ b ++ c)) told
written_three None at n a b c size within = refl
written_three (Some there) at n a b c size within =
    let le = within there refl in
    let two : written (at + n) b (written at a there) ≡ written at (a ++ b) there = ap (λ m. written (at + m) b (written at a there)) (sym size) ∙ written_behind at a b there le in
    let place : at + n + length b ≡ at + length (a ++ b) = omega (arith, size, length-append a b) in
    ap (λ (l : List ℕ). Some l) (ap (written (at + n + length b) c) two ∙ ap (λ m. written m c (written at (a ++ b) there)) place ∙ written_behind at (a ++ b) c there le)
