-- The first bytes of a text.
use Rattle.std.proofs.Common.{◌≡◌, ◌≤◌, ◌-◌, ◌++◌, min, ℕ, List, [], ◌∷◌, length, take, drop, get_or, refl, ap, ◌∙◌, arith}
use Rattle.std.proofs.lemmas.List.{append-nil, length-drop}
use Rattle.rig_disk.specs.Disk.{read_part}

none_left : {A : Type 0} (xs : List A) → length xs ≡ 0 → xs ≡ []
none_left {A} [] none = refl
none_left {A} (x ∷ xs) none = absurd (omega (arith, none))

pub front_read : (there into new : List ℕ) (n : ℕ) → length into ≡ 24 → 24 ≤ length there → n ≡ min (length into) (length there - 0)
    → new ≡ read_part there 0 n into → new ≡ take 24 there
front_read there into new n long le count is =
    let whole : n ≡ 24 = omega (arith, long, le, count) in
    is ∙ ap (λ m. take m there ++ drop m into) whole
    ∙ ap (λ rest. take 24 there ++ rest) (none_left (drop 24 into) (omega (arith, length-drop 24 into, long)))
    ∙ append-nil (take 24 there)

pub first_byte : (there : List ℕ) → get_or (take 24 there) 0 0 ≡ get_or there 0 0
first_byte [] = refl
first_byte (b ∷ there) = refl
