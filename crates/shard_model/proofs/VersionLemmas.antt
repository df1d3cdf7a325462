-- Versions are in a total order.
use Rattle.std.proofs.Common.{◌≡◌, true, false, arith}
use Rattle.std.proofs.lemmas.Grind.{common_steps}
use Rattle.ec_model.specs.Versions.{Version, is_up_to, is_same}

pub up_to-trans : (a b c : Version) → is_up_to a b ≡ true → is_up_to b c ≡ true → is_up_to a c ≡ true
up_to-trans a b c p q = grind (arith, common_steps)

pub up_to-refl : (a : Version) → is_up_to a a ≡ true
up_to-refl a = grind (arith, common_steps)

pub above-trans : (a b c : Version) → is_up_to a b ≡ false → is_up_to c b ≡ true → is_up_to a c ≡ false
above-trans a b c p q = grind (arith, common_steps)

pub above-weak : (a b : Version) → is_up_to a b ≡ false → is_up_to b a ≡ true
above-weak a b p = grind (arith, common_steps)

pub same-up_to : (a b : Version) → is_same a b ≡ true → is_up_to a b ≡ true
same-up_to a b p = grind (arith, common_steps)

-- a version between v and v is v
pub same_version : (a b : Version) → is_up_to a b ≡ true → is_up_to b a ≡ true → a ≡ b
same_version a b p q =
    let e : a.epoch ≡ b.epoch = grind (arith, common_steps) in
    let s : a.seq ≡ b.seq = grind (arith, common_steps) in
    λ i. record { epoch = e i; seq = s i }

pub is_same-version : (a b : Version) → is_same a b ≡ true → a ≡ b
is_same-version a b p =
    let e : a.epoch ≡ b.epoch = grind (arith, common_steps) in
    let s : a.seq ≡ b.seq = grind (arith, common_steps) in
    λ i. record { epoch = e i; seq = s i }
