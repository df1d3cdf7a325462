-- The refusal of bytes that are put, as one shard tells it.
use Rattle.std.proofs.Common.{◌≡◌, ℕ, ◌+◌, ◌-◌, ◌^◌, ◌<◌, ◌≤◌, min, Bool, true, false, ◌&&◌, nat_lt, nat_le, is_none, List, [], ◌∷◌, length, refl, sym, ap, ◌∙◌, arith, subst, Option, Some, None, ◌⊎◌, inl, inr}
use Rattle.std.specs.FinMap as fin
use Rattle.std.proofs.lemmas.Grind.{common_steps}
use Rattle.ec_model.specs.Codes.{CodeRows}
use Rattle.shard_model.specs.Limits.{max_size}
use Rattle.shard_model.specs.Listings as listings
use Rattle.shard_model.specs.Objects.{ShardObjects}
use Rattle.ec_positions.specs.Objects.{Object, Objects, bytes_in, usage, max_objects, max_usage}
use Rattle.ec_positions.specs.Updates.{Update, name_of, object_after, after}
use Rattle.ec_positions.specs.Refusals.{TooLarge, TooManyObjects, TooFull, first_of}
use Rattle.ec_positions.specs.Positions.{shard_of}
use Rattle.ec_positions.proofs.MapLemmas.{position_if, get-shard_of}
use Rattle.ec_positions.proofs.UsageLemmas.{len-shard_of, usage-shard_of}
use Rattle.ec_positions.proofs.RefusalLemmas.{refusal_is, usage_after}
use Rattle.ec_pipeline.specs.declared.fault.Refusal.TheVariants as plain
use Rattle.ec_pipeline.specs.Refusals.{Puts, IsRefusalOfPut, size_in}

bits : (a b c x y z : Bool) → a ≡ x → b ≡ y → c ≡ z
    → first_of ((a, TooLarge) ∷ (b, TooManyObjects) ∷ (c, TooFull) ∷ []) ≡ first_of ((x, TooLarge) ∷ (y, TooManyObjects) ∷ (z, TooFull) ∷ [])
bits a b c x y z e f g = λ i. first_of ((e i, TooLarge) ∷ (f i, TooManyObjects) ∷ (g i, TooFull) ∷ [])

above : (a b : ℕ) → a < b → nat_lt a b ≡ true
above a b lt = grind (arith, common_steps)

not_above : (a b : ℕ) → b ≤ a → nat_lt a b ≡ false
not_above a b le = grind (arith, common_steps)

-- what the shard has of the object
pub size_there : (code : CodeRows) (unit p : ℕ) (o : Option Object) → size_in (position_if code unit p o) ≡ length (bytes_in o)
size_there code unit p None = refl
size_there code unit p (Some o) = refl

none_there : (code : CodeRows) (unit p : ℕ) (o : Option Object) → is_none (position_if code unit p o) ≡ is_none o
none_there code unit p None = refl
none_there code unit p (Some o) = refl

module _ (shard : ShardObjects) (name : List ℕ) (size : ℕ) where
  pub refused_large : 2 ^ 20 < size → IsRefusalOfPut shard name size (Some plain.TooLarge)
  refused_large large code unit p m c is puts =
      let n = length (bytes_in (object_after c (fin.get m (name_of c)))) in
      let same : min n (2 ^ 64 - 1) ≡ size = ap (λ k. min (length (bytes_in (object_after c (fin.get m k)))) (2 ^ 64 - 1)) puts.name_is ∙ puts.size_is in
      refusal_is m c puts.kind
      ∙ bits _ _ _ true _ _ (above max_size n (omega (arith, same, large))) refl refl

  module _ (small : size ≤ 2 ^ 20) (code : CodeRows) (unit p : ℕ) (m : Objects) (c : Update) (is : shard ≡ shard_of code unit p m) (puts : Puts m c name size) where
    new_size : length (bytes_in (object_after c (fin.get m (name_of c)))) ≡ size
    new_size =
        let same : min (length (bytes_in (object_after c (fin.get m (name_of c))))) (2 ^ 64 - 1) ≡ size = ap (λ k. min (length (bytes_in (object_after c (fin.get m k)))) (2 ^ 64 - 1)) puts.name_is ∙ puts.size_is in
        omega (arith, same, small)

    held : fin.get shard name ≡ position_if code unit p (fin.get m (name_of c))
    held = ap (λ s. fin.get s name) is ∙ get-shard_of code unit p m name ∙ ap (λ k. position_if code unit p (fin.get m k)) (sym puts.name_is)

    none_is : is_none (fin.get m (name_of c)) ≡ is_none (fin.get shard name)
    none_is = sym (ap is_none held ∙ none_there code unit p (fin.get m (name_of c)))

    count_is : fin.len m ≡ fin.len shard
    count_is = sym (ap fin.len is ∙ len-shard_of code unit p m)

    taken_is : usage (after m c) + size_in (fin.get shard name) ≡ listings.usage shard + size
    taken_is =
        ap (λ n. usage (after m c) + n) (ap size_in held ∙ size_there code unit p (fin.get m (name_of c)))
        ∙ usage_after m c puts.kind
        ∙ ap (λ n. usage m + n) new_size
        ∙ ap (λ n. n + size) (sym (ap listings.usage is ∙ usage-shard_of code unit p m))

  pub refused_many : size ≤ 2 ^ 20 → is_none (fin.get shard name) ≡ true → 65536 ≤ fin.len shard → IsRefusalOfPut shard name size (Some plain.Objects)
  refused_many small none many code unit p m c is puts =
      refusal_is m c puts.kind
      ∙ bits _ _ _ false true _ (not_above max_size _ (omega (arith, new_size small code unit p m c is puts, small)))
      (λ i. (none_is small code unit p m c is puts ∙ none) i && (enough (fin.len m) (omega (arith, many, count_is small code unit p m c is puts))) i) refl
    where
      enough : (n : ℕ) → 65536 ≤ n → nat_le max_objects n ≡ true
      enough n le = grind (arith, common_steps)

  few_enough : (b : Bool) (n k : ℕ) → n ≡ k → (b ≡ false) ⊎ (k < 65536) → (b && nat_le max_objects n) ≡ false
  few_enough b n k e (inl old) = ap (λ b. b && nat_le max_objects n) old
  few_enough true n k e (inr lt) = grind (arith, common_steps)
  few_enough false n k e (inr lt) = refl

  pub refused_full : size ≤ 2 ^ 20 → (is_none (fin.get shard name) ≡ false) ⊎ (fin.len shard < 65536)
      → size_in (fin.get shard name) < 2 ^ 32 → 2 ^ 26 + size_in (fin.get shard name) < min (min (listings.usage shard) (2 ^ 64 - 1) + size) (2 ^ 64 - 1) → IsRefusalOfPut shard name size (Some plain.Full)
  refused_full small few old full code unit p m c is puts =
      refusal_is m c puts.kind
      ∙ bits _ _ _ false false true (not_above max_size _ (omega (arith, new_size small code unit p m c is puts, small)))
      (few_enough _ _ _ (count_is small code unit p m c is puts) (subst (λ b. (b ≡ false) ⊎ (fin.len shard < 65536)) (sym (none_is small code unit p m c is puts)) few))
      (above max_usage _ (omega (arith, taken_is small code unit p m c is puts, full)))

  pub not_refused : size ≤ 2 ^ 20 → (is_none (fin.get shard name) ≡ false) ⊎ (fin.len shard < 65536)
      → size_in (fin.get shard name) < 2 ^ 32 → min (min (listings.usage shard) (2 ^ 64 - 1) + size) (2 ^ 64 - 1) ≤ 2 ^ 26 + size_in (fin.get shard name) → IsRefusalOfPut shard name size None
  not_refused small few old room code unit p m c is puts =
      refusal_is m c puts.kind
      ∙ bits _ _ _ false false false (not_above max_size _ (omega (arith, new_size small code unit p m c is puts, small)))
      (few_enough _ _ _ (count_is small code unit p m c is puts) (subst (λ b. (b ≡ false) ⊎ (fin.len shard < 65536)) (sym (none_is small code unit p m c is puts)) few))
      (not_above max_usage _ (omega (arith, taken_is small code unit p m c is puts, room, old)))
