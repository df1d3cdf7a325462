use Rattle.std.proofs.Common.{◌≡◌, ℕ, sym, ◌∙◌, arith}
use Rattle.std.proofs.lemmas.Nat.Bits.{same_from_bits_below, bit_at-lt, bit_at-zero}
use Rattle.std.specs.Int.{bit_at}
use Rattle.ec_pipeline.proofs.checking.lowest.Goals as goal

pub returns-clause-none : goal.returns-clause-none
returns-clause-none c _ =
    same_from_bits_below 16 c.args.set.0 0 c.requires.few (omega arith) (λ i lt.
    none i (c.loop-p.invariant i (omega (arith, lt, c.loop-p-test.false))) ∙ sym (bit_at-zero i))
  where
    none : (i : ℕ) → (bit_at c.args.set.0 i ≡ 1 → ⊥) → bit_at c.args.set.0 i ≡ 0
    none i lacks = let small = bit_at-lt c.args.set.0 i in omega (arith, small, lacks)
