use Rattle.std.proofs.Common.{◌≡◌, ◌<◌, ◌*◌, ◌+◌, ℕ, zero, suc, List, [], ◌∷◌, length, slice_index, refl, arith}
use Rattle.ec_model.specs.Field.{field_product, carry_less_product, remainder}
use Rattle.ec_model.specs.Rows.{sum_below, entry_at}
use Rattle.ec_model.specs.Stripes.{padded}
use Rattle.ec_model.specs.Codes.{IsPositionList}
use Rattle.ec_model.specs.Laws.{parity_code}
use Rattle.ec_model.proofs.laws.three_bytes_in_three_lists.Goals as goal

of_two : (P : ℕ → ℕ → Type 0) → P 0 0 → P 0 1 → (t b : ℕ) → t < 1 → b < 2 → P t b
of_two P one other zero zero lt lb = one
of_two P one other zero (suc zero) lt lb = other
of_two P one other zero (suc (suc b)) lt lb = absurd (omega arith)
of_two P one other (suc t) b lt lb = absurd (omega arith)

abbrev IsSum : ℕ → List ℕ → ℕ → ℕ → Type 0
IsSum p list t b =
    slice_index list (t * 2 + b)
    ≡ sum_below 2 (λ j. field_product (entry_at parity_code.rows p j) (slice_index (padded 2 2 (1 ∷ 2 ∷ 3 ∷ [])) ((t * 2 + j) * 2 + b)))

position : (p : ℕ) (list : List ℕ) → length list ≡ 2 → IsSum p list 0 0 → IsSum p list 0 1 → IsPositionList parity_code 2 (1 ∷ 2 ∷ 3 ∷ []) p list
position p list long one other = record { long = long; sums = of_two (IsSum p list) one other }

pub returns : goal.returns
unfolding sum_below field_product carry_less_product remainder
returns c = record {
  first = position 0 (1 ∷ 2 ∷ []) refl refl refl;
  second = position 1 (3 ∷ 0 ∷ []) refl refl refl;
  parity = position 2 (2 ∷ 2 ∷ []) refl refl refl;
}
