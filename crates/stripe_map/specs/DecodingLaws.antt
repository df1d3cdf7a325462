-- Laws of decoding. Source: this project.
use Rattle.std.specs.Prelude.{◌≡◌, ◌↔◌, ◌<◌, ℕ, List, length, slice_index}
use Rattle.ec_model.specs.Codes.{CodeRows, IsCode, HasPosition, LiesBelow, Decides, Combines, IsPositionList}
use Rattle.ec_model.specs.Field.{field_product}
use Rattle.ec_model.specs.Rows.{sum_below}
use Rattle.ec_model.specs.Stripes.{shard_len}
use Rattle.stripe_map.specs.Decoding.{DecidesData}

-- a mask has exactly the data positions
abbrev pub IsDataMask : CodeRows → ℕ → Type 0
IsDataMask code mask = (p : ℕ) → HasPosition mask p ↔ ((j : ℕ) × ((j < code.k) × (slice_index code.places j ≡ p)))

-- a set decides all data positions exactly if it decides their mask
abbrev pub DataIsItsMask : Type 0
DataIsItsMask = (code : CodeRows) (from mask : ℕ) → IsCode code → IsDataMask code mask → DecidesData code from ↔ Decides code from mask

-- if lists are those of an object at the positions of a set, their sum, each times its coefficient, is the list of the position
-- that the coefficients make; there are such coefficients exactly if the set decides that position
abbrev pub SumIsTheList : Type 0
SumIsTheList =
    (code : CodeRows) (unit set p : ℕ) (bytes coefficients : List ℕ) (lists : ℕ → List ℕ) (list : List ℕ) → IsCode code → Combines code set p coefficients
    → ((q : ℕ) → q < code.n → HasPosition set q → IsPositionList code unit bytes q (lists q))
    → length list ≡ shard_len code.k unit (length bytes)
    → ((i : ℕ) → i < length list → slice_index list i ≡ sum_below code.n (λ q. field_product (slice_index coefficients q) (slice_index (lists q) i)))
    → IsPositionList code unit bytes p list

-- the mask of the data positions lies below n
abbrev pub DataMaskLiesBelow : Type 0
DataMaskLiesBelow = (code : CodeRows) (mask : ℕ) → IsCode code → IsDataMask code mask → LiesBelow code.n mask
