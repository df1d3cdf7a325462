-- Laws about the definitions of this crate. Source: this project.
use Rattle.std.specs.Prelude.{◌≡◌, ◌↔◌, ◌<◌, ◌≤◌, ℕ, List, [], ◌∷◌, length}
use Rattle.ec_model.specs.Alike.{AreAlike}
use Rattle.ec_model.specs.Codes.{CodeRows, IsPositionList, DecidesOne}
use Rattle.ec_model.specs.Stripes.{data_lists, joined}

-- k data positions give the object back
abbrev pub DataListsJoinBack : Type 0
DataListsJoinBack = (k unit : ℕ) (bytes : List ℕ) → 1 ≤ k → 1 ≤ unit
    → joined unit (data_lists k unit bytes) (length bytes) ≡ bytes

-- the code of two data chunks and their sum
abbrev pub parity_code : CodeRows
parity_code = record { k = 2; n = 3; lead = 2; rows = (1 ∷ 0 ∷ []) ∷ (0 ∷ 1 ∷ []) ∷ (1 ∷ 1 ∷ []) ∷ []; places = 0 ∷ 1 ∷ [] }

-- the bytes 1, 2, 3 in chunks of two bytes: the last is padded with a zero, and 1 xor 3 is 2
pub record ThreeBytesInThreeLists : Type 0 where
  pub first : IsPositionList parity_code 2 (1 ∷ 2 ∷ 3 ∷ []) 0 (1 ∷ 2 ∷ [])
  pub second : IsPositionList parity_code 2 (1 ∷ 2 ∷ 3 ∷ []) 1 (3 ∷ 0 ∷ [])
  pub parity : IsPositionList parity_code 2 (1 ∷ 2 ∷ 3 ∷ []) 2 (2 ∷ 2 ∷ [])

-- codes that are alike have the same list at each position of an object
abbrev pub AlikeCodesHaveTheSameLists : Type 0
AlikeCodesHaveTheSameLists = (one other : CodeRows) (unit : ℕ) (bytes : List ℕ) (p : ℕ) (list : List ℕ) → AreAlike one other → p < one.n
    → IsPositionList one unit bytes p list ↔ IsPositionList other unit bytes p list

-- and each set of positions decides the same in both
abbrev pub AlikeCodesDecideTheSame : Type 0
AlikeCodesDecideTheSame = (one other : CodeRows) (from p : ℕ) → AreAlike one other → p < one.n → DecidesOne one from p ↔ DecidesOne other from p
