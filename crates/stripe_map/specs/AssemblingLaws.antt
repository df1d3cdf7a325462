-- A law of assembling an object. Source: this project.
use Rattle.std.specs.Prelude.{◌≡◌, ◌<◌, ◌≤◌, ◌*◌, ◌^◌, ℕ, List, Option, length}
use Rattle.std.specs.List.{All}
use Rattle.ec_model.specs.Codes.{CodeRows, IsCode, HasPosition, IsPositionList}
use Rattle.stripe_map.specs.Assembling.{MakeData, IsMade}
use Rattle.stripe_map.specs.Chunks.{chunk_of_position}
use Rattle.stripe_map.specs.Decoding.{bytes_of}

-- if the chunks of a set are those of an object of whole stripes, and rows make the data positions from them, the result is the object
abbrev pub MadeIsTheObject : Type 0
MadeIsTheObject =
    (code : CodeRows) (unit set count : ℕ) (rows : List (List ℕ)) (chunks : List (Option (List ℕ))) (object bytes : List ℕ) → IsCode code → 1 ≤ unit
    → MakeData code set rows → IsMade code.k unit code.n rows chunks count object → length bytes ≡ count * code.k * unit → All (λ b. b < 2 ^ 8) bytes
    → ((q : ℕ) → q < code.n → HasPosition set q → IsPositionList code unit bytes q (bytes_of (chunk_of_position chunks q)))
    → object ≡ bytes
