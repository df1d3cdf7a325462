-- Sets of positions. Source: this project. A mask has a position if the bit of that number is set.
use Rattle.std.specs.Prelude.{◌==◌, ℕ, List, [], ◌∷◌, ◌++◌, zero, suc, map, if◌then◌else◌}
use Rattle.std.specs.Int.{bit_at}
use Rattle.std.specs.Fmt.{decimal}
use Rattle.std.specs.List.{join_with_byte}

-- the positions below n that a mask has, ascending
unfoldable pub positions_below : ℕ → ℕ → List ℕ
positions_below zero mask = []
positions_below (suc n) mask = positions_below n mask ++ (if bit_at mask n == 1 then n ∷ [] else [])

-- `-` if there are no positions, else their decimal numbers with a comma between each two
abbrev pub text_of : List ℕ → List ℕ
text_of [] = 45 ∷ []
text_of (p ∷ positions) = join_with_byte 44 (map decimal (p ∷ positions))

-- what is printed of a mask of 16 bits
abbrev pub mask_text : ℕ → List ℕ
mask_text mask = text_of (positions_below 16 mask)
