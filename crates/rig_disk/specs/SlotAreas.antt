-- The bytes of areas, kept as two lists. Source: this project.
use Rattle.std.specs.Prelude.{◌==◌, ◌&&◌, ℕ, zero, suc, List, [], get_or, if◌then◌else◌}
use Rattle.rig_disk.specs.Disk.{Image}

-- the first areas of the slots in order, and the second ones
abbrev pub Pair : Type 0
Pair = List (List ℕ) × List (List ℕ)

-- the slots that these lists have; an area that they don't have is empty
abbrev pub image_of : Pair → Image
image_of pair s zero = get_or pair.0 s []
image_of pair s (suc zero) = get_or pair.1 s []
image_of pair s (suc (suc a)) = []

-- other bytes in one area
abbrev pub put : ℕ → ℕ → List ℕ → Image → Image
put slot area bytes image s a = if (s == slot) && (a == area) then bytes else image s a
