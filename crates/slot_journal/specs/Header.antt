-- The header of a journal's text: a gate and a head of 23 bytes. Source: this project.
use Rattle.std.specs.Prelude.{◌≡◌, ◌++◌, ◌∷◌, [], ℕ, List, take, get_or, Contains}
use Rattle.byteorder.specs.Endian.{big_bytes}
use Rattle.slot_journal.specs.declared.header.Header.{Header}
use Rattle.slot_journal.specs.declared.header.Owner.{Owner}
use Rattle.slot_journal.specs.declared.header.Owner.TheVariants.{Shard, Map}

-- the byte of a gate that is open; every other byte is a closed gate
abbrev pub open_gate : ℕ
open_gate = 79

-- the formats of texts that are read
abbrev pub known_formats : List ℕ
known_formats = 1 ∷ []

-- the seven letters that a head begins with: `ECSHARD` or `ECPOOLM`
abbrev pub magic_of : Owner → List ℕ
magic_of Shard = 69 ∷ 67 ∷ 83 ∷ 72 ∷ 65 ∷ 82 ∷ 68 ∷ []
magic_of Map = 69 ∷ 67 ∷ 80 ∷ 79 ∷ 79 ∷ 76 ∷ 77 ∷ []

-- the 23 bytes of a head: the letters, format, slot, k, n, the unit in four bytes and the serial in eight
abbrev pub head_of : Header → List ℕ
head_of header =
    magic_of header.owner ++ header.format ∷ header.slot ∷ header.k ∷ header.n ∷ []
    ++ big_bytes 4 header.unit ++ big_bytes 8 header.serial

-- the list is a head: its letters are known, and its format too
pub record IsHead (head : List ℕ) : Type 0 where
  pub owner : Owner
  pub letters : take 7 head ≡ magic_of owner
  pub format : Contains known_formats (get_or head 7 0)
