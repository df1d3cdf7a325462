-- Laws about the definitions of this crate. Source: this project.
use Rattle.std.specs.Prelude.{◌≡◌, ◌↔◌, ◌<◌, ◌^◌, ℕ, List, true}
use Rattle.std.specs.List.{All}
use Rattle.hex.specs.Hex.{encode_lower}
use Rattle.ec_words.specs.Fields.{fields, StandApart}
use Rattle.ec_words.specs.HexText.{is_hex_text, SpellsBytes}

abbrev pub FieldsAreBetweenSpaces : Type 0
FieldsAreBetweenSpaces = (line : List ℕ) (pieces : List (List ℕ)) → StandApart line pieces ↔ (fields line ≡ pieces)

abbrev pub HexTextSpellsSomeBytes : Type 0
HexTextSpellsSomeBytes = (text : List ℕ) → ((bytes : List ℕ) × SpellsBytes text bytes) ↔ (is_hex_text text ≡ true)

abbrev pub HexHasOneReading : Type 0
HexHasOneReading = (text one other : List ℕ) → SpellsBytes text one → SpellsBytes text other → one ≡ other

abbrev pub HexIsReadBack : Type 0
HexIsReadBack = (bytes : List ℕ) → All (λ b. b < 2 ^ 8) bytes → SpellsBytes (encode_lower bytes) bytes
