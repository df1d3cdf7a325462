-- Laws about codes made of layers. Source: this project.
use Rattle.std.specs.Prelude.{◌≡◌, ◌≤◌, ℕ, List, length}
pub use Rattle.ec_model.specs.Alike.{AreAlike}
use Rattle.ec_model.specs.Codes.{CodeRows}
use Rattle.ec_model.specs.Lrc.{IsLrc, data_count}
use Rattle.ec_code.specs.declared.mapping.Mapping.{Mapping}
use Rattle.ec_code.specs.Mappings.{IsFront}
use Rattle.ec_code.specs.LrcFaults.{text_of, data_chunks_of}
use Rattle.lrc_layers.specs.Layouts.{IsSound}

-- a mapping and layers without a fault have one code: the order in which its rows are made does not matter
abbrev pub LayersHaveOneCode : Type 0
LayersHaveOneCode = (mapping : List ℕ) (layers : List (List ℕ)) (one other : CodeRows) → IsSound mapping layers
    → IsLrc mapping layers one → IsLrc mapping layers other → AreAlike one other

-- a text of at most 16 characters is kept whole
abbrev pub ShortTextsAreKept : Type 0
ShortTextsAreKept = (text first : List ℕ) (len : ℕ) → IsFront text first → len ≡ length text → length text ≤ 16 → text_of first len ≡ text

-- the `D` of a mapping are those of its text, however long that is
abbrev pub DataChunksAreCounted : Type 0
DataChunksAreCounted = (text : List ℕ) (m : Mapping) → IsFront text m.first → m.len ≡ length text → m.data_chunks ≡ data_count text
    → data_chunks_of m ≡ data_count text
