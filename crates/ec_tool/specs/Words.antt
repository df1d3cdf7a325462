-- The words of the command line. Source: this project, after ceph-erasure-code-tool.
use Rattle.std.specs.Prelude.{◌≡◌, ◌≢◌, ◌==◌, ◌<◌, ◌≤◌, ◌^◌, ◌⊎◌, List, [], ◌∷◌, ℕ, map, codes, string_bytes, String, length, slice_index}
use Rattle.std.specs.List.{slice_split, All}
use Rattle.std.specs.Fmt.{decimal}
use Rattle.std.specs.declared.alloc.Global.{Global}
use Rattle.ec_words.specs.Numbers.{IsNumberText}
use Rattle.ec_files.specs.Jobs.{Job}

-- the words as the program gets them
abbrev pub Words : Type 0
Words = List (String Global)

-- the bytes of the words
abbrev pub texts_of : Words → List (List ℕ)
texts_of words = map string_bytes words

-- the pieces of a text between its commas
abbrev pub comma_pieces : List ℕ → List (List ℕ)
comma_pieces text = slice_split (λ b. b == 44) text

-- no number stands twice in a list
abbrev pub AreDistinct : List ℕ → Type 0
AreDistinct list = (i j : ℕ) → i < j → j < length list → slice_index list i ≢ slice_index list j

-- a text has these numbers below 2 ^ 64, joined by commas, none of them twice
pub record IsList (text : List ℕ) (numbers : List ℕ) : Type 0 where
  pub spelled : comma_pieces text ≡ map decimal numbers
  pub small : All (λ n. n < 2 ^ 64) numbers
  pub distinct : AreDistinct numbers

-- the parameters of a profile that can be asked for
abbrev pub IsParameter : List ℕ → Type 0
IsParameter text = (text ≡ codes "chunk_count") ⊎ (text ≡ codes "data_chunk_count") ⊎ (text ≡ codes "coding_chunk_count")

-- `test-plugin-exists PLUGIN`
abbrev pub AskExists : Words → List ℕ → Type 0
AskExists words plugin = texts_of words ≡ codes "test-plugin-exists" ∷ plugin ∷ []

-- `validate-profile PROFILE [PARAM ..]`
pub record AskValidate (words : Words) (profile : List ℕ) (parameters : List (List ℕ)) : Type 0 where
  pub are : texts_of words ≡ codes "validate-profile" ∷ profile ∷ parameters
  pub known : All IsParameter parameters

-- the number of bytes of the largest object whose chunk size can be asked for
abbrev pub max_size : ℕ
max_size = 2 ^ 40

-- `calc-chunk-size PROFILE SIZE`
pub record AskSize (words : Words) (profile : List ℕ) (size : ℕ) : Type 0 where
  pub text : List ℕ
  pub are : texts_of words ≡ codes "calc-chunk-size" ∷ profile ∷ text ∷ []
  pub spelled : IsNumberText text size
  pub within : size ≤ max_size

-- `COMMAND PROFILE UNIT WANT FNAME`
pub record AskCoding (command : List ℕ) (words : Words) (job : Job) : Type 0 where
  pub unit_text : List ℕ
  pub want_text : List ℕ
  pub are : texts_of words ≡ command ∷ job.profile ∷ unit_text ∷ want_text ∷ job.name ∷ []
  pub unit : IsNumberText unit_text job.unit
  pub wanted : IsList want_text job.wanted

abbrev pub AskEncode : Words → Job → Type 0
AskEncode words job = AskCoding (codes "encode") words job

abbrev pub AskDecode : Words → Job → Type 0
AskDecode words job = AskCoding (codes "decode") words job

-- the words are no command
pub record AreWrong (words : Words) : Type 0 where
  pub exists : (plugin : List ℕ) → AskExists words plugin → ⊥
  pub validate : (profile : List ℕ) (parameters : List (List ℕ)) → AskValidate words profile parameters → ⊥
  pub size : (profile : List ℕ) (size : ℕ) → AskSize words profile size → ⊥
  pub encode : (job : Job) → AskEncode words job → ⊥
  pub decode : (job : Job) → AskDecode words job → ⊥
