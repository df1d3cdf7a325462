-- The lines of the commands that show numbers of a code. Source: this project.
use Rattle.std.specs.Prelude.{◌≡◌, ◌<◌, ◌≤◌, ◌*◌, ◌-◌, ◌%◌, ◌⊎◌, ⊤, ℕ, List, [], ◌∷◌, ◌++◌, length, take, slice_index, codes, bytes_eq, if◌then◌else◌, Option, Some, None}
use Rattle.std.specs.List.{flat_map}
use Rattle.std.specs.FinMap as map
use Rattle.ec_model.specs.Codes.{CodeRows}
use Rattle.stripe_map.specs.Sizes.{chunk_size_of}
use Rattle.ec_tool.specs.Texts.{number_line}

-- the parameters that are shown: those that are asked for, or all three
abbrev pub shown_parameters : List (List ℕ) → List (List ℕ)
shown_parameters [] = codes "chunk_count" ∷ codes "data_chunk_count" ∷ codes "coding_chunk_count" ∷ []
shown_parameters (one ∷ more) = one ∷ more

-- the number of a parameter
abbrev pub parameter_of : CodeRows → List ℕ → ℕ
parameter_of code text =
    if bytes_eq text (codes "chunk_count") then code.n
    else if bytes_eq text (codes "data_chunk_count") then code.k
    else code.n - code.k

-- `PARAM: VALUE`
abbrev pub parameter_line : CodeRows → List ℕ → List ℕ
parameter_line code text = text ++ (codes ": " ++ number_line (parameter_of code text))

abbrev pub parameters_text : CodeRows → List (List ℕ) → List ℕ
parameters_text code parameters = flat_map (parameter_line code) (shown_parameters parameters)

-- the size of the chunks of an object
abbrev pub size_text : CodeRows → ℕ → List ℕ
size_text code size = number_line (chunk_size_of code.lead size)
