-- Codes whose data chunks stand first. Source: this project.
use Rattle.std.specs.Prelude.{ℕ, List}
use Rattle.std.specs.List.{range_with_len}
use Rattle.ec_model.specs.Codes.{CodeRows}

-- the code of some rows whose data chunk j stands at position j, with chunks of a size that k divides
abbrev pub systematic : ℕ → ℕ → List (List ℕ) → CodeRows
systematic data_count count lines = record { k = data_count; n = count; lead = data_count; rows = lines; places = range_with_len 0 data_count }
