-- What a table is. Source: this project.
use Rattle.ec_model.specs.Codes.{CodeRows}
use Rattle.ec_code.specs.Tables.{code_of}
use Rattle.rs_van.specs.Systematic.{systematic}
use Rattle.table_code.specs.declared.code.Held.{Held}
use Rattle.table_code.specs.declared.code.Held.TheVariants.{Given, Made}

-- the code of given rows, or the one that a profile made
abbrev pub code_held : Held → CodeRows
code_held (Given t) = code_of t.k t.n t.lead t.rows t.places
code_held (Made s) = systematic s.k s.n s.rows
