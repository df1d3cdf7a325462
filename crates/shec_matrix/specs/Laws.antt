-- Laws about the code shec. Source: this project.
use Rattle.std.specs.Prelude.{◌≡◌, ◌==◌, ◌+◌, ◌<◌, ◌≤◌, ℕ, zero, suc, if◌then◌else◌}
use Rattle.ec_model.specs.Rows.{entry_at}
use Rattle.ec_model.specs.Codes.{CodeRows}
use Rattle.ec_model.specs.Shec.{IsShec}

-- how many of the first coding rows have an entry at column j that is not 0
abbrev pub rows_with : CodeRows → ℕ → ℕ → ℕ
rows_with code j zero = 0
rows_with code j (suc r) = (if entry_at code.rows (code.k + r) j == 0 then 0 else 1) + rows_with code j r

-- each data chunk is in exactly c of the m coding chunks
abbrev pub EachDataChunkIsInC : Type 0
EachDataChunkIsInC = (k m c : ℕ) (code : CodeRows) → 1 ≤ c → c ≤ m → m ≤ k → k ≤ 12 → IsShec k m c code
    → (j : ℕ) → j < k → rows_with code j m ≡ c
