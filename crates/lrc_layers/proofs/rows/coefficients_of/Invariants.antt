use Rattle.std.proofs.Common.{◌≡◌, ◌<◌, ℕ, length, get_or}
use Rattle.ec_model.specs.ReedSolVan.{IsCodingEntry}
use Rattle.ec_model.specs.Lrc.{IsData, mark_number}
use Rattle.ec_code.specs.LrcFaults.{text_of_layer}
use Rattle.lrc_layers.proofs.rows.coefficients_of.Given as goal

abbrev pub invariant-loop-q : goal.invariant-loop-q
invariant-loop-q l =
    (length l.coefficients ≡ 16)
    × ((i : ℕ) → i < l.q → IsData (text_of_layer l.layer) i
    → IsCodingEntry l.k l.m l.r (mark_number 68 (text_of_layer l.layer) i) (get_or l.coefficients i 0))
    × ((i : ℕ) → (IsData (text_of_layer l.layer) i → ⊥) → get_or l.coefficients i 0 ≡ 0)
