-- What the two answers say of the rows and the wanted row.
use Rattle.std.proofs.Common.{◌≡◌, ◌≢◌, ℕ, List, ◌<◌, slice_index, ap, sym, ◌∙◌, None}
use Rattle.std.specs.declared.option.Option.{Option}
use Rattle.ec_model.specs.Field.{field_product}
use Rattle.ec_model.specs.Rows.{dot, sum_below, row_at, entry_at}
use Rattle.ec_matrix.specs.Lines.{IsFront}
use Rattle.ec_matrix.specs.Matrix.{Matrix, IsMatrix}
use Rattle.ec_matrix.specs.Columns.{column_at, owner, IsReduced}
use Rattle.ec_matrix.specs.Solution.{CombinesTo, TellsApart}
use Rattle.ec_matrix.proofs.SumLaws.{sum_below-same, sum_below-zero, dot_front, dot_of_combined}
use Rattle.gf256.proofs.FieldLemmas.{field_product-zero}

-- a free column that the wanted row is not 0 on tells the rows and the wanted row apart
pub told_apart : (m : Matrix) (columns : List (List ℕ)) (owners : List (Option ℕ)) (wanted inside column : List ℕ) (p : ℕ) → IsMatrix m →
    IsReduced m.rows columns owners m.height → p < 16 → owner owners p ≡ None → dot 16 inside (column_at columns p) ≢ 0 →
    IsFront wanted inside m.width → IsFront (column_at columns p) column m.width → TellsApart m wanted column
told_apart m columns owners wanted inside column p is reduced hp free far w d = record {
  long = d.long;
  bytes = d.bytes;
  past = d.past;
  zero = λ r lt.
      dot_front 16 m.width (row_at m.rows r) (column_at columns p) column is.narrow (λ j le. is.beside r j le) d.first
      ∙ reduced.free p r hp lt free;
  nonzero = λ z. far (sym (dot_front 16 m.width inside (column_at columns p) column is.narrow w.past d.first) ∙ same ∙ z);
} where
  same : dot m.width inside column ≡ dot m.width wanted column
  same = sum_below-same m.width (λ j. field_product (slice_index inside j) (slice_index column j)) (λ j. field_product (slice_index wanted j) (slice_index column j))
      (λ j lt. ap (λ t. field_product t (slice_index column j)) (w.first j lt))

-- coefficients carry the rows' products with a column over to the wanted row
pub combined_product : (m : Matrix) (wanted c : List ℕ) → CombinesTo m wanted c → (x : List ℕ) →
    dot m.width wanted x ≡ sum_below m.height (λ r. field_product (slice_index c r) (dot m.width (row_at m.rows r) x))
combined_product m wanted c h x = dot_of_combined m.height m.width c x wanted (λ r j. entry_at m.rows r j) h.makes

-- no row is both made and told apart
pub never_both : (m : Matrix) (wanted c d : List ℕ) → CombinesTo m wanted c → TellsApart m wanted d → ⊥
never_both m wanted c d h apart =
    apart.nonzero (combined_product m wanted c h d
    ∙ sum_below-zero m.height (λ r. field_product (slice_index c r) (dot m.width (row_at m.rows r) d))
    (λ r lt. ap (λ t. field_product (slice_index c r) t) (apart.zero r lt) ∙ field_product-zero (slice_index c r)))
