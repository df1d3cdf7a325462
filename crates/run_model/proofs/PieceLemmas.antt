-- Some first bytes of pieces.
use Rattle.std.proofs.Common.{◌≡◌, ◌<◌, ◌+◌, ◌-◌, ℕ, suc, List, [], ◌∷◌, ◌++◌, length, take, drop, refl, sym, ap, ◌∙◌, append_assoc, arith, inl, inr}
use Rattle.std.proofs.lemmas.Bool.{cases_lt}
use Rattle.std.proofs.lemmas.List.{take-append-le}
use Rattle.std.proofs.Math.Seq.{take-append-add, take-nil}
use Rattle.run_model.specs.Pieces.{Piece, AreWholeAndAPart, piece_text, pieces_text, first_text}

in_first : (piece : Piece) (pieces : List Piece) (n : ℕ) → n < length (piece_text piece) → AreWholeAndAPart (piece ∷ pieces) n
in_first piece pieces n lt = record {
  count = 0;
  part = n;
  are = take-append-le n (piece_text piece) (pieces_text pieces) (omega arith);
  cut = inr lt;
}

behind_first : (piece : Piece) (pieces : List Piece) (n m : ℕ) → n ≡ length (piece_text piece) + m → AreWholeAndAPart pieces m → AreWholeAndAPart (piece ∷ pieces) n
behind_first piece pieces n m is more = record {
  count = suc more.count;
  part = more.part;
  are =
      ap (λ k. take k (piece_text piece ++ pieces_text pieces)) is
      ∙ take-append-add (piece_text piece) (pieces_text pieces) m
      ∙ ap (λ t. piece_text piece ++ t) more.are
      ∙ sym (append_assoc (piece_text piece) (pieces_text (take more.count pieces)) (take more.part (first_text (drop more.count pieces))));
  cut = more.cut;
}

pub whole_and_a_part : (pieces : List Piece) (n : ℕ) → AreWholeAndAPart pieces n
whole_and_a_part [] n = record { count = 0; part = 0; are = take-nil n; cut = inl refl }
whole_and_a_part (piece ∷ pieces) n = elim (cases_lt n (length (piece_text piece))) [
  | inl lt ↦ in_first piece pieces n lt
  | inr ge ↦ behind_first piece pieces n (n - length (piece_text piece)) (omega arith) (whole_and_a_part pieces (n - length (piece_text piece)))
]
