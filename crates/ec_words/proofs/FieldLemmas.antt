-- The fields of a line are the pieces between its spaces.
use Rattle.std.proofs.Common.{◌≡◌, ◌≢◌, ℕ, ◌≤◌, ◌==◌, List, [], ◌∷◌, length, Bool, true, false, cond, refl, ap, ◌∙◌, arith}
use Rattle.std.specs.List.{onto_first, join_with_byte, All, AllByRecursion}
use Rattle.std.proofs.lemmas.Bool.{ne_eqb, eqb-false}
use Rattle.std.proofs.lemmas.List.Elements.{All-nil, All-cons, All-weaker}
use Rattle.std.proofs.lemmas.List.Splits.{slice_split_none, slice_split_at, length-slice_split, join_with_byte-slice_split}
use Rattle.ec_words.specs.Fields.{fields, HasNoSpace, StandApart}

no_space : (piece : List ℕ) → HasNoSpace piece → All (λ b. (b == 32) ≡ false) piece
no_space piece h = All-weaker (λ b. b ≢ 32) (λ b. (b == 32) ≡ false) (λ b ne. ne_eqb b 32 ne) piece h

pub fields-joined : (pieces : List (List ℕ)) → 1 ≤ length pieces → AllByRecursion HasNoSpace pieces → fields (join_with_byte 32 pieces) ≡ pieces
fields-joined [] some unbroken = absurd (omega arith)
fields-joined (piece ∷ []) some unbroken = slice_split_none (λ b. b == 32) piece (no_space piece unbroken.0)
fields-joined (piece ∷ next ∷ more) some unbroken =
    slice_split_at (λ b. b == 32) piece 32 (join_with_byte 32 (next ∷ more)) (no_space piece unbroken.0) refl
    ∙ ap (λ rest. piece ∷ rest) (fields-joined (next ∷ more) (omega arith) unbroken.1)

onto_first_unbroken : (b : ℕ) (pieces : List (List ℕ)) → b ≢ 32 → AllByRecursion HasNoSpace pieces → AllByRecursion HasNoSpace (onto_first b pieces)
onto_first_unbroken b [] ne unbroken = (All-cons (λ x. x ≢ 32) b [] ne (All-nil (λ x. x ≢ 32)), tt)
onto_first_unbroken b (piece ∷ more) ne unbroken = (All-cons (λ x. x ≢ 32) b piece ne unbroken.0, unbroken.1)

-- the first byte is a space, or it belongs to the first piece
first_byte : (b : ℕ) (space : Bool) (pieces : List (List ℕ)) → (b == 32) ≡ space → AllByRecursion HasNoSpace pieces
    → AllByRecursion HasNoSpace (cond space ([] ∷ pieces) (onto_first b pieces))
first_byte b true pieces e unbroken = (All-nil (λ x. x ≢ 32), unbroken)
first_byte b false pieces e unbroken = onto_first_unbroken b pieces (eqb-false b 32 e) unbroken

pub fields_unbroken : (line : List ℕ) → AllByRecursion HasNoSpace (fields line)
fields_unbroken [] = (All-nil (λ x. x ≢ 32), tt)
fields_unbroken (b ∷ line) = first_byte b (b == 32) (fields line) refl (fields_unbroken line)

pub fields_stand_apart : (line : List ℕ) → StandApart line (fields line)
fields_stand_apart line = record {
  some = omega (arith, length-slice_split (λ b. b == 32) line);
  unbroken = fields_unbroken line;
  whole = join_with_byte-slice_split 32 line;
}
