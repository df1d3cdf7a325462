-- What is encoded is one function of the words and the files.
use Rattle.std.proofs.Common.{◌≡◌, ◌⊎◌, ◌+◌, ◌*◌, ◌/◌, ◌%◌, ◌<◌, ℕ, List, [], ◌∷◌, Option, Some, None, length, slice_index, refl, ap, sym, subst, ◌∙◌, arith, inl, inr}
use Rattle.std.specs.FinMap as map
use Rattle.std.proofs.Math.Nat.{mod-lt}
use Rattle.std.proofs.lemmas.Bool.{cases_lt}
use Rattle.std.proofs.lemmas.Grind.{same_number_lists}
use Rattle.std.proofs.lemmas.List.Elements.{All-nil, All-cons, All-head, All-tail}
use Rattle.std.proofs.lemmas.Nat.{mul-le, div-add-mod'}
use Rattle.ec_model.specs.Codes.{CodeRows, IsPositionList}
use Rattle.ec_model.specs.Field.{field_product}
use Rattle.ec_model.specs.Rows.{sum_below, entry_at}
use Rattle.ec_model.specs.Stripes.{stripe_count, shard_len, padded}
use Rattle.ec_matrix.proofs.CallerLemmas.{sum_below-same}
use Rattle.lrc_layers.specs.Laws.{AreAlike}
use Rattle.ec_files.specs.Chunks.{AreBelow, Written, after, AreChunkFiles}
use Rattle.ec_files.specs.Files.{FileMap, max_file}
use Rattle.ec_files.specs.Runs.{Encodes, EncodesFiles, Stops}
use Rattle.ec_files.specs.Jobs.{Job}

-- two ends of a command: the status, the line and the files
abbrev pub Same : ℕ → List ℕ → Option FileMap → ℕ → List ℕ → Option FileMap → Type 0
Same status line now its_status its_line its_now = (status ≡ its_status) × (line ≡ its_line) × (now ≡ its_now)

pub stops_same : (s : ℕ) (l : List ℕ) (status : ℕ) (line : List ℕ) (before now : Option FileMap) (its_status : ℕ) (its_line : List ℕ) (its_now : Option FileMap)
    → Stops s l status line before now → Stops s l its_status its_line before its_now → Same status line now its_status its_line its_now
stops_same s l status line before now its_status its_line its_now one other = (one.0 ∙ sym other.0, one.1 ∙ sym other.1, one.2 ∙ sym other.2)

-- ---- the chunks of a position

-- codes that are alike have the same chunks
pub list_as : (one other : CodeRows) (unit : ℕ) (bytes : List ℕ) (p : ℕ) (list : List ℕ) → AreAlike one other → p < one.n → IsPositionList one unit bytes p list
    → IsPositionList other unit bytes p list
list_as one other unit bytes p list alike lt is = record {
  long = is.long ∙ ap (λ k. shard_len k unit (length bytes)) alike.data_chunks;
  sums = λ t b lt_stripe lb.
      is.sums t b (subst (λ (k : ℕ). t < stripe_count k unit (length bytes)) (sym alike.data_chunks) lt_stripe) lb
      ∙ sum_below-same one.k (λ j. field_product (entry_at one.rows p j) (slice_index (padded one.k unit bytes) ((t * one.k + j) * unit + b)))
      (λ j. field_product (entry_at other.rows p j) (slice_index (padded one.k unit bytes) ((t * one.k + j) * unit + b)))
      (λ j lj. ap (λ e. field_product e (slice_index (padded one.k unit bytes) ((t * one.k + j) * unit + b))) (alike.rows p j lt lj))
      ∙ ap (λ k. sum_below k (λ j. field_product (entry_at other.rows p j) (slice_index (padded k unit bytes) ((t * k + j) * unit + b)))) alike.data_chunks;
}

pub unit_inside : (i count unit : ℕ) → 0 < unit → i < count * unit → i / unit < count
unit_inside i count unit some lt = elim (cases_lt (i / unit) count) [
  | inl less ↦ less
  | inr more ↦ absurd (omega (arith, lt, mul-le count unit (i / unit) unit more (omega arith), div-add-mod' i unit))
]

-- a position has one list of chunks
pub one_list : (code : CodeRows) (unit : ℕ) (bytes : List ℕ) (p : ℕ) (list its_list : List ℕ) → 0 < unit → IsPositionList code unit bytes p list
    → IsPositionList code unit bytes p its_list → list ≡ its_list
one_list code unit bytes p list its_list some one other = same_number_lists list its_list (one.long ∙ sym other.long) (λ i li.
    let inside = unit_inside i (stripe_count code.k unit (length bytes)) unit some (omega (arith, li, one.long)) in
    subst (λ (x : ℕ). slice_index list x ≡ slice_index its_list x) (div-add-mod' i unit)
    (one.sums (i / unit) (i % unit) inside (mod-lt i some) ∙ sym (other.sums (i / unit) (i % unit) inside (mod-lt i some))))

chunk_files_one : (one other : CodeRows) (unit : ℕ) (name bytes wanted : List ℕ) (written its_written : List Written) → AreAlike one other → 0 < unit → AreBelow one.n wanted
    → AreChunkFiles one unit name bytes wanted written → AreChunkFiles other unit name bytes wanted its_written → written ≡ its_written
chunk_files_one one other unit name bytes [] [] [] alike some below a b = refl
chunk_files_one one other unit name bytes [] [] (y ∷ ys) alike some below a b = absurd b
chunk_files_one one other unit name bytes [] (x ∷ xs) ys alike some below a b = absurd a
chunk_files_one one other unit name bytes (p ∷ wanted) [] ys alike some below a b = absurd a
chunk_files_one one other unit name bytes (p ∷ wanted) (x ∷ xs) [] alike some below a b = absurd b
chunk_files_one one other unit name bytes (p ∷ wanted) (x ∷ xs) (y ∷ ys) alike some below a b =
    let inside = All-head (λ q. q < one.n) p wanted below in
    let named : x.0 ≡ y.0 = a.0 ∙ sym b.0 in
    let held : x.1 ≡ y.1 = one_list other unit bytes p x.1 y.1 some (list_as one other unit bytes p x.1 alike inside a.1) b.1 in
    let rest = chunk_files_one one other unit name bytes wanted xs ys alike some (All-tail (λ q. q < one.n) p wanted below) a.2 b.2 in
    λ i. (named i, held i) ∷ rest i

-- ---- encoding

pub below_or_not : (n : ℕ) (wanted : List ℕ) → AreBelow n wanted ⊎ (AreBelow n wanted → ⊥)
below_or_not n [] = inl (All-nil (λ p. p < n))
below_or_not n (q ∷ wanted) = elim (cases_lt q n) [
  | inl lt ↦ elim (below_or_not n wanted) [
    | inl rest ↦ inl (All-cons (λ p. p < n) q wanted lt rest)
    | inr never ↦ inr (λ all. never (All-tail (λ p. p < n) q wanted all))
  ]
  | inr ge ↦ inr (λ all. absurd (omega (arith, ge, All-head (λ p. p < n) q wanted all)))
]

files_one : (one other : CodeRows) (job : Job) (files : FileMap) (status : ℕ) (line : List ℕ) (now : Option FileMap) (its_status : ℕ) (its_line : List ℕ) (its_now : Option FileMap)
    → AreAlike one other → 0 < job.unit → AreBelow one.n job.wanted → EncodesFiles one job status line now files → EncodesFiles other job its_status its_line its_now files
    → Same status line now its_status its_line its_now
files_one one other job files status line now its_status its_line its_now alike some below a b = by_file (map.get files job.name) refl where
  by_file : (o : Option (List ℕ)) → map.get files job.name ≡ o → Same status line now its_status its_line its_now
  by_file None e = stops_same 4 _ status line (Some files) now its_status its_line its_now (a.missing e) (b.missing e)
  by_file (Some bytes) e = elim (cases_lt max_file (length bytes)) [
    | inl long ↦ stops_same 8 _ status line (Some files) now its_status its_line its_now (a.too_long bytes e long) (b.too_long bytes e long)
    | inr few ↦
        let x = a.done bytes e few in
        let y = b.done bytes e few in
        let same = chunk_files_one one other job.unit job.name bytes job.wanted x.2.0 y.2.0 alike some below x.2.1 y.2.1 in
        (x.0 ∙ sym y.0, x.1 ∙ sym y.1, x.2.2 ∙ ap (λ (w : List Written). Some (after files w)) same ∙ sym y.2.2)
  ]

pub encodes_one : (one other : CodeRows) (job : Job) (files : FileMap) (status : ℕ) (line : List ℕ) (now : Option FileMap) (its_status : ℕ) (its_line : List ℕ) (its_now : Option FileMap)
    → AreAlike one other → 0 < job.unit → Encodes one job (Some files) status line now → Encodes other job (Some files) its_status its_line its_now
    → Same status line now its_status its_line its_now
encodes_one one other job files status line now its_status its_line its_now alike some a b = elim (below_or_not one.n job.wanted) [
  | inl below ↦ files_one one other job files status line now its_status its_line its_now alike some below (a.files below) (b.files (subst (λ (n : ℕ). AreBelow n job.wanted) alike.positions below))
  | inr never ↦
      stops_same 2 _ status line (Some files) now its_status its_line its_now (a.outside never)
      (b.outside (λ below. never (subst (λ (n : ℕ). AreBelow n job.wanted) (sym alike.positions) below)))
]
