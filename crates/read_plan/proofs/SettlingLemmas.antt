-- What is settled when a row is taken away from the others, and when no row is left.
use Rattle.std.proofs.Common.{◌≡◌, ◌≢◌, ◌<◌, ◌^◌, ℕ, List, [], ◌∷◌, zero, suc, lit<, length, slice_index, bit_xor, refl, ap, sym, ◌∙◌, subst, arith, inl, inr}
use Rattle.std.proofs.Common.{Some, None, true}
use Rattle.std.specs.declared.option.Option.{Option}
use Rattle.std.specs.Prelude.{◌==◌, if◌then◌else◌, IfSome}
use Rattle.std.specs.Option.{is_some}
use Rattle.std.specs.Int.Bits.{xor_self, xor_zero_r}
use Rattle.std.proofs.Math.Nat.{mod-eq_of_lt}
use Rattle.std.proofs.lemmas.Bool.{cases_eq, ne_eqb}
use Rattle.std.proofs.lemmas.Bool.Decides.{nat_tests}
use Rattle.std.proofs.lemmas.Nat.Bits.{bit_at-zero}
use Rattle.gf256.proofs.CallerLemmas.{field_product-sum, field_product-zero, zero-field_product, one-field_product, field_product_assoc}
use Rattle.ec_matrix.proofs.CallerLemmas.{sum_below-zero, sum_below-change, sum_dot, dot-lt, dot_unit}
use Rattle.ec_model.specs.Field.{field_product}
use Rattle.ec_model.specs.Rows.{dot, row_at, entry_at, unit_entry}
use Rattle.ec_model.specs.Codes.{HasPosition}
use Rattle.read_plan.specs.Settling.{Settles, IsWith, IsTaken, IsLineLess, Vanishes}
use Rattle.std.proofs.Common.{Bool}
use Rattle.std.specs.Prelude.{◌↔◌, IsTrue}
use Rattle.read_plan.specs.Plans.{LiesIn}

-- the list of f 0, .., f (n - 1)
pub line_of : ℕ → (ℕ → ℕ) → List ℕ
line_of zero f = []
line_of (suc n) f = f 0 ∷ line_of n (λ j. f (suc j))

pub line_of-at : (n : ℕ) (f : ℕ → ℕ) (j : ℕ) → j < n → slice_index (line_of n f) j ≡ f j
unfolding line_of
line_of-at zero f j lt = absurd (omega arith)
line_of-at (suc n) f zero lt = refl
line_of-at (suc n) f (suc j) lt = line_of-at n (λ i. f (suc i)) j (omega arith)

-- the list of the lines f 0, .., f (n - 1)
lines_of : ℕ → (ℕ → List ℕ) → List (List ℕ)
lines_of zero f = []
lines_of (suc n) f = f 0 ∷ lines_of n (λ p. f (suc p))

lines_of-at : (n : ℕ) (f : ℕ → List ℕ) (p : ℕ) → p < n → row_at (lines_of n f) p ≡ f p
unfolding lines_of
lines_of-at zero f p lt = absurd (omega arith)
lines_of-at (suc n) f zero lt = refl
lines_of-at (suc n) f (suc p) lt = lines_of-at n (λ i. f (suc i)) p (omega arith)

pub line_of-long : (n : ℕ) (f : ℕ → ℕ) → length (line_of n f) ≡ n
unfolding line_of
line_of-long zero f = refl
line_of-long (suc n) f = ap suc (line_of-long n (λ i. f (suc i)))

pub line_of-byte : (n : ℕ) (f : ℕ → ℕ) → ((i : ℕ) → f i < 2 ^ 8) → (j : ℕ) → slice_index (line_of n f) j < 2 ^ 8
unfolding line_of
line_of-byte zero f h j = lit< tt
line_of-byte (suc n) f h zero = h 0
line_of-byte (suc n) f h (suc j) = line_of-byte n (λ i. f (suc i)) (λ i. h (suc i)) j

-- a row that is 0 has the product 0 with every column
pub zero_row : (row column : List ℕ) → ((j : ℕ) → j < 16 → slice_index row j ≡ 0) → dot 16 row column ≡ 0
zero_row row column zeros = sum_below-zero 16 (λ j. field_product (slice_index row j) (slice_index column j))
    (λ j lt. ap (λ t. field_product t (slice_index column j)) (zeros j lt) ∙ zero-field_product (slice_index column j))

-- nothing settles rows that are 0, and no others
pub settled_by_nothing : (rows : List (List ℕ)) (set : ℕ) → ((p j : ℕ) → p < 16 → j < 16 → HasPosition set p → entry_at rows p j ≡ 0) → Settles rows 0 set
settled_by_nothing rows set zeros = record { zero = λ column _ p lt has. zero_row (row_at rows p) column (λ j lj. zeros p j lt lj has) }

pub unsettled_by_nothing : (rows : List (List ℕ)) (set p i : ℕ) → p < 16 → HasPosition set p → i < 16 → entry_at rows p i ≢ 0 → entry_at rows p i < 2 ^ 8 → Settles rows 0 set → ⊥
unsettled_by_nothing rows set p i lp has li nonzero byte settles =
    nonzero (sym (mod-eq_of_lt byte) ∙ sym (dot_unit 16 i (row_at rows p) (line_of 16 (unit_entry i)) li (λ j lj. line_of-at 16 (unit_entry i) j lj))
    ∙ settles.zero (line_of 16 (unit_entry i)) (λ q lq at. absurd (never q at)) p lp has)
  where
    never : (q : ℕ) → HasPosition 0 q → ⊥
    never q at = let z = bit_at-zero q in omega arith

-- a row that is not 0 at its lead is not settled by nothing
pub unsettled_row : (rows : List (List ℕ)) (set p : ℕ) (lead : Option ℕ) → true ≡ is_some lead → IfSome lead (λ i. i < 16) → IfSome lead (λ i. entry_at rows p i ≢ 0) → IfSome lead (λ i. entry_at rows p i < 2 ^ 8)
    → p < 16 → HasPosition set p → Settles rows 0 set → ⊥
unsettled_row rows set p None e place nonzero byte lp has = absurd (cc)
unsettled_row rows set p (Some i) e place nonzero byte lp has = unsettled_by_nothing rows set p i lp has place nonzero byte

-- ---- a row is taken away

-- the position is another one, and has the same bit
member : (q one other p : ℕ) → IsWith q one other → HasPosition one p → HasPosition other p
member q one other p w has = elim (cases_eq p q) [
  | inl e ↦ absurd (w.lacks (subst (λ t. HasPosition one t) e has))
  | inr ne ↦ w.others p ne ∙ has
]

pub taken_of_zero : (rows : List (List ℕ)) (q needed : ℕ) → ((j : ℕ) → j < 16 → entry_at rows q j ≡ 0) → IsTaken rows q needed rows
taken_of_zero rows q needed zeros = record {
  fewer = λ one other wanted w _ _ settles. record {
    zero = λ column on. settles.zero column (λ p lt has. elim (cases_eq p q) [
      | inl e ↦ rw e (zero_row (row_at rows q) column zeros)
      | inr ne ↦ on p lt (sym (w.others p ne) ∙ has)
    ]);
  };
  more = λ one other wanted w _ _ settles. record { zero = λ column on. settles.zero column (λ p lt has. on p lt (member q one other p w has)) };
}

-- a column with another entry at one place
abbrev changed : List ℕ → ℕ → ℕ → List ℕ
changed column lead by = line_of 16 (λ j. if j == lead then bit_xor (slice_index column j) by else slice_index column j)

dot-changed : (row column : List ℕ) (lead by : ℕ) → lead < 16 → dot 16 row (changed column lead by) ≡ bit_xor (dot 16 row column) (field_product (slice_index row lead) by)
dot-changed row column lead by lt =
    sum_below-change 16 lead (field_product (slice_index row lead) by) (λ j. field_product (slice_index row j) (slice_index column j)) (λ j. field_product (slice_index row j) (slice_index (changed column lead by) j)) lt
    (λ j lj ne. ap (λ t. field_product (slice_index row j) t) (line_of-at 16 (λ j. if j == lead then bit_xor (slice_index column j) by else slice_index column j) j lj ∙ rw (ne_eqb j lead ne) refl))
    (ap (λ t. field_product (slice_index row lead) t) (line_of-at 16 (λ j. if j == lead then bit_xor (slice_index column j) by else slice_index column j) lead lt ∙ same_place lead)
    ∙ field_product-sum (slice_index row lead) (slice_index column lead) by)
  where
    same_place : (i : ℕ) → (if i == i then bit_xor (slice_index column i) by else slice_index column i) ≡ bit_xor (slice_index column i) by
    same_place i = grind (arith, nat_tests)

-- nothing is taken away
pub not_reduced : (times : ℕ) (line row : List ℕ) → times ≡ 0 → (j : ℕ) → j < 16 → slice_index line j ≡ bit_xor (slice_index line j) (field_product times (slice_index row j))
not_reduced times line row none j lt =
    sym (ap (λ t. bit_xor (slice_index line j) (field_product t (slice_index row j))) none
    ∙ ap (λ t. bit_xor (slice_index line j) t) (zero-field_product (slice_index row j)) ∙ xor_zero_r (slice_index line j))

-- a line less its multiple of the scaled row
pub less_by_scaled : (line row scaled left : List ℕ) (lead by : ℕ) → ((j : ℕ) → j < 16 → slice_index scaled j ≡ field_product by (slice_index row j))
    → ((j : ℕ) → j < 16 → slice_index left j ≡ bit_xor (slice_index line j) (field_product (slice_index line lead) (slice_index scaled j))) → IsLineLess line row lead by left
less_by_scaled line row scaled left lead by is less j lt =
    less j lt
    ∙ ap (λ t. bit_xor (slice_index line j) t) (ap (λ t. field_product (slice_index line lead) t) (is j lt) ∙ sym (field_product_assoc (slice_index line lead) by (slice_index row j)))

-- rows that are 0 once their multiples are taken away are settled by nothing, and no others
pub vanished : (rows left : List (List ℕ)) (row : List ℕ) (lead by set : ℕ) → ((p : ℕ) → p < 16 → HasPosition set p → IsLineLess (row_at rows p) row lead by (row_at left p))
    → ((p : ℕ) → p < 16 → HasPosition set p → Vanishes (row_at rows p) row lead by) → Settles left 0 set
vanished rows left row lead by set less zeros = settled_by_nothing left set (λ p j lt lj has. less p lt has j lj ∙ zeros p lt has j lj)

pub not_vanished : (rows left : List (List ℕ)) (row one : List ℕ) (lead by set p : ℕ) (first : Option ℕ) → ((p : ℕ) → p < 16 → HasPosition set p → IsLineLess (row_at rows p) row lead by (row_at left p))
    → p < 16 → HasPosition set p → IsLineLess (row_at rows p) row lead by one → true ≡ is_some first → IfSome first (λ i. i < 16) → IfSome first (λ i. slice_index one i ≢ 0) → IfSome first (λ i. slice_index one i < 2 ^ 8)
    → Settles left 0 set → ⊥
not_vanished rows left row one lead by set p None less lp has same e place nonzero byte = absurd (cc)
not_vanished rows left row one lead by set p (Some i) less lp has same e place nonzero byte =
    let agree : entry_at left p i ≡ slice_index one i = less p lp has i place ∙ sym (same i place) in
    unsettled_by_nothing left set p i lp has place (λ z. nonzero (sym agree ∙ z)) (let P : ℕ → Type 0 = λ n. n < 2 ^ 8 in subst P (sym agree) byte)

module _ (rows : List (List ℕ)) (q lead by needed : ℕ) (left : List (List ℕ)) (at_q : q < 16) (place : lead < 16) (inverse : field_product (entry_at rows q lead) by ≡ 1)
    (less : (p : ℕ) → p < 16 → HasPosition needed p → IsLineLess (row_at rows p) (row_at rows q) lead by (row_at left p)) where
  abbrev times : ℕ → ℕ
  times p = field_product (entry_at rows p lead) by

  left_dot : (column : List ℕ) (p : ℕ) → p < 16 → HasPosition needed p → dot 16 (row_at left p) column ≡ bit_xor (dot 16 (row_at rows p) column) (field_product (times p) (dot 16 (row_at rows q) column))
  left_dot column p lt has = sum_dot 16 (times p) column (row_at rows p) (row_at rows q) (row_at left p) (less p lt has)

  -- if row q is 0 the rows left are those before
  left_same : (column : List ℕ) (p : ℕ) → p < 16 → HasPosition needed p → dot 16 (row_at rows q) column ≡ 0 → dot 16 (row_at left p) column ≡ dot 16 (row_at rows p) column
  left_same column p lt has z =
      left_dot column p lt has ∙ ap (λ t. bit_xor (dot 16 (row_at rows p) column) (field_product (times p) t)) z
      ∙ ap (λ t. bit_xor (dot 16 (row_at rows p) column) t) (field_product-zero (times p)) ∙ xor_zero_r (dot 16 (row_at rows p) column)

  -- every column has one on which row q is 0 and the others are what is left of them
  abbrev bent : List ℕ → List ℕ
  bent column = changed column lead (field_product by (dot 16 (row_at rows q) column))

  bent_zero : (column : List ℕ) → dot 16 (row_at rows q) (bent column) ≡ 0
  bent_zero column =
      let d = dot 16 (row_at rows q) column in
      dot-changed (row_at rows q) column lead (field_product by d) place
      ∙ ap (λ t. bit_xor d t) (sym (field_product_assoc (entry_at rows q lead) by d) ∙ ap (λ t. field_product t d) inverse ∙ one-field_product d ∙ mod-eq_of_lt (dot-lt 16 (row_at rows q) column))
      ∙ xor_self d

  bent_left : (column : List ℕ) (p : ℕ) → p < 16 → HasPosition needed p → dot 16 (row_at rows p) (bent column) ≡ dot 16 (row_at left p) column
  bent_left column p lt has =
      let d = dot 16 (row_at rows q) column in
      dot-changed (row_at rows p) column lead (field_product by d) place
      ∙ ap (λ t. bit_xor (dot 16 (row_at rows p) column) t) (sym (field_product_assoc (entry_at rows p lead) by d))
      ∙ sym (left_dot column p lt has)

  pub taken_by : IsTaken rows q needed left
  taken_by = record {
    fewer = λ one other wanted w inside asked settles. record {
      zero = λ column on p lt has.
          sym (bent_left column p lt (asked p has))
          ∙ settles.zero (bent column) (λ r lr at. elim (cases_eq r q) [
            | inl e ↦ rw e (bent_zero column)
            | inr ne ↦ let own = sym (w.others r ne) ∙ at in bent_left column r lr (inside r own) ∙ on r lr own
          ]) p lt has;
    };
    more = λ one other wanted w inside asked settles. record {
      zero = λ column on p lt has.
          let z = on q at_q w.has in
          sym (left_same column p lt (asked p has) z)
          ∙ settles.zero column (λ r lr at. left_same column r lr (inside r at) z ∙ on r lr (member q one other r w at)) p lt has;
    };
  }

-- all rows less their multiples of row q
abbrev all_less : List (List ℕ) → ℕ → ℕ → ℕ → List (List ℕ)
all_less rows q lead by = lines_of 16 (λ p. line_of 16 (λ j. bit_xor (entry_at rows p j) (field_product (field_product (entry_at rows p lead) by) (entry_at rows q j))))

all_less-at : (rows : List (List ℕ)) (q lead by p : ℕ) → p < 16 → IsLineLess (row_at rows p) (row_at rows q) lead by (row_at (all_less rows q lead by) p)
all_less-at rows q lead by p lt j lj =
    ap (λ t. slice_index t j) (lines_of-at 16 (λ p. line_of 16 (λ j. bit_xor (entry_at rows p j) (field_product (field_product (entry_at rows p lead) by) (entry_at rows q j)))) p lt)
    ∙ line_of-at 16 (λ j. bit_xor (entry_at rows p j) (field_product (field_product (entry_at rows p lead) by) (entry_at rows q j))) j lj

nothing_in : (set : ℕ) → LiesIn 0 set
nothing_in set p has = absurd (let z = bit_at-zero p in omega arith)

-- what row q alone settles
pub settled_by_zero : (rows : List (List ℕ)) (q set one : ℕ) → ((j : ℕ) → j < 16 → entry_at rows q j ≡ 0) → IsWith q 0 one → Settles rows 0 set ↔ Settles rows one set
settled_by_zero rows q set one zeros w =
    let taken = taken_of_zero rows q set zeros in
    (taken.more 0 one set w (nothing_in set) (λ p has. has), taken.fewer 0 one set w (nothing_in set) (λ p has. has))

pub settled_by : (rows : List (List ℕ)) (q lead by set one : ℕ) (result : Bool) → q < 16 → lead < 16 → field_product (entry_at rows q lead) by ≡ 1
    → ((left : List (List ℕ)) → ((p : ℕ) → p < 16 → HasPosition set p → IsLineLess (row_at rows p) (row_at rows q) lead by (row_at left p)) → (IsTrue result ↔ Settles left 0 set))
    → IsWith q 0 one → (IsTrue result ↔ Settles rows one set)
settled_by rows q lead by set one result at_q place inverse vanish w =
    let less : (p : ℕ) → p < 16 → HasPosition set p → IsLineLess (row_at rows p) (row_at rows q) lead by (row_at (all_less rows q lead by) p) = λ p lt has. all_less-at rows q lead by p lt in
    let taken = taken_by rows q lead by set (all_less rows q lead by) at_q place inverse less in
    let zero = vanish (all_less rows q lead by) less in (
      λ e. taken.more 0 one set w (nothing_in set) (λ p has. has) (zero.0 e),
      λ settles. zero.1 (taken.fewer 0 one set w (nothing_in set) (λ p has. has) settles),
    )
