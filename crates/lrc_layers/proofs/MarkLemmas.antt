-- The numbers of the places that have one mark.
use Rattle.std.proofs.Common.{◌≡◌, ◌⊎◌, ℕ, List, ◌+◌, ◌<◌, ◌≤◌, suc, zero, length, refl, ap, sym, ◌∙◌, arith, add-one, lit≤, inl, inr}
use Rattle.std.specs.Prelude.{slice_index}
use Rattle.ec_model.specs.Lrc.{mark_count, mark_number, data_count, coding_count}
use Rattle.lrc_layers.proofs.TextLemmas.{more_marks, no_more_marks, whole_count}
use Rattle.lrc_layers.proofs.CheckLemmas.{has_mark_or_not, marked_below}

-- a further place has no smaller number
number_grows : (mark : ℕ) (text : List ℕ) (p : ℕ) → p < length text → mark_number mark text p ≤ mark_number mark text (suc p)
number_grows mark text p lt = elim (has_mark_or_not text p mark) [
  | inl is ↦ omega (arith, ap (λ t. mark_number mark text t) (sym (add-one p)) ∙ more_marks mark text p lt is)
  | inr other ↦ omega (arith, ap (λ t. mark_number mark text t) (sym (add-one p)) ∙ no_more_marks mark text p lt other)
]

pub number_below : (mark : ℕ) (text : List ℕ) (p q : ℕ) → p ≤ q → q ≤ length text → mark_number mark text p ≤ mark_number mark text q
number_below mark text p zero le room = (let e : p ≡ 0 = omega arith in omega (arith, ap (λ t. mark_number mark text t) e))
number_below mark text p (suc q) le room = elim (last_or_less p q le) [
  | inl e ↦ omega (arith, ap (λ t. mark_number mark text t) e)
  | inr less ↦ omega (arith, number_below mark text p q less (omega arith), number_grows mark text q (omega arith))
] where
  last_or_less : (p q : ℕ) → p ≤ suc q → (p ≡ suc q) ⊎ (p ≤ q)
  last_or_less p q le = grind arith

-- of two places with the mark the further one has the greater number
pub number_less : (mark : ℕ) (text : List ℕ) (p q : ℕ) → p < q → q ≤ length text → slice_index text p ≡ mark → mark_number mark text p < mark_number mark text q
number_less mark text p q lt room is =
    omega (arith, more_marks mark text p (omega arith) is, number_below mark text (p + 1) q (omega arith) room)

-- the number of a place with the mark is below the number of all
pub number_inside : (mark : ℕ) (text : List ℕ) (p : ℕ) → 0 < mark → slice_index text p ≡ mark → mark_number mark text p < mark_count mark text
number_inside mark text p some is =
    omega (arith, number_less mark text p (length text) (marked_below text p mark (length text) some (omega arith) is) (omega arith) is, whole_count mark text (length text) refl)

-- two places with the mark and one number are one
pub same_place : (mark : ℕ) (text : List ℕ) (p q : ℕ) → 0 < mark → slice_index text p ≡ mark → slice_index text q ≡ mark
    → mark_number mark text p ≡ mark_number mark text q → p ≡ q
same_place mark text p q some ip iq e = elim (three p q) [
  | inl lt ↦ absurd (omega (arith, e, number_less mark text p q lt (omega (arith, marked_below text q mark (length text) some (omega arith) iq)) ip))
  | inr rest ↦ elim rest [
    | inl same ↦ same
    | inr gt ↦ absurd (omega (arith, e, number_less mark text q p gt (omega (arith, marked_below text p mark (length text) some (omega arith) ip)) iq))
  ]
] where
  three : (p q : ℕ) → (p < q) ⊎ ((p ≡ q) ⊎ (q < p))
  three p q = grind arith

-- a place has one mark
both_few : (text : List ℕ) (p : ℕ) → p ≤ length text → mark_number 68 text p + mark_number 99 text p ≤ p
both_few text zero room = lit≤ tt
both_few text (suc p) room = elim (has_mark_or_not text p 68) [
  | inl is ↦ omega (arith, both_few text p (omega arith), step 68, more_marks 68 text p (omega arith) is, step 99, no_more_marks 99 text p (omega arith) (λ e. omega (arith, sym is ∙ e)))
  | inr other ↦ elim (has_mark_or_not text p 99) [
    | inl is ↦ omega (arith, both_few text p (omega arith), step 68, no_more_marks 68 text p (omega arith) other, step 99, more_marks 99 text p (omega arith) is)
    | inr neither ↦ omega (arith, both_few text p (omega arith), step 68, no_more_marks 68 text p (omega arith) other, step 99, no_more_marks 99 text p (omega arith) neither)
  ]
] where
  step : (mark : ℕ) → mark_number mark text (suc p) ≡ mark_number mark text (p + 1)
  step mark = ap (λ t. mark_number mark text t) (sym (add-one p))

pub counts_few : (text : List ℕ) → data_count text + coding_count text ≤ length text
counts_few text = omega (arith, both_few text (length text) (omega arith), whole_count 68 text (length text) refl, whole_count 99 text (length text) refl)

-- each number below that of all is a place's
pub place_with : (mark : ℕ) (text : List ℕ) (j p : ℕ) → p ≤ length text → j < mark_number mark text p
    → (q : ℕ) × (q < p) × (slice_index text q ≡ mark) × (mark_number mark text q ≡ j)
place_with mark text j zero room lt = absurd (none lt)
  where
    none : j < 0 → ⊥
    none lt = omega (arith, lt)
place_with mark text j (suc p) room lt = elim (has_mark_or_not text p mark) [
  | inl is ↦ elim (last_or_less (mark_number mark text p) (omega (arith, lt, step, more_marks mark text p (omega arith) is))) [
    | inl e ↦ (p, omega arith, is, sym e)
    | inr less ↦ (let h = place_with mark text j p (omega arith) less in (h.0, omega (arith, h.1), h.2, h.3))
  ]
  | inr other ↦ (let h = place_with mark text j p (omega arith) (omega (arith, lt, step, no_more_marks mark text p (omega arith) other)) in (h.0, omega (arith, h.1), h.2, h.3))
] where
  step : mark_number mark text (suc p) ≡ mark_number mark text (p + 1)
  step = ap (λ t. mark_number mark text t) (sym (add-one p))

  last_or_less : (n : ℕ) → j < n + 1 → (j ≡ n) ⊎ (j < n)
  last_or_less n lt = grind arith
