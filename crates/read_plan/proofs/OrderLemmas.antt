-- The order of sets is that of their ascending lists, and no two sets are each less than the other.
use Rattle.std.proofs.Common.{◌≡◌, ◌≢◌, ◌↔◌, ◌<◌, ◌≤◌, ◌+◌, ◌-◌, ◌^◌, ◌⊎◌, ℕ, List, [], ◌∷◌, ◌++◌, zero, suc, length, refl, ap, sym, ◌∙◌, subst, arith, inl, inr, append_assoc, append-nil}
use Rattle.std.specs.Prelude.{◌==◌, if◌then◌else◌, IsTrue}
use Rattle.std.specs.Int.{bit_at}
use Rattle.std.specs.Ordering.{nat_cmp, ordering_then, is_lt}
use Rattle.std.proofs.Common.{Ordering, Less, Equal, Greater}
use Rattle.std.specs.Cmp.Lexicographic.{slice_cmp}
use Rattle.std.proofs.lemmas.Bool.{cases_eq, ne_eqb}
use Rattle.std.proofs.lemmas.Bool.Decides.{nat_tests}
use Rattle.std.proofs.lemmas.Nat.Bits.{same_from_bits_below, bit_at_above}
use Rattle.ec_model.specs.Codes.{HasPosition, CodeRows, count_below}
use Rattle.ec_words.specs.Masks.{positions_below}
use Rattle.read_plan.specs.Plans.{size_of, ComesBefore, IsLess, IsLeastPlan}
use Rattle.read_plan.proofs.SetLemmas.{has_or_not, bit-zero, bit-of_zero}

-- ---- the list of a set, in two parts

-- the positions from p on that a set has, of the next `len`
between : ℕ → ℕ → ℕ → List ℕ
between p zero set = []
between p (suc len) set = if bit_at set p == 1 then p ∷ between (suc p) len set else between (suc p) len set

between-has : (p len set : ℕ) → HasPosition set p → between p (suc len) set ≡ p ∷ between (suc p) len set
unfolding between
between-has p len set has = rw has refl

between-lacks : (p len set : ℕ) → (HasPosition set p → ⊥) → between p (suc len) set ≡ between (suc p) len set
unfolding between
between-lacks p len set out = rw (ne_eqb (bit_at set p) 1 out) refl

below-has : (p set : ℕ) → HasPosition set p → positions_below (suc p) set ≡ positions_below p set ++ (p ∷ [])
unfolding positions_below
below-has p set has = rw has refl

below-lacks : (p set : ℕ) → (HasPosition set p → ⊥) → positions_below (suc p) set ≡ positions_below p set
unfolding positions_below
below-lacks p set out = rw (ne_eqb (bit_at set p) 1 out) (append-nil (positions_below p set))

parted_more : (len p set : ℕ) → positions_below (len + suc p) set ≡ positions_below (suc p) set ++ between (suc p) len set → positions_below (suc len + p) set ≡ positions_below p set ++ between p (suc len) set
parted_more len p set rest = elim (has_or_not set p) [
  | inl has ↦
      later ∙ ap (λ t. t ++ between (suc p) len set) (below-has p set has) ∙ append_assoc (positions_below p set) (p ∷ []) (between (suc p) len set)
      ∙ ap (λ t. positions_below p set ++ t) (sym (between-has p len set has))
  | inr out ↦ later ∙ ap (λ t. t ++ between (suc p) len set) (below-lacks p set out) ∙ ap (λ t. positions_below p set ++ t) (sym (between-lacks p len set out))
]
  where
    next : suc len + p ≡ len + suc p
    next = omega arith

    later : positions_below (suc len + p) set ≡ positions_below (suc p) set ++ between (suc p) len set
    later = ap (λ t. positions_below t set) next ∙ rest

parted : (len p set : ℕ) → positions_below (len + p) set ≡ positions_below p set ++ between p len set
unfolding between
parted zero p set = ap (λ t. positions_below t set) (none p) ∙ sym (append-nil (positions_below p set))
  where
    none : (p : ℕ) → 0 + p ≡ p
    none p = omega arith
parted (suc len) p set = parted_more len p set (parted len (suc p) set)

same_below : (p one other : ℕ) → ((q : ℕ) → q < p → bit_at one q ≡ bit_at other q) → positions_below p one ≡ positions_below p other
unfolding positions_below
same_below zero one other same = refl
same_below (suc p) one other same = rw (same p (omega arith)) (ap (λ t. t ++ (if bit_at other p == 1 then p ∷ [] else [])) (same_below p one other (λ q lt. same q (omega arith))))

-- the number of positions in the second part
count_between : (len p set : ℕ) → count_below set (len + p) ≡ count_below set p + length (between p len set)
unfolding between
count_between zero p set =
    let none : 0 + p ≡ p = omega arith in
    let same = ap (count_below set) none in
    let empty : length (between p 0 set) ≡ 0 = refl in
    omega arith
count_between (suc len) p set =
    let rest = count_between len (suc p) set in
    let next : suc len + p ≡ len + suc p = omega arith in
    let later : count_below set (suc len + p) ≡ count_below set (len + suc p) = ap (count_below set) next in
    elim (has_or_not set p) [
      | inl has ↦ let here = ap length (between-has p len set has) in omega (arith, has)
      | inr out ↦ let here = ap length (between-lacks p len set out) in let z = bit-zero set p out in omega arith
    ]

same_count : (p one other : ℕ) → ((q : ℕ) → q < p → bit_at one q ≡ bit_at other q) → count_below one p ≡ count_below other p
same_count zero one other same = refl
same_count (suc p) one other same = let here = same p (omega arith) in let rest = same_count p one other (λ q lt. same q (omega arith)) in omega arith

-- ---- lists in their order

front_alike : (front one other : List ℕ) → slice_cmp nat_cmp (front ++ one) (front ++ other) ≡ slice_cmp nat_cmp one other
front_alike [] one other = refl
front_alike (p ∷ front) one other = ap (λ t. ordering_then t (slice_cmp nat_cmp (front ++ one) (front ++ other))) (itself p) ∙ front_alike front one other
  where
    itself : (p : ℕ) → nat_cmp p p ≡ Equal
    itself p = grind (arith, nat_tests)

none_of_none : (r set : ℕ) → 0 < length (between r 0 set) → ⊥
unfolding between
none_of_none r set h = omega arith

-- a list that begins with p comes before each other one of later positions
first_less : (p r len set : ℕ) (rest : List ℕ) → p < r → 0 < length (between r len set)
    → (slice_cmp nat_cmp (p ∷ rest) (between r len set) ≡ Less) × (slice_cmp nat_cmp (between r len set) (p ∷ rest) ≡ Greater)
first_less p r zero set rest lt some = absurd (none_of_none r set some)
first_less p r (suc len) set rest lt some = elim (has_or_not set r) [
  | inl has ↦ rw (between-has r len set has) (
    ap (λ t. ordering_then t (slice_cmp nat_cmp rest (between (suc r) len set))) (lesser p r lt),
    ap (λ t. ordering_then t (slice_cmp nat_cmp (between (suc r) len set) rest)) (greater p r lt),
  )
  | inr out ↦ rw (between-lacks r len set out) (first_less p (suc r) len set rest (omega arith) (subst (λ t. 0 < length t) (between-lacks r len set out) some))
]
  where
    lesser : (p r : ℕ) → p < r → nat_cmp p r ≡ Less
    lesser p r lt = grind (arith, nat_tests)

    greater : (p r : ℕ) → p < r → nat_cmp r p ≡ Greater
    greater p r lt = grind (arith, nat_tests)

-- of two sets of one size, the list of the one that comes before is less
before_lists : (len one other : ℕ) (b : ComesBefore one other) → count_below one (suc len + b.at) ≡ count_below other (suc len + b.at)
    → (slice_cmp nat_cmp (positions_below (suc len + b.at) one) (positions_below (suc len + b.at) other) ≡ Less)
    × (slice_cmp nat_cmp (positions_below (suc len + b.at) other) (positions_below (suc len + b.at) one) ≡ Greater)
before_lists len one other b same =
    let p = b.at in
    let front = positions_below p other in
    let mine = between (suc p) len one in
    let yours = between (suc p) len other in
    let one_is : positions_below (suc len + p) one ≡ front ++ (p ∷ mine) =
    parted (suc len) p one ∙ ap (λ t. t ++ between p (suc len) one) (same_below p one other b.alike) ∙ ap (λ t. front ++ t) (between-has p len one b.has) in
    let other_is : positions_below (suc len + p) other ≡ front ++ yours =
    parted (suc len) p other ∙ ap (λ t. front ++ t) (between-lacks p len other b.lacks) in
    let fronts = same_count p one other b.alike in
    let mine_long = ap length (between-has p len one b.has) in
    let yours_long = ap length (between-lacks p len other b.lacks) in
    let mine_count = count_between (suc len) p one in
    let yours_count = count_between (suc len) p other in
    let less = first_less p (suc p) len other mine (omega arith) (omega arith) in
    rw (one_is, other_is) (front_alike front (p ∷ mine) yours ∙ less.0, front_alike front yours (p ∷ mine) ∙ less.1)

low_or_high : (n p : ℕ) → (p < n) ⊎ (n ≤ p)
low_or_high n p = grind arith

-- the same for all positions below 16
before_lists_16 : (one other : ℕ) → one < 2 ^ 16 → size_of one ≡ size_of other → ComesBefore one other
    → (slice_cmp nat_cmp (positions_below 16 one) (positions_below 16 other) ≡ Less) × (slice_cmp nat_cmp (positions_below 16 other) (positions_below 16 one) ≡ Greater)
unfolding size_of
before_lists_16 one other fits same b =
    let lt : b.at < 16 = elim (low_or_high 16 b.at) [
      | inl lt ↦ lt
      | inr high ↦ absurd (bit-of_zero one b.at (bit_at_above one 16 b.at fits high) b.has)
    ] in
    let n : suc (15 - b.at) + b.at ≡ 16 = omega arith in
    let P : ℕ → Type 0 = λ t. count_below one t ≡ count_below other t in
    let Q : ℕ → Type 0 = λ t. (slice_cmp nat_cmp (positions_below t one) (positions_below t other) ≡ Less) × (slice_cmp nat_cmp (positions_below t other) (positions_below t one) ≡ Greater) in
    subst Q n (before_lists (15 - b.at) one other b (subst P (sym n) same))

-- the first position below n in which two sets differ
first_difference : (one other n : ℕ) → ((p : ℕ) → p < n → bit_at one p ≡ bit_at other p) ⊎ ((at : ℕ) × ((p : ℕ) → p < at → bit_at one p ≡ bit_at other p) × (bit_at one at ≢ bit_at other at))
first_difference one other zero = inl (λ p lt. absurd (omega arith))
first_difference one other (suc n) = elim (first_difference one other n) [
  | inr found ↦ inr found
  | inl alike ↦ elim (cases_eq (bit_at one n) (bit_at other n)) [
    | inr ne ↦ inr (n, alike, ne)
    | inl e ↦ inl (λ p lt. elim (cases_eq p n) [
      | inl same ↦ rw same e
      | inr ne ↦ alike p (below p n lt ne)
    ])
  ]
]
  where
    below : (p n : ℕ) → p < suc n → (p ≡ n → ⊥) → p < n
    below p n lt ne = grind arith

same_lists : (xs : List ℕ) → slice_cmp nat_cmp xs xs ≡ Equal
same_lists xs = ap (λ t. slice_cmp nat_cmp t t) (sym (append-nil xs)) ∙ front_alike xs [] []

by_lists : (one other : ℕ) → one < 2 ^ 16 → other < 2 ^ 16 → size_of one ≡ size_of other → slice_cmp nat_cmp (positions_below 16 one) (positions_below 16 other) ≡ Less → ComesBefore one other
by_lists one other fits also same less = elim (first_difference one other 16) [
  | inl alike ↦
      let e = same_from_bits_below 16 one other fits also alike in
      absurd (not_equal (sym less ∙ ap (λ t. slice_cmp nat_cmp (positions_below 16 one) (positions_below 16 t)) (sym e) ∙ same_lists (positions_below 16 one)))
  | inr found ↦ elim (has_or_not one found.0) [
    | inl has ↦ record { at = found.0; has = has; lacks = λ too. found.2 (has ∙ sym too); alike = found.1 }
    | inr out ↦
        absurd (not_greater (sym less ∙ (before_lists_16 other one also (sym same)
        (record { at = found.0; has = other_has found.0 out found.2; lacks = out; alike = λ p lt. sym (found.1 p lt) })).1))
  ]
]
  where
    not_equal : Less ≡ Equal → ⊥
    not_equal e = cc

    not_greater : Less ≡ Greater → ⊥
    not_greater e = cc

    other_has : (p : ℕ) → (HasPosition one p → ⊥) → bit_at one p ≢ bit_at other p → HasPosition other p
    other_has p out differ = elim (has_or_not other p) [
      | inl has ↦ has
      | inr too ↦ absurd (differ (bit-zero one p out ∙ sym (bit-zero other p too)))
    ]

less_by_test : (o : Ordering) → IsTrue (is_lt o) → o ≡ Less
less_by_test Less e = refl
less_by_test Equal e = absurd (cc)
less_by_test Greater e = absurd (cc)

pub order_by_lists : (one other : ℕ) → one < 2 ^ 16 → other < 2 ^ 16 → size_of one ≡ size_of other
    → ComesBefore one other ↔ IsTrue (is_lt (slice_cmp nat_cmp (positions_below 16 one) (positions_below 16 other)))
order_by_lists one other fits also same = (
  λ b. ap is_lt (before_lists_16 one other fits same b).0,
  λ e. by_lists one other fits also same (less_by_test (slice_cmp nat_cmp (positions_below 16 one) (positions_below 16 other)) e),
)

-- ---- no two sets are each less than the other

not_both_before : (one other : ℕ) → ComesBefore one other → ComesBefore other one → ⊥
not_both_before one other b d = elim (three b.at d.at) [
  | inl lt ↦ b.lacks (d.alike b.at lt ∙ b.has)
  | inr ge ↦ elim ge [
    | inl e ↦ d.lacks (subst (λ t. HasPosition one t) e b.has)
    | inr gt ↦ d.lacks (b.alike d.at gt ∙ d.has)
  ]
]
  where
    three : (r q : ℕ) → (r < q) ⊎ ((r ≡ q) ⊎ (q < r))
    three r q = grind arith

not_both_less : (one other : ℕ) → IsLess one other → IsLess other one → ⊥
not_both_less one other (inl lt) (inl gt) = omega arith
not_both_less one other (inl lt) (inr b) = let e = b.0 in omega arith
not_both_less one other (inr b) (inl gt) = let e = b.0 in omega arith
not_both_less one other (inr b) (inr d) = not_both_before one other b.1 d.1

pub one_least : (code : CodeRows) (avail wanted one other : ℕ) → IsLeastPlan code avail wanted one → IsLeastPlan code avail wanted other → one ≡ other
one_least code avail wanted one other a b = elim (cases_eq one other) [
  | inl e ↦ e
  | inr ne ↦ absurd (not_both_less one other (a.least other b.available b.decides (λ e. ne (sym e))) (b.least one a.available a.decides ne))
]
