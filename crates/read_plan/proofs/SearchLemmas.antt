-- The first set of a size, by its first position.
use Rattle.std.proofs.Common.{◌≡◌, ◌≢◌, ◌<◌, ◌+◌, ◌^◌, ◌⊎◌, ℕ, List, bit_xor, refl, ap, sym, ◌∙◌, subst, arith, inl, inr}
use Rattle.std.proofs.Common.{Some, None}
use Rattle.std.specs.declared.option.Option.{Option}
use Rattle.std.specs.Prelude.{IfSome, IfNone}
use Rattle.ec_words.specs.declared.mask.Mask.{Mask}
use Rattle.std.specs.Int.{bit_at, w16, trailing_zeros}
use Rattle.std.proofs.lemmas.Bool.{cases_eq}
use Rattle.std.proofs.lemmas.Nat.Bits.{bit_at-zero, same_from_bits, bit_at-trailing_zeros}
use Rattle.ec_model.specs.Codes.{HasPosition}
use Rattle.read_plan.specs.Plans.{LiesIn, size_of, ComesBefore}
use Rattle.read_plan.specs.Settling.{Settles, IsWith, IsTaken, IsFirst, NoneSettles, IsLeastSettling}
use Rattle.read_plan.proofs.SetLemmas.{has_or_not, bit-zero, bit-of_zero, size-with, size-in, size-le, size-none, empty-zero, less_one, in-lt, some_position}

-- the position is another one, and the set has it too
member : (q one other p : ℕ) → IsWith q one other → HasPosition one p → HasPosition other p
member q one other p w has = elim (cases_eq p q) [
  | inl e ↦ absurd (w.lacks (subst (λ t. HasPosition one t) e has))
  | inr ne ↦ w.others p ne ∙ has
]

pub first_of_none : (rows : List (List ℕ)) (avail wanted : ℕ) → avail < 2 ^ 16 → Settles rows 0 wanted → IsFirst rows avail wanted 0 0
first_of_none rows avail wanted fits settles = record {
  available = λ p has. absurd (bit-of_zero 0 p (bit_at-zero p) has);
  large = size-none;
  settles = settles;
  first = λ other inside size _ ne. absurd (ne (empty-zero other avail fits inside size));
}

pub none_of_none : (rows : List (List ℕ)) (avail wanted : ℕ) → avail < 2 ^ 16 → (Settles rows 0 wanted → ⊥) → NoneSettles rows avail wanted 0
none_of_none rows avail wanted fits not other inside size settles = not (subst (λ t. Settles rows t wanted) (empty-zero other avail fits inside size) settles)

pub none_of_few : (rows : List (List ℕ)) (avail wanted size : ℕ) → size_of avail < size → NoneSettles rows avail wanted size
none_of_few rows avail wanted size few other inside large _ = let le = size-in other avail inside in omega arith

-- ---- sets of one position

-- a set of size 1 has one position and no other
one_alone : (set avail : ℕ) → avail < 2 ^ 16 → LiesIn set avail → size_of set ≡ 1 → (q : ℕ) × (q < 16) × IsWith q 0 set
one_alone set avail fits inside large =
    let small = in-lt set avail (2 ^ 16) fits inside in
    let some = some_position set (omega (arith, large)) in
    let found = bit_at-trailing_zeros w16 set some small in
    let q = trailing_zeros w16 set in
    let without = less_one set q found.1 in
    let more = size-with q (bit_xor set (2 ^ q)) set found.0 without in
    let z : bit_xor set (2 ^ q) ≡ 0 = empty-zero (bit_xor set (2 ^ q)) avail fits (λ p has. inside p (member q (bit_xor set (2 ^ q)) set p without has)) (omega (arith, large)) in
    (q, found.0, subst (λ t. IsWith q t set) z without)

no_other : (q p set : ℕ) → IsWith q 0 set → p ≢ q → bit_at set p ≡ 0
no_other q p set w ne = w.others p ne ∙ bit_at-zero p

same_single : (q one other : ℕ) → IsWith q 0 one → IsWith q 0 other → one ≡ other
same_single q one other w v = same_from_bits one other (λ p. elim (cases_eq p q) [
  | inl e ↦ rw e (w.has ∙ sym v.has)
  | inr ne ↦ w.others p ne ∙ sym (v.others p ne)
])

-- no position of `avail` below q settles the wanted rows by itself
abbrev pub NoneBelow : List (List ℕ) → ℕ → ℕ → ℕ → Type 0
NoneBelow rows avail wanted q = (p : ℕ) → p < q → HasPosition avail p → (one : ℕ) → IsWith p 0 one → Settles rows one wanted → ⊥

pub first_single : (rows : List (List ℕ)) (avail wanted q chosen : ℕ) → avail < 2 ^ 16 → q < 16 → HasPosition avail q → IsWith q 0 chosen → Settles rows chosen wanted → NoneBelow rows avail wanted q
    → IsFirst rows avail wanted 1 chosen
first_single rows avail wanted q chosen fits place has w settles none = record {
  available = λ p at. elim (cases_eq p q) [
    | inl e ↦ rw e has
    | inr ne ↦ absurd (bit-of_zero chosen p (no_other q p chosen w ne) at)
  ];
  large = let more = size-with q 0 chosen place w in omega (arith, size-none);
  settles = settles;
  first = λ other inside large settled ne.
      let one = one_alone other avail fits inside large in
      let r = one.0 in
      let v = one.2 in
      elim (three r) [
        | inl lt ↦ absurd (none r lt (inside r v.has) other v settled)
        | inr ge ↦ elim ge [
          | inl e ↦ absurd (ne (same_single q other chosen (subst (λ t. IsWith t 0 other) e v) w))
          | inr gt ↦ record {
            at = q;
            has = w.has;
            lacks = bit-of_zero other q (no_other r q other v (λ e. omega (arith, gt)));
            alike = λ p lt. no_other q p chosen w (λ e. omega (arith, lt)) ∙ sym (no_other r p other v (λ e. omega (arith, lt, gt)));
          }
        ]
      ];
}
  where
    three : (r : ℕ) → (r < q) ⊎ ((r ≡ q) ⊎ (q < r))
    three r = grind arith

pub none_single : (rows : List (List ℕ)) (avail wanted : ℕ) → avail < 2 ^ 16 → NoneBelow rows avail wanted 16 → NoneSettles rows avail wanted 1
none_single rows avail wanted fits none other inside large settles =
    let one = one_alone other avail fits inside large in
    none one.0 one.1 (inside one.0 one.2.has) other one.2 settles

-- the least available position, the others, and what is left of the rows when it is chosen
pub record IsChoice (rows : List (List ℕ)) (avail wanted size less q rest needed : ℕ) (left : List (List ℕ)) : Type 0 where
  pub place : q < 16
  pub one_less : size ≡ less + 1
  pub lowest : (p : ℕ) → p < q → HasPosition avail p → ⊥
  pub others : IsWith q rest avail
  pub kept : LiesIn rest needed
  pub asked : LiesIn wanted needed
  pub taken : IsTaken rows q needed left

module _ (rows : List (List ℕ)) (avail wanted size less q rest needed : ℕ) (left : List (List ℕ)) (h : IsChoice rows avail wanted size less q rest needed left) where
  in_rest : (one other : ℕ) → IsWith q one other → LiesIn other avail → LiesIn one rest
  in_rest one other w inside p has = elim (cases_eq p q) [
    | inl e ↦ absurd (w.lacks (subst (λ t. HasPosition one t) e has))
    | inr ne ↦ sym (h.others.others p ne) ∙ inside p (w.others p ne ∙ has)
  ]

  in_avail : (one : ℕ) → LiesIn one rest → LiesIn one avail
  in_avail one inside p has = elim (cases_eq p q) [
    | inl e ↦ absurd (h.others.lacks (subst (λ t. HasPosition rest t) e (inside p has)))
    | inr ne ↦ h.others.others p ne ∙ inside p has
  ]

  with_in_avail : (one other : ℕ) → IsWith q one other → LiesIn one rest → LiesIn other avail
  with_in_avail one other w inside p has = elim (cases_eq p q) [
    | inl e ↦ subst (λ t. HasPosition avail t) (sym e) h.others.has
    | inr ne ↦ in_avail one inside p (sym (w.others p ne) ∙ has)
  ]

  without_in_rest : (one : ℕ) → (HasPosition one q → ⊥) → LiesIn one avail → LiesIn one rest
  without_in_rest one out inside p has = elim (cases_eq p q) [
    | inl e ↦ absurd (out (subst (λ t. HasPosition one t) e has))
    | inr ne ↦ sym (h.others.others p ne) ∙ inside p has
  ]

  -- a set with q settles what it settles without q in the rows that are left
  fewer : (one other : ℕ) → IsWith q one other → LiesIn other avail → Settles rows other wanted → Settles left one wanted
  fewer one other w inside settles =
      h.taken.fewer one other wanted w (λ p has. h.kept p (in_rest one other w inside p has)) h.asked settles

  -- two sets with q are in the order of what they are without q
  before_with : (one with_one other with_other : ℕ) → IsWith q one with_one → IsWith q other with_other → ComesBefore one other → ComesBefore with_one with_other
  before_with one with_one other with_other w v b = record {
    at = b.at;
    has = elim (cases_eq b.at q) [
      | inl e ↦ rw e w.has
      | inr ne ↦ w.others b.at ne ∙ b.has
    ];
    lacks = λ has. elim (cases_eq b.at q) [
      | inl e ↦ w.lacks (subst (λ t. HasPosition one t) e b.has)
      | inr ne ↦ b.lacks (sym (v.others b.at ne) ∙ has)
    ];
    alike = λ p lt. elim (cases_eq p q) [
      | inl e ↦ rw e (w.has ∙ sym v.has)
      | inr ne ↦ w.others p ne ∙ b.alike p lt ∙ sym (v.others p ne)
    ];
  }

  -- a set with q comes before each set without it
  before_without : (one other : ℕ) → LiesIn one avail → LiesIn other avail → HasPosition one q → (HasPosition other q → ⊥) → ComesBefore one other
  before_without one other inside also has out = record {
    at = q;
    has = has;
    lacks = out;
    alike = λ p lt. bit-zero one p (λ at. h.lowest p lt (inside p at)) ∙ sym (bit-zero other p (λ at. h.lowest p lt (also p at)));
  }

  pub first_with : (found chosen : ℕ) → IsFirst left rest wanted less found → IsWith q found chosen → IsFirst rows avail wanted size chosen
  first_with found chosen f w =
      let inside = with_in_avail found chosen w f.available in
      let large : size_of chosen ≡ size = (let more = size-with q found chosen h.place w in omega (arith, h.one_less, f.large)) in
      record {
        available = inside;
        large = large;
        settles = h.taken.more found chosen wanted w (λ p has. h.kept p (f.available p has)) h.asked f.settles;
        first = λ other also same settles ne. elim (has_or_not other q) [
          | inl has ↦
              let v = less_one other q has in
              let one = bit_xor other (2 ^ q) in
              before_with found chosen one other w v
              (f.first one (in_rest one other v also) (let more = size-with q one other h.place v in omega (arith, h.one_less)) (fewer one other v also settles)
              (λ e. ne (same_from_bits other chosen (λ p. elim (cases_eq p q) [
                | inl d ↦ rw d (v.has ∙ sym w.has)
                | inr nd ↦ v.others p nd ∙ ap (λ t. bit_at t p) e ∙ sym (w.others p nd)
              ]))))
          | inr out ↦ before_without chosen other inside also w.has out
        ];
      }

  pub first_without : (found : ℕ) → NoneSettles left rest wanted less → IsFirst rows rest wanted size found → IsFirst rows avail wanted size found
  first_without found none f = record {
    available = in_avail found f.available;
    large = f.large;
    settles = f.settles;
    first = λ other also same settles ne. elim (has_or_not other q) [
      | inl has ↦ absurd (none_with none other also same settles has)
      | inr out ↦ f.first other (without_in_rest other out also) same settles ne
    ];
  }
    where
      none_with : NoneSettles left rest wanted less → (other : ℕ) → LiesIn other avail → size_of other ≡ size → Settles rows other wanted → HasPosition other q → ⊥
      none_with none other also same settles has =
          let v = less_one other q has in
          let one = bit_xor other (2 ^ q) in
          none one (in_rest one other v also) (let more = size-with q one other h.place v in omega (arith, h.one_less)) (fewer one other v also settles)

  pub none_of_both : NoneSettles left rest wanted less → NoneSettles rows rest wanted size → NoneSettles rows avail wanted size
  none_of_both none more other also same settles = elim (has_or_not other q) [
    | inl has ↦
        let v = less_one other q has in
        let one = bit_xor other (2 ^ q) in
        none one (in_rest one other v also) (let more = size-with q one other h.place v in omega (arith, h.one_less)) (fewer one other v also settles)
    | inr out ↦ more other (without_in_rest other out also) same settles
  ]

  pub first_without_if : (found : Option Mask) → NoneSettles left rest wanted less → IfSome found (λ m. IsFirst rows rest wanted size m.0) → IfSome found (λ m. IsFirst rows avail wanted size m.0)
  first_without_if None none f = f
  first_without_if (Some m) none f = first_without m.0 none f

  pub none_of_both_if : (found : Option Mask) → NoneSettles left rest wanted less → IfNone found (NoneSettles rows rest wanted size) → IfNone found (NoneSettles rows avail wanted size)
  none_of_both_if None none more = none_of_both none more
  none_of_both_if (Some m) none more = more

-- ---- the least set

pub least_of_first : (rows : List (List ℕ)) (avail wanted size found : ℕ) → ((fewer : ℕ) → fewer < size → NoneSettles rows avail wanted fewer) → IsFirst rows avail wanted size found
    → IsLeastSettling rows avail wanted found
least_of_first rows avail wanted size found none f = record {
  available = f.available;
  settles = f.settles;
  least = λ other also settles ne. elim (three (size_of other)) [
    | inl lt ↦ absurd (none (size_of other) lt other also refl settles)
    | inr ge ↦ elim ge [
      | inl e ↦ inr (f.large ∙ sym e, f.first other also e settles ne)
      | inr gt ↦ inl (omega (arith, f.large))
    ]
  ];
}
  where
    three : (other : ℕ) → (other < size) ⊎ ((other ≡ size) ⊎ (size < other))
    three other = grind arith

pub none_at_all : (rows : List (List ℕ)) (avail wanted : ℕ) → ((fewer : ℕ) → fewer < 17 → NoneSettles rows avail wanted fewer) → Settles rows avail wanted → ⊥
none_at_all rows avail wanted none settles = let le = size-le avail in none (size_of avail) (omega arith) avail (λ p has. has) refl settles

pub none_more : (rows : List (List ℕ)) (avail wanted size : ℕ) → ((fewer : ℕ) → fewer < size → NoneSettles rows avail wanted fewer) → NoneSettles rows avail wanted size
    → (fewer : ℕ) → fewer < size + 1 → NoneSettles rows avail wanted fewer
none_more rows avail wanted size none here fewer lt = elim (cases_eq fewer size) [
  | inl e ↦ subst (λ t. NoneSettles rows avail wanted t) (sym e) here
  | inr ne ↦ none fewer (below fewer size lt ne)
]
  where
    below : (p n : ℕ) → p < n + 1 → (p ≡ n → ⊥) → p < n
    below p n lt ne = grind arith
