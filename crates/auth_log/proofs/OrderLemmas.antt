-- The greatest epoch and the least head of sets of slots, one slot after another.
use Rattle.std.proofs.Common.{◌≡◌, ◌<◌, ◌≤◌, ◌+◌, ◌==◌, ◌⊎◌, inl, inr, ℕ, Bool, true, false, if◌then◌else◌, List, Option, Some, None, length, max, refl, sym, ap, ◌∙◌, subst, arith}
use Rattle.std.proofs.Math.ListN.{get_or-eq_default}
use Rattle.std.proofs.lemmas.Bool.{cases_eq, cases_lt, false≢true}
use Rattle.std.specs.Option.{is_some, unwrap_or}
use Rattle.std.proofs.lemmas.Grind.{common_steps}
use Rattle.ec_model.specs.Versions.{Version, is_up_to, zero_version}
use Rattle.auth_log.specs.Choice.{Info, IsEmpty, HasStarted, IsGreatestEpoch, IsLeastHead, said_in}
use Rattle.auth_log.specs.Inner.{IsSaid, IsSaidBelow, IsLeastSoFar, lesser, lesser_of}

-- sets with the same members
pub record AreSame (among others : ℕ → Info → Type 0) : Type 0 where
  pub there : (p : ℕ) (info : Info) → among p info → others p info
  pub back : (p : ℕ) (info : Info) → others p info → among p info

-- a set with one member more
pub record AddsOne (among : ℕ → Info → Type 0) (p : ℕ) (info : Info) (more : ℕ → Info → Type 0) : Type 0 where
  pub keeps : (q : ℕ) (other : Info) → among q other → more q other
  pub has : more p info
  pub no_others : (q : ℕ) (other : Info) → more q other → among q other ⊎ (other ≡ info)

-- ---- one slot after another

pub said_once : (said : ℕ → Option Info) (p : ℕ) (one other : Info) → said p ≡ Some one → said p ≡ Some other → one ≡ other
said_once said p one other a b = ap (λ o. unwrap_or o one) (sym a ∙ b)

below_or_last : (q p : ℕ) → q < p + 1 → (q < p) ⊎ (q ≡ p)
below_or_last q p lt = elim (cases_eq q p) [ inl e ↦ inr e | inr ne ↦ inl (grind arith) ]

pub one_more : (said : ℕ → Option Info) (mask p : ℕ) (info : Info) → IsSaid said mask p info
    → AddsOne (IsSaidBelow said mask p) p info (IsSaidBelow said mask (p + 1))
one_more said mask p info here = record {
  keeps = λ q other h. record { below = omega (arith, h.below); is_said = h.is_said };
  has = record { below = omega arith; is_said = here };
  no_others = λ q other h. elim (below_or_last q p h.below) [
    | inl lt ↦ inl (record { below = lt; is_said = h.is_said })
    | inr e ↦ inr (said_once said p other info (ap said (sym e) ∙ h.is_said.says) here.says)
  ];
}

pub none_more : (said : ℕ → Option Info) (mask p : ℕ) → ((info : Info) → IsSaid said mask p info → ⊥)
    → AreSame (IsSaidBelow said mask p) (IsSaidBelow said mask (p + 1))
none_more said mask p none = record {
  there = λ q other h. record { below = omega (arith, h.below); is_said = h.is_said };
  back = λ q other h. elim (below_or_last q p h.below) [
    | inl lt ↦ record { below = lt; is_said = h.is_said }
    | inr e ↦ absurd (none other (subst (λ t. IsSaid said mask t other) e h.is_said))
  ];
}

pub all_of_list : (infos : List (Option Info)) (mask bound : ℕ) → length infos ≡ 16 → 16 ≤ bound
    → AreSame (IsSaidBelow (said_in infos) mask bound) (IsSaid (said_in infos) mask)
all_of_list infos mask bound long past = record {
  there = λ q other h. h.is_said;
  back = λ q other h. record { below = inside q other h.says; is_said = h };
} where
  inside : (q : ℕ) (other : Info) → said_in infos q ≡ Some other → q < bound
  inside q other says = elim (cases_lt q 16) [
    | inl lt ↦ omega (arith, lt, past)
    | inr ge ↦ absurd (false≢true (ap is_some (sym (get_or-eq_default infos None (omega (arith, long, ge))) ∙ says)))
  ]

-- ---- the greatest epoch

pub greatest_same : (among others : ℕ → Info → Type 0) (epoch : ℕ) → AreSame among others → IsGreatestEpoch among epoch → IsGreatestEpoch others epoch
greatest_same among others epoch same h = record {
  greatest = λ p info m. h.greatest p info (same.back p info m);
  started = elim h.started [
    | inl s ↦ inl (record { p = s.p; info = s.info; is_in = same.there s.p s.info s.is_in; started = s.started })
    | inr e ↦ inr (λ p info m. e.0 p info (same.back p info m), e.1)
  ];
}

pub greatest_more : (among more : ℕ → Info → Type 0) (p epoch : ℕ) (info : Info) → AddsOne among p info more → IsGreatestEpoch among epoch
    → IsGreatestEpoch more (max epoch info.les)
greatest_more among more p epoch info adds h = record { greatest = above; started = reached } where
  above : (q : ℕ) (other : Info) → more q other → other.les ≤ max epoch info.les
  above q other m = elim (adds.no_others q other m) [
    | inl old ↦ let le = h.greatest q other old in omega (arith, le)
    | inr e ↦ let same : other.les ≡ info.les = ap (λ i. i.les) e in omega (arith, same)
  ]

  at_last : max epoch info.les ≡ info.les → HasStarted more (max epoch info.les)
  at_last e = record { p = p; info = info; is_in = adds.has; started = sym e }

  reached : HasStarted more (max epoch info.les) ⊎ (IsEmpty more × (max epoch info.les ≡ 0))
  reached = elim h.started [
    | inl s ↦ elim (cases_eq (max epoch info.les) info.les) [
      | inl e ↦ inl (at_last e)
      | inr ne ↦ inl (record { p = s.p; info = s.info; is_in = adds.keeps s.p s.info s.is_in; started = s.started ∙ kept ne })
    ]
    | inr e ↦ inl (at_last (zero_first e.1))
  ]
    where
      kept : (max epoch info.les ≡ info.les → ⊥) → epoch ≡ max epoch info.les
      kept ne = grind (arith, ne)

      zero_first : epoch ≡ 0 → max epoch info.les ≡ info.les
      zero_first z = omega (arith, z)

-- ---- the least head

pub least_so_far_same : (among others : ℕ → Info → Type 0) (epoch : ℕ) (least : Option Version) → AreSame among others
    → IsLeastSoFar among epoch least → IsLeastSoFar others epoch least
least_so_far_same among others epoch None same h = λ s. h (record { p = s.p; info = s.info; is_in = same.back s.p s.info s.is_in; started = s.started })
least_so_far_same among others epoch (Some version) same h = (
  λ p info m e. h.0 p info (same.back p info m) e,
  record { p = h.1.p; info = h.1.info; is_in = same.there h.1.p h.1.info h.1.is_in; started = h.1.started; headed = h.1.headed },
)

up_to_trans : (a b c : Version) → is_up_to a b ≡ true → is_up_to b c ≡ true → is_up_to a c ≡ true
up_to_trans a b c p q = grind (arith, common_steps)

up_to_refl : (a : Version) → is_up_to a a ≡ true
up_to_refl a = grind (arith, common_steps)

up_to_other : (a b : Version) → is_up_to a b ≡ false → is_up_to b a ≡ true
up_to_other a b p = grind (arith, common_steps)

-- the slots that started the epoch: none is left out if one more slot did not start it
other_epoch : (among more : ℕ → Info → Type 0) (p epoch : ℕ) (info : Info) (least : Option Version) → AddsOne among p info more
    → (info.les ≡ epoch → ⊥) → IsLeastSoFar among epoch least → IsLeastSoFar more epoch least
other_epoch among more p epoch info None adds ne h = λ s. h (elim (adds.no_others s.p s.info s.is_in) [
  | inl old ↦ record { p = s.p; info = s.info; is_in = old; started = s.started }
  | inr e ↦ absurd (ne (sym (ap (λ i. i.les) e) ∙ s.started))
])
other_epoch among more p epoch info (Some version) adds ne h = (
  λ q other m e. elim (adds.no_others q other m) [
    | inl old ↦ h.0 q other old e
    | inr same ↦ absurd (ne (sym (ap (λ i. i.les) same) ∙ e))
  ],
  record { p = h.1.p; info = h.1.info; is_in = adds.keeps h.1.p h.1.info h.1.is_in; started = h.1.started; headed = h.1.headed },
)

-- its head is the least if it is first, or less than the one before
new_head : (among more : ℕ → Info → Type 0) (p epoch : ℕ) (info : Info) → AddsOne among p info more → info.les ≡ epoch
    → ((q : ℕ) (other : Info) → among q other → other.les ≡ epoch → is_up_to info.head other.head ≡ true)
    → IsLeastSoFar more epoch (Some info.head)
new_head among more p epoch info adds at less = (
  λ q other m e. elim (adds.no_others q other m) [
    | inl old ↦ less q other old e
    | inr same ↦ subst (λ i. is_up_to info.head i.head ≡ true) (sym same) (up_to_refl info.head)
  ],
  record { p = p; info = info; is_in = adds.has; started = at; headed = refl },
)

same_epoch : (among more : ℕ → Info → Type 0) (p epoch : ℕ) (info : Info) (least : Option Version) → AddsOne among p info more
    → info.les ≡ epoch → IsLeastSoFar among epoch least → IsLeastSoFar more epoch (Some (lesser_of least info.head))
same_epoch among more p epoch info None adds at h =
    new_head among more p epoch info adds at (λ q other m e. absurd (h (record { p = q; info = other; is_in = m; started = e })))
same_epoch among more p epoch info (Some version) adds at h = by_order (is_up_to version info.head) refl where
  by_order : (b : Bool) → is_up_to version info.head ≡ b → IsLeastSoFar more epoch (Some (if is_up_to version info.head then version else info.head))
  by_order true b =
      rw b (
        λ q other m e. elim (adds.no_others q other m) [
          | inl old ↦ h.0 q other old e
          | inr same ↦ subst (λ i. is_up_to version i.head ≡ true) (sym same) b
        ],
        record { p = h.1.p; info = h.1.info; is_in = adds.keeps h.1.p h.1.info h.1.is_in; started = h.1.started; headed = h.1.headed },
      )
  by_order false b =
      rw b (new_head among more p epoch info adds at
      (λ q other m e. up_to_trans info.head version other.head (up_to_other version info.head b) (h.0 q other m e)))

pub least_more : (among more : ℕ → Info → Type 0) (p epoch : ℕ) (info : Info) (least : Option Version) → AddsOne among p info more
    → IsLeastSoFar among epoch least → IsLeastSoFar more epoch (lesser epoch least info)
least_more among more p epoch info least adds h = by_epoch (info.les == epoch) refl where
  by_epoch : (b : Bool) → (info.les == epoch) ≡ b → IsLeastSoFar more epoch (if info.les == epoch then Some (lesser_of least info.head) else least)
  by_epoch true b = rw b (same_epoch among more p epoch info least adds (grind (arith, b)) h)
  by_epoch false b = rw b (other_epoch among more p epoch info least adds (λ e. grind (arith, b)) h)

pub least_is_head : (among : ℕ → Info → Type 0) (epoch : ℕ) (least : Option Version) → IsLeastSoFar among epoch least
    → IsLeastHead among epoch (unwrap_or least zero_version)
least_is_head among epoch None h = record { least = λ p info m e. absurd (h (record { p = p; info = info; is_in = m; started = e })); headed = inr (h, refl) }
least_is_head among epoch (Some version) h = record { least = h.0; headed = inl h.1 }

pub least_head_same : (among others : ℕ → Info → Type 0) (epoch : ℕ) (version : Version) → AreSame among others → IsLeastHead among epoch version
    → IsLeastHead others epoch version
least_head_same among others epoch version same h = record {
  least = λ p info m e. h.least p info (same.back p info m) e;
  headed = elim h.headed [
    | inl s ↦ inl (record { p = s.p; info = s.info; is_in = same.there s.p s.info s.is_in; started = s.started; headed = s.headed })
    | inr none ↦ inr (λ s. none.0 (record { p = s.p; info = s.info; is_in = same.back s.p s.info s.is_in; started = s.started }), none.1)
  ];
}
