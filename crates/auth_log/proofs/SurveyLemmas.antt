-- There is a survey of any slots.
use Rattle.std.proofs.Common.{◌≡◌, ◌↔◌, ◌<◌, ◌≤◌, ◌+◌, ◌*◌, ◌%◌, ◌^◌, bit_or, ◌⊎◌, inl, inr, ℕ, zero, suc, Bool, true, false, Option, Some, None, max, refl, sym, ap, ◌∙◌, subst, arith}
use Rattle.std.specs.Int.{bit_at}
use Rattle.std.specs.List.{list_any}
use Rattle.std.specs.Option.{is_some, unwrap_or}
use Rattle.std.proofs.lemmas.Bool.{cases_eq, cases_lt, false≢true}
use Rattle.std.proofs.lemmas.Nat.Bits.{bit_at-zero, bit_at_above}
use Rattle.ec_model.specs.Codes.{HasPosition}
use Rattle.ec_model.specs.Versions.{Version, zero_version}
use Rattle.auth_log.specs.Choice.{Info, PeeringInput, Survey, IsEligible, HasAll, IsGreatestEpoch, IsSurvey}
use Rattle.auth_log.specs.Inner.{IsSaid, IsSaidBelow, IsLeastSoFar, lesser}
use Rattle.auth_log.proofs.OrderLemmas.{AreSame, said_once, one_more, none_more, greatest_same, greatest_more, least_so_far_same, least_more, least_is_head, least_head_same}
use Rattle.auth_log.proofs.EligibleLemmas.{is_alive_in, alive_passes, passes_alive, slot_added, slot_left, eligible_said}

none_some : (info : Info) → ◌≡◌ {A = Option Info} None (Some info) → ⊥
none_some info e = false≢true (ap is_some e)

-- ---- whether a slot is eligible

abbrev pub AnyEligible : PeeringInput → ℕ → Type 0
AnyEligible peers p = (info : Info) × IsEligible peers p info

by_info : (peers : PeeringInput) (p : ℕ) (info : Info) → HasPosition peers.up p → peers.said p ≡ Some info
    → AnyEligible peers p ⊎ (AnyEligible peers p → ⊥)
by_info peers p info up says = go info.partial (list_any (is_alive_in info.les) peers.kept) refl refl where
  same : (e : AnyEligible peers p) → e.0 ≡ info
  same e = said_once peers.said p e.0 info e.1.says says

  go : (partial alive : Bool) → info.partial ≡ partial → list_any (is_alive_in info.les) peers.kept ≡ alive
      → AnyEligible peers p ⊎ (AnyEligible peers p → ⊥)
  go true alive a b = inr (λ e. false≢true (sym e.1.whole ∙ ap (λ i. i.partial) (same e) ∙ a))
  go false false a b =
      inr (λ e. false≢true (sym b ∙ sym (ap (λ i. list_any (is_alive_in i.les) peers.kept) (same e)) ∙ alive_passes peers.kept e.0.les e.1.joined e.1.base e.1.started))
  go false true a b =
      let started = passes_alive peers.kept info.les b in
      inl (info, record { up = up; says = says; whole = a; joined = started.0; base = started.1.0; started = started.1.1 })

by_said : (peers : PeeringInput) (p : ℕ) → HasPosition peers.up p → (o : Option Info) → peers.said p ≡ o → AnyEligible peers p ⊎ (AnyEligible peers p → ⊥)
by_said peers p up None says = inr (λ e. absurd (none_some e.0 (sym says ∙ e.1.says)))
by_said peers p up (Some info) says = by_info peers p info up says

eligible_or_not : (peers : PeeringInput) (p : ℕ) → AnyEligible peers p ⊎ (AnyEligible peers p → ⊥)
eligible_or_not peers p = elim (cases_eq (bit_at peers.up p) 1) [
  | inl up ↦ by_said peers p up (peers.said p) refl
  | inr down ↦ inr (λ e. down e.1.up)
]

-- ---- the mask, the epoch and the version

mask_below : (peers : PeeringInput) (n : ℕ) → n ≤ 16 → (mask : ℕ) × ((p : ℕ) → HasPosition mask p ↔ ((p < n) × AnyEligible peers p))
mask_below peers zero few = (0, λ p. (λ has. absurd (none p has), λ found. absurd (omega (arith, found.0)))) where
  none : (q : ℕ) → HasPosition 0 q → ⊥
  none q has = let z = bit_at-zero q in omega arith
mask_below peers (suc n) few = step (mask_below peers n (omega (arith, few))) (eligible_or_not peers n) where
  next : n + 1 ≡ suc n
  next = omega arith

  Below : ℕ → Type 0
  Below t = (mask : ℕ) × ((p : ℕ) → HasPosition mask p ↔ ((p < t) × AnyEligible peers p))

  step : Below n → AnyEligible peers n ⊎ (AnyEligible peers n → ⊥) → Below (suc n)
  step so_far (inl here) =
      subst Below next (bit_or so_far.0 (1 * 2 ^ n % 2 ^ 16), slot_added (AnyEligible peers) so_far.0 n (omega (arith, few)) here so_far.1)
  step so_far (inr none) = subst Below next (so_far.0, slot_left (AnyEligible peers) so_far.0 n none so_far.1)

inside : (mask p : ℕ) → mask < 2 ^ 16 → HasPosition mask p → p < 16
inside mask p few has = elim (cases_lt p 16) [ inl lt ↦ lt | inr ge ↦ let none = bit_at_above mask 16 p few ge in absurd (omega (arith, none, has)) ]

eligible_mask : (peers : PeeringInput) → peers.up < 2 ^ 16 → (mask : ℕ) × HasAll (IsEligible peers) mask
eligible_mask peers few =
    let below = mask_below peers 16 (omega arith) in
    (below.0, λ p. (λ has. ((below.1 p).0 has).1, λ found. (below.1 p).1 (inside peers.up p few found.1.up, found)))

said_or_not : (said : ℕ → Option Info) (mask p : ℕ) → ((info : Info) × IsSaid said mask p info) ⊎ ((info : Info) → IsSaid said mask p info → ⊥)
said_or_not said mask p = elim (cases_eq (bit_at mask p) 1) [ inl has ↦ by_option has (said p) refl | inr out ↦ inr (λ info h. out h.member) ] where
  by_option : HasPosition mask p → (o : Option Info) → said p ≡ o → ((info : Info) × IsSaid said mask p info) ⊎ ((info : Info) → IsSaid said mask p info → ⊥)
  by_option has None e = inr (λ info h. absurd (none_some info (sym e ∙ h.says)))
  by_option has (Some info) e = inl (info, record { member = has; says = e })

epoch_below : (said : ℕ → Option Info) (mask n : ℕ) → (epoch : ℕ) × IsGreatestEpoch (IsSaidBelow said mask n) epoch
epoch_below said mask zero =
    (0, record { greatest = λ p info m. absurd (omega (arith, m.below)); started = inr (λ p info m. absurd (omega (arith, m.below)), refl) })
epoch_below said mask (suc n) = step (epoch_below said mask n) (said_or_not said mask n) where
  next : n + 1 ≡ suc n
  next = omega arith

  step : (epoch : ℕ) × IsGreatestEpoch (IsSaidBelow said mask n) epoch
      → ((info : Info) × IsSaid said mask n info) ⊎ ((info : Info) → IsSaid said mask n info → ⊥)
      → (epoch : ℕ) × IsGreatestEpoch (IsSaidBelow said mask (suc n)) epoch
  step so_far (inl here) = (
    max so_far.0 here.0.les,
    subst (λ t. IsGreatestEpoch (IsSaidBelow said mask t) (max so_far.0 here.0.les)) next
        (greatest_more _ _ n so_far.0 here.0 (one_more said mask n here.0 here.1) so_far.1),
  )
  step so_far (inr none) = (
    so_far.0,
    subst (λ t. IsGreatestEpoch (IsSaidBelow said mask t) so_far.0) next
        (greatest_same _ _ so_far.0 (none_more said mask n none) so_far.1),
  )

least_below : (said : ℕ → Option Info) (mask epoch n : ℕ) → (least : Option Version) × IsLeastSoFar (IsSaidBelow said mask n) epoch least
least_below said mask epoch zero = (None, λ s. absurd (omega (arith, s.is_in.below)))
least_below said mask epoch (suc n) = step (least_below said mask epoch n) (said_or_not said mask n) where
  next : n + 1 ≡ suc n
  next = omega arith

  step : (least : Option Version) × IsLeastSoFar (IsSaidBelow said mask n) epoch least
      → ((info : Info) × IsSaid said mask n info) ⊎ ((info : Info) → IsSaid said mask n info → ⊥)
      → (least : Option Version) × IsLeastSoFar (IsSaidBelow said mask (suc n)) epoch least
  step so_far (inl here) = (
    lesser epoch so_far.0 here.0,
    subst (λ t. IsLeastSoFar (IsSaidBelow said mask t) epoch (lesser epoch so_far.0 here.0)) next
        (least_more _ _ n epoch here.0 so_far.0 (one_more said mask n here.0 here.1) so_far.1),
  )
  step so_far (inr none) = (
    so_far.0,
    subst (λ t. IsLeastSoFar (IsSaidBelow said mask t) epoch so_far.0) next
        (least_so_far_same _ _ epoch so_far.0 (none_more said mask n none) so_far.1),
  )

pub some_survey : (peers : PeeringInput) → peers.up < 2 ^ 16 → (survey : Survey) × IsSurvey peers survey
some_survey peers few = (
  record { eligible = mask; epoch = epoch; version = version },
  record {
    eligible = all;
    epoch = greatest_same _ _ epoch below_16 (epoch_below peers.said mask 16).1;
    version = least_head_same _ _ epoch version below_16 (least_is_head _ epoch (least_below peers.said mask epoch 16).0 (least_below peers.said mask epoch 16).1);
  },
) where
  mask : ℕ
  mask = (eligible_mask peers few).0

  all : HasAll (IsEligible peers) mask
  all = (eligible_mask peers few).1

  epoch : ℕ
  epoch = (epoch_below peers.said mask 16).0

  version : Version
  version = unwrap_or (least_below peers.said mask epoch 16).0 zero_version

  below_16 : AreSame (IsSaidBelow peers.said mask 16) (IsEligible peers)
  below_16 = let same = eligible_said peers mask all in record {
    there = λ p info h. same.there p info h.is_said;
    back = λ p info e. record { below = inside peers.up p few e.up; is_said = same.back p info e };
  }
