-- What holds of each choice.
use Rattle.std.proofs.Common.{◌^◌, ◌≡◌, ◌<◌, ◌≤◌, ◌⊎◌, inl, inr, ℕ, true, bit_and, sym, ap, ◌∙◌, subst, arith}
use Rattle.std.specs.Int.{bit_at}
use Rattle.std.proofs.lemmas.Bool.{cases_eq}
use Rattle.std.proofs.lemmas.Grind.{common_steps}
use Rattle.std.proofs.lemmas.Nat.Bits.{bit_at-lt, bit_at_and, same_from_bits}
use Rattle.ec_model.specs.Codes.{CodeRows, HasPosition, count_below}
use Rattle.ec_model.specs.Versions.{Version, is_up_to}
use Rattle.auth_log.specs.Choice.{Info, PeeringInput, Survey, IsEligible, IsGreatestEpoch, IsLeastHead, IsSurvey, IsSufficient, IsUndecided, IsBlocked, DecidesAll}
use Rattle.auth_log.specs.States.{State, Down, Short, Active, IsJoinedSet, Joins, IsUnheld, IsState}
use Rattle.auth_log.specs.Laws.{with_up, IsGreater}
use Rattle.auth_log.proofs.SurveyLemmas.{some_survey}

-- ---- one mask, one epoch, one version

bit_of : (a b : ℕ) → a < 2 → b < 2 → (a ≡ 1 → b ≡ 1) → (b ≡ 1 → a ≡ 1) → a ≡ b
bit_of a b la lb there back = elim (cases_eq a 1) [
  | inl e ↦ let f = there e in omega (arith, e, f)
  | inr ne ↦ elim (cases_eq b 1) [ inl f ↦ absurd (ne (back f)) | inr nf ↦ grind (arith, ne, nf) ]
]

pub same_mask : (one other : ℕ) → ((p : ℕ) → HasPosition one p → HasPosition other p) → ((p : ℕ) → HasPosition other p → HasPosition one p) → one ≡ other
same_mask one other there back = same_from_bits one other (λ p. bit_of (bit_at one p) (bit_at other p) (bit_at-lt one p) (bit_at-lt other p) (there p) (back p))

no_later : (among others : ℕ → Info → Type 0) (one other : ℕ) → ((p : ℕ) (info : Info) → among p info → others p info)
    → IsGreatestEpoch among one → IsGreatestEpoch others other → one ≤ other
no_later among others one other there a b = elim a.started [
  | inl s ↦ let le = b.greatest s.p s.info (there s.p s.info s.is_in) in omega (arith, le, s.started)
  | inr none ↦ omega (arith, none.1)
]

one_epoch : (among : ℕ → Info → Type 0) (one other : ℕ) → IsGreatestEpoch among one → IsGreatestEpoch among other → one ≡ other
one_epoch among one other a b =
    let le = no_later among among one other (λ p info m. m) a b in
    let ge = no_later among among other one (λ p info m. m) b a in
    omega (arith, le, ge)

head_up_to : (among : ℕ → Info → Type 0) (epoch : ℕ) (one other : Version) → IsLeastHead among epoch one → IsLeastHead among epoch other
    → is_up_to one other ≡ true
head_up_to among epoch one other a b = elim b.headed [
  | inl h ↦ subst (λ v. is_up_to one v ≡ true) h.headed (a.least h.p h.info h.is_in h.started)
  | inr none ↦ elim a.headed [
    | inl h ↦ absurd (none.0 (record { p = h.p; info = h.info; is_in = h.is_in; started = h.started }))
    | inr also ↦ let same = also.1 ∙ sym none.1 in subst (λ v. is_up_to one v ≡ true) same (to_itself one)
  ]
] where
  to_itself : (v : Version) → is_up_to v v ≡ true
  to_itself v = grind (arith, common_steps)

same_version : (a b : Version) → is_up_to a b ≡ true → is_up_to b a ≡ true → a ≡ b
same_version a b p q =
    let e : a.epoch ≡ b.epoch = grind (arith, common_steps) in
    let s : a.seq ≡ b.seq = grind (arith, common_steps) in
    λ i. record { epoch = e i; seq = s i }

one_head : (among : ℕ → Info → Type 0) (epoch : ℕ) (one other : Version) → IsLeastHead among epoch one → IsLeastHead among epoch other → one ≡ other
one_head among epoch one other a b = same_version one other (head_up_to among epoch one other a b) (head_up_to among epoch other one b a)

pub one_survey : (peers : PeeringInput) (one other : Survey) → IsSurvey peers one → IsSurvey peers other → one ≡ other
one_survey peers one other a b =
    let mask : one.eligible ≡ other.eligible =
    same_mask one.eligible other.eligible (λ p has. (b.eligible p).1 ((a.eligible p).0 has)) (λ p has. (a.eligible p).1 ((b.eligible p).0 has)) in
    let epoch : one.epoch ≡ other.epoch = one_epoch (IsEligible peers) one.epoch other.epoch a.epoch b.epoch in
    let version : one.version ≡ other.version =
    one_head (IsEligible peers) other.epoch one.version other.version (subst (λ e. IsLeastHead (IsEligible peers) e one.version) epoch a.version) b.version in
    λ i. record { eligible = mask i; epoch = epoch i; version = version i }

-- ---- a greater set

more_eligible : (peers : PeeringInput) (more : ℕ) → IsGreater peers.up more → (p : ℕ) (info : Info) → IsEligible peers p info → IsEligible (with_up more peers) p info
more_eligible peers more greater p info e = record { up = greater p e.up; says = e.says; whole = e.whole; joined = e.joined; base = e.base; started = e.started }

pub no_older_epoch : (peers : PeeringInput) (more : ℕ) (one other : Survey) → IsGreater peers.up more → IsSurvey peers one → IsSurvey (with_up more peers) other
    → one.epoch ≤ other.epoch
no_older_epoch peers more one other greater a b =
    no_later (IsEligible peers) (IsEligible (with_up more peers)) one.epoch other.epoch (more_eligible peers more greater) a.epoch b.epoch

-- a greater set decides as much
pub decides_more : (code : CodeRows) (one other : ℕ) → ((p : ℕ) → HasPosition one p → HasPosition other p) → DecidesAll code one → DecidesAll code other
decides_more code one other greater d p lt = record { agree = λ a b is_a is_b same. (d p lt).agree a b is_a is_b (λ q lq has. same q lq (greater q has)) }

both_more : (joined one other : ℕ) → ((p : ℕ) → HasPosition one p → HasPosition other p)
    → (p : ℕ) → HasPosition (bit_and joined one) p → HasPosition (bit_and joined other) p
both_more joined one other greater p has =
    let before = bit_at_and joined one p in
    let after = bit_at_and joined other p in
    let few = bit_at-lt one p in
    let bits = bit_at-lt joined p in
    let member : HasPosition one p = omega (arith, before, few, bits, has) in
    let kept : HasPosition joined p = omega (arith, before, few, bits, has) in
    let still = greater p member in
    omega (arith, after, kept, still)

greater_with : (code : CodeRows) (peers : PeeringInput) (more : ℕ) (survey : Survey) → IsGreater peers.up more → IsSurvey (with_up more peers) survey
    → IsSufficient code peers → IsSufficient code (with_up more peers)
greater_with code peers more survey greater s good = record {
  survey = survey;
  surveyed = s;
  decided = λ epoch joined base w late.
      let older = no_older_epoch peers more good.survey survey greater good.surveyed s in
      decides_more code (bit_and joined good.survey.eligible) (bit_and joined survey.eligible)
      (both_more joined good.survey.eligible survey.eligible
      (λ p has. let found = (good.surveyed.eligible p).0 has in (s.eligible p).1 (found.0, more_eligible peers more greater p found.0 found.1)))
      (good.decided epoch joined base w (omega (arith, older, late)));
}

pub greater_is_sufficient : (code : CodeRows) (peers : PeeringInput) (more : ℕ) → more < 2 ^ 16 → IsGreater peers.up more → IsSufficient code peers
    → IsSufficient code (with_up more peers)
greater_is_sufficient code peers more few greater good =
    let there = some_survey (with_up more peers) few in greater_with code peers more there.0 greater there.1 good

-- ---- sufficient or blocked, and one state

pub blocked_not_sufficient : (code : CodeRows) (peers : PeeringInput) (epoch up : ℕ) → IsBlocked code peers epoch up → IsSufficient code peers → ⊥
blocked_not_sufficient code peers epoch up b good =
    let same = one_survey peers good.survey b.survey good.surveyed b.surveyed in
    let late = subst (λ s. s.epoch ≤ epoch) (sym same) b.undecided.late in
    b.undecided.undecided (subst (λ s. DecidesAll code (bit_and b.undecided.joined s.eligible)) same (good.decided epoch b.undecided.joined b.undecided.base b.undecided.alive late))

pub one_blocked : (code : CodeRows) (peers : PeeringInput) (epoch up other slots : ℕ) → IsBlocked code peers epoch up → IsBlocked code peers other slots
    → (epoch ≡ other) × (up ≡ slots)
one_blocked code peers epoch up other slots a b =
    let same = one_survey peers a.survey b.survey a.surveyed b.surveyed in
    let le = a.least other (subst (λ s. IsUndecided code peers s other) (sym same) b.undecided) in
    let ge = b.least epoch (subst (λ s. IsUndecided code peers s epoch) same a.undecided) in
    (omega (arith, le, ge), a.slots ∙ ap (λ s. s.eligible) same ∙ sym b.slots)

one_joined_set : (peers : PeeringInput) (holds one other : ℕ) → IsJoinedSet peers holds one → IsJoinedSet peers holds other → one ≡ other
one_joined_set peers holds one other a b = same_mask one other (λ p has. (b p).1 ((a p).0 has)) (λ p has. (a p).1 ((b p).0 has))

one_unheld : (code : CodeRows) (peers : PeeringInput) (holds epoch up other slots : ℕ) → IsUnheld code peers holds epoch up
    → IsUnheld code peers holds other slots → Down epoch up ≡ Down other slots
one_unheld code peers holds epoch up other slots a b =
    let same = one_survey peers a.survey b.survey a.surveyed b.surveyed in
    let epochs = a.started ∙ ap (λ s. s.epoch) same ∙ sym b.started in
    let masks = a.slots ∙ ap (λ s. s.eligible) same ∙ sym b.slots in
    ap (λ e. Down e up) epochs ∙ ap (Down other) masks

held_or_not : (code : CodeRows) (peers : PeeringInput) (holds epoch up joined : ℕ) → IsUnheld code peers holds epoch up → Joins code peers holds joined → ⊥
held_or_not code peers holds epoch up joined u j =
    u.undecided (subst (DecidesAll code) (one_joined_set peers holds joined u.joined j.joined_set u.joined_set) j.decides)

down_or_up : (code : CodeRows) (peers : PeeringInput) (holds epoch up joined : ℕ) → IsBlocked code peers epoch up ⊎ IsUnheld code peers holds epoch up
    → Joins code peers holds joined → ⊥
down_or_up code peers holds epoch up joined (inl b) j = blocked_not_sufficient code peers epoch up b j.sufficient
down_or_up code peers holds epoch up joined (inr u) j = held_or_not code peers holds epoch up joined u j

one_joining : (code : CodeRows) (peers : PeeringInput) (holds one other : ℕ) → Joins code peers holds one → Joins code peers holds other → one ≡ other
one_joining code peers holds one other a b = one_joined_set peers holds one other a.joined_set b.joined_set

pub one_state : (code : CodeRows) (peers : PeeringInput) (min holds : ℕ) (one other : State) → IsState code peers min holds one → IsState code peers min holds other
    → one ≡ other
one_state code peers min holds (Down epoch up) (Down other slots) (inl a) (inl b) =
    let same = one_blocked code peers epoch up other slots a b in ap (λ e. Down e up) same.0 ∙ ap (Down other) same.1
one_state code peers min holds (Down epoch up) (Down other slots) (inl a) (inr b) = absurd (blocked_not_sufficient code peers epoch up a b.sufficient)
one_state code peers min holds (Down epoch up) (Down other slots) (inr a) (inl b) = absurd (blocked_not_sufficient code peers other slots b a.sufficient)
one_state code peers min holds (Down epoch up) (Down other slots) (inr a) (inr b) = one_unheld code peers holds epoch up other slots a b
one_state code peers min holds (Down epoch up) (Short joined least) a b = absurd (down_or_up code peers holds epoch up joined a b.0)
one_state code peers min holds (Down epoch up) (Active joined) a b = absurd (down_or_up code peers holds epoch up joined a b.0)
one_state code peers min holds (Short joined least) (Down epoch up) a b = absurd (down_or_up code peers holds epoch up joined b a.0)
one_state code peers min holds (Active joined) (Down epoch up) a b = absurd (down_or_up code peers holds epoch up joined b a.0)
one_state code peers min holds (Short one least) (Short other most) a b =
    ap (λ j. Short j least) (one_joining code peers holds one other a.0 b.0) ∙ ap (Short other) (a.1.1 ∙ sym b.1.1)
one_state code peers min holds (Active one) (Active other) a b = ap Active (one_joining code peers holds one other a.0 b.0)
one_state code peers min holds (Short one least) (Active other) a b =
    let same = one_joining code peers holds one other a.0 b.0 in
    let le = subst (λ t. min ≤ count_below t code.n) (sym same) b.1 in
    absurd (omega (arith, a.1.0, le))
one_state code peers min holds (Active one) (Short other least) a b =
    let same = one_joining code peers holds one other a.0 b.0 in
    let lt = subst (λ t. count_below t code.n < min) (sym same) b.1.0 in
    absurd (omega (arith, a.1, lt))
