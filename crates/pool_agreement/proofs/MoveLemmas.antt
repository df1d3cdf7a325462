-- Each move is a transition that leaves the history as it is.
use Rattle.std.proofs.Common.{◌≡◌, ◌≢◌, ◌≤◌, ◌<◌, ◌+◌, ◌*◌, ◌%◌, ◌^◌, ◌++◌, ◌∷◌, [], ◌↔◌, ◌==◌, ◌&&◌, inl, inr, ℕ, zero, suc, Bool, true, false, not, cond, if◌then◌else◌, bit_or, List, Option, Some, None, refl, sym, ap, subst, ◌∙◌, arith, eq-eqb}
use Rattle.std.specs.Int.{bit_at}
use Rattle.std.proofs.lemmas.Bool.{eqb-true, false≢true, and_parts, and_from}
use Rattle.std.proofs.lemmas.Nat.Bits.{bit_at-zero}
use Rattle.ec_model.specs.Codes.{HasPosition}
use Rattle.ec_model.specs.Versions.{Version, is_same}
use Rattle.auth_log.specs.Choice.{Info, IsEligible}
use Rattle.auth_log.specs.Laws.{OnlyUpSlotsCount, AreAlike}
use Rattle.auth_log.specs.States.{IsJoinedSet}
use Rattle.auth_log.proofs.CallerLemmas.{slot_added, slot_left}
use Rattle.rig_disk.specs.Disk.{Image}
use Rattle.rig_disk.specs.During.{During}
use Rattle.rig_disk.proofs.Moments.{weaker}
use Rattle.shard_model.specs.Objects.{Geometry}
use Rattle.shard_model.specs.Replays.{Replay, IsWhole, head, state_of, replay_from}
use Rattle.shard_model.specs.States.{holds}
use Rattle.shard_model.specs.Steps.{Back, Started, Control}
use Rattle.shard_model.proofs.PastLemmas.{first_step}
use Rattle.shard_model.proofs.StepLemmas.{whole_from}
use Rattle.map_model.specs.Sound.{IsSound}
use Rattle.map_model.specs.States.{MapImage, last_epoch}
use Rattle.map_model.specs.States as maps
use Rattle.map_model.specs.Steps.{MapStep, Begin, Alive}
use Rattle.map_model.proofs.SoundLemmas.{step_sound}
use Rattle.pool_map.specs.Maps.{without_profile}
use Rattle.pool_map.specs.Pool.{map_after}
use Rattle.pool_slots.specs.Slots.{start_steps}
use Rattle.pool_moves.specs.Contents.{Contents, with_map}
use Rattle.pool_moves.specs.Instants.{MovedFrom}
use Rattle.pool_moves.specs.Moves.{Starts, Move, Chain, Stays, GoesOn}
use Rattle.pool_moves.specs.Moves as moves
use Rattle.pool_history.specs.Choices.{Chooses, IsHolding}
use Rattle.pool_history.specs.Histories.{History}
use Rattle.pool_history.specs.Images.{IsStoredPool, info_of, peers_of, said_of}
use Rattle.pool_history.specs.Laws.{TransitionsKeepAgreement}
use Rattle.pool_history.specs.Layouts.{Layout, geometry_of}
use Rattle.pool_history.specs.Transitions.{Transition, IntervalBegins, IntervalIsAlive, ShardStarts, MapTakes, ShardTakes, starting_steps}
use Rattle.pool_agreement.specs.Agreement.{AgreesWith, Bears, MovesKeepAgreement, slots_of, stored_of}

some_same : {X : Type 0} (a b : X) → ◌≡◌ {A = Option X} (Some a) (Some b) → a ≡ b
some_same a b e = cc

-- ---- a step of the map

map_taken : (before after : Contents) (step : MapStep) → maps.fits before.map.n before.map.state step ≡ true → after ≡ with_map before (map_after before.map step)
    → MapTakes step (stored_of before) (stored_of after)
map_taken before after step fit is = record {
  fit = fit;
  map = ap (λ (c : Contents). without_profile c.map) is;
  shards = λ p. ap (λ (c : Contents). c.shards p) is;
}

map_stored : (layout : Layout) (before after : Contents) (step : MapStep) → maps.fits before.map.n before.map.state step ≡ true → after ≡ with_map before (map_after before.map step)
    → IsStoredPool layout (stored_of before) → IsStoredPool layout (stored_of after)
map_stored layout before after step fit is s = subst (λ (c : Contents). IsStoredPool layout (stored_of c)) (sym is) (record {
  code = s.code;
  stripes = s.stripes;
  positions = s.positions;
  map = step_sound before.map.n before.map.state step s.map fit;
  shards = s.shards;
  below = s.below;
})

-- ---- the mask of the slots that hold a version

mask_of : (ℕ → Bool) → ℕ → ℕ
mask_of test zero = 0
mask_of test (suc n) = if test n then bit_or (mask_of test n) (1 * 2 ^ n % 2 ^ 16) else mask_of test n

one_more : (n : ℕ) → n + 1 ≡ suc n
one_more n = omega arith

no_bit : (q : ℕ) → bit_at 0 q ≡ 1 → ⊥
no_bit q has = let none = bit_at-zero q in omega (arith, none, has)

of_mask : (test : ℕ → Bool) (n : ℕ) → n ≤ 16 → (q : ℕ) → HasPosition (mask_of test n) q ↔ ((q < n) × (test q ≡ true))
unfolding mask_of
of_mask test zero few = λ q. (λ has. absurd (no_bit q has), λ both. absurd (omega (arith, both.0)))
of_mask test (suc n) few = here (of_mask test n (omega (arith, few))) (test n) refl
  where
    among : ℕ → Type 0
    among q = test q ≡ true

    at_next : (mask : ℕ) → ((q : ℕ) → HasPosition mask q ↔ ((q < n + 1) × among q)) → (q : ℕ) → HasPosition mask q ↔ ((q < suc n) × among q)
    at_next mask each = subst (λ m. (q : ℕ) → HasPosition mask q ↔ ((q < m) × among q)) (one_more n) each

    here : ((q : ℕ) → HasPosition (mask_of test n) q ↔ ((q < n) × among q)) → (b : Bool) → test n ≡ b → (q : ℕ) → HasPosition (if b then bit_or (mask_of test n) (1 * 2 ^ n % 2 ^ 16) else mask_of test n) q ↔ ((q < suc n) × among q)
    here before true is = at_next (bit_or (mask_of test n) (1 * 2 ^ n % 2 ^ 16)) (slot_added among (mask_of test n) n (omega (arith, few)) is before)
    here before false is = at_next (mask_of test n) (slot_left among (mask_of test n) n (λ yes. false≢true (sym is ∙ yes)) before)

-- whether a slot's shard is whole and holds a version
abbrev holder : Geometry → Version → Option Replay → Bool
holder g v None = false
holder g v (Some s) = not s.partial && holds (state_of g s) v

not_true : (b : Bool) → not b ≡ true → b ≡ false
not_true true e = absurd (false≢true e)
not_true false e = refl

not_false : (b : Bool) → b ≡ false → not b ≡ true
not_false b e = ap not e

held_by : (g : Geometry) (v : Version) (o : Option Replay) → holder g v o ≡ true → (s : Replay) × (o ≡ Some s) × (s.partial ≡ false) × (holds (state_of g s) v ≡ true)
held_by g v None e = absurd (false≢true e)
held_by g v (Some s) e =
    let both = and_parts (not s.partial) (holds (state_of g s) v) e in
    (s, refl, not_true s.partial both.0, both.1)

holds_by : (g : Geometry) (v : Version) (o : Option Replay) (s : Replay) → o ≡ Some s → s.partial ≡ false → holds (state_of g s) v ≡ true → holder g v o ≡ true
holds_by g v o s is whole held = ap (holder g v) is ∙ and_from (not s.partial) (holds (state_of g s) v) (not_false s.partial whole) held

-- ---- what the slots choose

module _ (alike : OnlyUpSlotsCount) (layout : Layout) (c : Contents) (stored : IsStoredPool layout (stored_of c)) (up joined : ℕ) (base : Version)
    (chosen : moves.Chooses layout.code (slots_of layout) c up joined base) where
  abbrev test : ℕ → Bool
  test p = holder (geometry_of layout) base (c.shards p)

  few : (p : ℕ) (s : Replay) → c.shards p ≡ Some s → p < 16
  few p s there = omega (arith, stored.below p s there, stored.code.few)

  holding : ℕ
  holding = mask_of test 16

  of_holding : (p : ℕ) → HasPosition holding p ↔ ((p < 16) × (test p ≡ true))
  unfolding holding
  of_holding = of_mask test 16 (omega arith)

  up_of : (p : ℕ) → HasPosition chosen.peers.up p → HasPosition up p
  up_of p = subst (λ m. HasPosition m p) chosen.says.up_is

  are_alike : AreAlike chosen.peers (peers_of (stored_of c) up)
  are_alike = record {
    kept = chosen.says.kept;
    up = chosen.says.up_is;
    said = λ p member. chosen.says.said p (up_of p member);
  }

  -- an eligible slot's shard is whole
  whole_of : (p : ℕ) (info : Info) (s : Replay) → IsEligible chosen.peers p info → c.shards p ≡ Some s → s.partial ≡ false
  whole_of p info s e there =
      let same : info_of s ≡ info = some_same (info_of s) info (sym (chosen.says.said p (up_of p e.up) ∙ ap said_of there) ∙ e.says) in
      ap (λ (i : Info). i.partial) same ∙ e.whole

  is_joined : IsJoinedSet chosen.peers holding joined
  is_joined p = (
    λ member.
        let both = (chosen.members p).0 member in
        let at = both.1 in
        ((of_holding p).1 (few p at.replay at.there, holds_by (geometry_of layout) base (c.shards p) at.replay at.there (whole_of p both.0.0 at.replay both.0.1 at.there) at.held), both.0),
    λ both.
        let h = held_by (geometry_of layout) base (c.shards p) ((of_holding p).0 both.0).1 in
        (chosen.members p).1 (both.1, record { replay = h.0; there = h.1; held = h.3 }),
  )

  is_holding : IsHolding layout (stored_of c) up base holding
  is_holding p member = (
    λ has.
        let h = held_by (geometry_of layout) base (c.shards p) ((of_holding p).0 has).1 in
        record { shard = h.0; has = record { there = h.1; whole = h.2 }; holds = h.3 },
    λ s. (of_holding p).1 (few p s.shard s.has.there, holds_by (geometry_of layout) base (c.shards p) s.shard s.has.there s.has.whole s.holds),
  )

  chooses : Chooses layout (stored_of c) up joined base
  chooses =
      let a = alike layout.code chosen.peers (peers_of (stored_of c) up) are_alike in
      record {
        sufficient = a.sufficient chosen.chosen.sufficient;
        survey = chosen.chosen.survey;
        surveyed = a.surveyed chosen.chosen.survey chosen.chosen.surveyed;
        chosen = chosen.chosen.headed;
        holding = holding;
        held = is_holding;
        joined_set = a.joined holding joined is_joined;
      }

-- ---- a shard starts

same_steps : (epoch : ℕ) (base newest : Version) → start_steps epoch base newest ≡ starting_steps newest base epoch
same_steps epoch base newest = here (is_same newest base)
  where
    here : (b : Bool) → (if b then Control (Started epoch) ∷ [] else Control (Back base) ∷ Control (Started epoch) ∷ []) ≡ cond b [] (Control (Back base) ∷ []) ++ Control (Started epoch) ∷ []
    here true = refl
    here false = refl

-- a shard that is being filled starts nothing
is_whole : (g : Geometry) (s t : Replay) (epoch : ℕ) (base newest : Version) → replay_from g s (start_steps epoch base newest) ≡ Some t → s.partial ≡ false
is_whole g s t epoch base newest = here (is_same newest base)
  where
    here : (b : Bool) → replay_from g s (if b then Control (Started epoch) ∷ [] else Control (Back base) ∷ Control (Started epoch) ∷ []) ≡ Some t → s.partial ≡ false
    here true led = not_true s.partial (and_parts (not s.partial) _ (first_step g s (Control (Started epoch)) [] t led).0).0
    here false led = not_true s.partial (and_parts (not s.partial) _ (first_step g s (Control (Back base)) (Control (Started epoch) ∷ []) t led).0).0

at_same : (p : ℕ) (x y : Option Replay) → (if p == p then x else y) ≡ x
at_same p x y = ap (λ (b : Bool). if b then x else y) (eq-eqb p p refl)

at_other : (q p : ℕ) (x y : Option Replay) → q ≢ p → (if q == p then x else y) ≡ y
at_other q p x y other = here (q == p) refl
  where
    here : (b : Bool) → (q == p) ≡ b → (if b then x else y) ≡ y
    here true is = absurd (other (eqb-true q p is))
    here false is = refl

module _ (layout : Layout) (before after : Contents) (epoch joined : ℕ) (base : Version) (x : Starts (slots_of layout) epoch joined base before after) where
  taken : ShardTakes layout x.p x.was (starting_steps (head x.was) base epoch) (stored_of before) (stored_of after)
  taken = record {
    before = record { there = x.there; whole = is_whole (geometry_of layout) x.was x.now epoch base (head x.was) x.led };
    after = x.now;
    done = ap (replay_from (geometry_of layout) x.was) (sym (same_steps epoch base (head x.was))) ∙ x.led;
    now = ap (λ (c : Contents). c.shards x.p) x.is ∙ at_same x.p (Some x.now) (before.shards x.p);
    elsewhere = λ q other. ap (λ (c : Contents). c.shards q) x.is ∙ at_other q x.p (Some x.now) (before.shards q) other;
    map = ap (λ (c : Contents). without_profile c.map) x.is;
  }

  shard_stored : IsStoredPool layout (stored_of before) → IsStoredPool layout (stored_of after)
  unfolding taken
  shard_stored s = record {
    code = s.code;
    stripes = s.stripes;
    positions = ap (λ (m : MapImage). m.n) taken.map ∙ s.positions;
    map = subst (λ (m : MapImage). IsSound m.n m.state) (sym taken.map) s.map;
    shards = λ q r there. (here q r there (q == x.p) refl).0;
    below = λ q r there. (here q r there (q == x.p) refl).1;
  }
    where
      here : (q : ℕ) (r : Replay) → after.shards q ≡ Some r → (b : Bool) → (q == x.p) ≡ b → IsWhole (geometry_of layout) r × (q < layout.code.n)
      here q r there true is =
          let same : q ≡ x.p = eqb-true q x.p is in
          let now : x.now ≡ r = some_same x.now r (sym taken.now ∙ ap after.shards (sym same) ∙ there) in (
            subst (λ (t : Replay). IsWhole (geometry_of layout) t) now
                (whole_from (geometry_of layout) s.stripes x.was (start_steps epoch base (head x.was)) x.now (s.shards x.p x.was x.there) x.led),
            subst (λ t. t < layout.code.n) (sym same) (s.below x.p x.was x.there),
          )
      here q r there false is =
          let old : before.shards q ≡ Some r = sym (taken.elsewhere q (λ e. false≢true (sym is ∙ eq-eqb q x.p e))) ∙ there in
          (s.shards q r old, s.below q r old)

-- ---- all moves

one_kept : TransitionsKeepAgreement → (layout : Layout) (before after : Contents) (h : History) → AgreesWith layout before h → IsStoredPool layout (stored_of after)
    → Transition layout (stored_of before) h (stored_of after) h → AgreesWith layout after h
one_kept keep layout before after h a stored t =
    record { stored = stored; agrees = (keep layout (stored_of before) (stored_of after) h h a.stored a.agrees t).after }

pub moves_keep : OnlyUpSlotsCount → TransitionsKeepAgreement → MovesKeepAgreement
moves_keep alike keep layout before after h a (inl x) =
    one_kept keep layout before after h a (map_stored layout before after (Begin x.epoch x.up) x.fit x.is a.stored)
    (IntervalBegins (stored_of after) x.epoch x.up (map_taken before after (Begin x.epoch x.up) x.fit x.is))
moves_keep alike keep layout before after h a (inr (inl x)) =
    let step = Alive (last_epoch before.map.state.intervals) x.joined x.base in
    one_kept keep layout before after h a (map_stored layout before after step x.fit x.is a.stored)
    (IntervalIsAlive (stored_of after) (last_epoch before.map.state.intervals) x.up x.joined x.base (map_taken before after step x.fit x.is)
    (chooses alike layout before a.stored x.up x.joined x.base x.chooses))
moves_keep alike keep layout before after h a (inr (inr y)) =
    let x = y.starts in
    one_kept keep layout before after h a (shard_stored layout before after y.epoch y.joined y.base x a.stored)
    (ShardStarts (stored_of after) x.p x.was y.epoch y.joined y.base x.newest x.member
    (taken layout before after y.epoch y.joined y.base x))

-- ---- all instants of a call

module _ (law : MovesKeepAgreement) (layout : Layout) (history : History) where
  chain_keeps : (first last : Contents) → AgreesWith layout first history → Chain (Move layout.code (slots_of layout)) first last → AgreesWith layout last history
  chain_keeps first last is Stays = is
  chain_keeps first last is (GoesOn near far more one) = law layout near far history (chain_keeps first near is more) one

  pub agreed_on : {R : Type 0} (clock : R → ℕ) (images : R → ℕ → Image → List ℕ → Type 0) (old new : R)
      → ((image : Image) (said : List ℕ) → images old (clock old) image said → Bears layout history image)
      → During clock images old new (MovedFrom (Move layout.code (slots_of layout)) (slots_of layout) (images old (clock old)))
      → During clock images old new (λ image said. Bears layout history image)
  agreed_on clock images old new all run =
      weaker clock images old new (MovedFrom (Move layout.code (slots_of layout)) (slots_of layout) (images old (clock old))) (λ image said. Bears layout history image) run
      (λ image said from.
      let was = all from.source said from.was in
      let m = from.moved was.contents was.has in
      record { contents = m.after; has = m.has; agrees = chain_keeps was.contents m.after was.agrees m.chain })
