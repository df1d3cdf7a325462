-- The contents of a new pool agree with the first history.
use Rattle.std.proofs.Common.{◌≡◌, ◌⊎◌, inl, inr, ◌<◌, ◌+◌, ◌*◌, ◌^◌, nat_lt, ◌∷◌, [], slice_get, ℕ, zero, suc, Bool, true, false, Option, Some, None, refl, sym, ap, subst, ◌∙◌, arith, eq-eqb}
use Rattle.std.specs.Prelude.{bit_and}
use Rattle.std.proofs.lemmas.Bool.Decides.{nat_tests}
use Rattle.std.proofs.lemmas.Nat.{pow_pos}
use Rattle.std.specs.Int.Bits.{and_self}
use Rattle.std.proofs.lemmas.Nat.Bits.{bit_at_ones}
use Rattle.std.proofs.Math.Pow.{pow-lt, ones_lt}
use Rattle.rig_disk.specs.Disk.{Image}
use Rattle.ec_code.specs.declared.profile.Profile.{Profile}
use Rattle.ec_model.specs.Codes.{IsCode}
use Rattle.ec_model.specs.Versions.{Version, zero_version}
use Rattle.ec_words.specs.Intervals.{Interval}
use Rattle.shard_model.specs.Replays.{Replay, replay_of}
use Rattle.shard_model.proofs.StepLemmas.{whole_replay}
use Rattle.shard_store.specs.Stories.{first_steps}
use Rattle.slot_journal.specs.InUse.{text_in_use}
use Rattle.map_model.specs.States.{is_inside}
use Rattle.pool_map.specs.Maps.{PoolImage, IsNoPool}
use Rattle.pool_map.specs.Pool.{all_of, first_interval, new_map}
use Rattle.map_model.specs.Sound.{IsOfPool, IsSound}
use Rattle.pool_moves.specs.Contents.{Contents}
use Rattle.pool_moves.specs.Creating.{IsFirst, HasNoneOrFirst}
use Rattle.pool_history.specs.Histories.{first_history}
use Rattle.pool_history.specs.Images.{IsStoredPool}
use Rattle.pool_history.specs.Laws.{NewPoolsAgree}
use Rattle.pool_history.specs.Laws as laws
use Rattle.pool_history.specs.Layouts.{Layout, geometry_of}
use Rattle.pool_agreement.specs.Agreement.{Bears, FirstContentsAgree, slots_of, stored_of}

none_some : {X : Type 0} (a : X) → ◌≡◌ {A = Option X} None (Some a) → ⊥
none_some a e = cc

some_same : {X : Type 0} (a b : X) → ◌≡◌ {A = Option X} (Some a) (Some b) → a ≡ b
some_same a b e = cc

-- ---- the first interval

some_ones : (n : ℕ) → 0 < n → 0 < all_of n
some_ones n positive = let more : 2 ^ 0 < 2 ^ n = pow-lt positive in omega (arith, more)

first_of_pool : (n : ℕ) → 0 < n → IsOfPool n (first_interval n)
first_of_pool n positive = record {
  early = omega arith;
  up = ones_lt n;
  some = λ joined base alive. subst (λ (j : ℕ). 0 < j) (ap (λ (p : ℕ × Version). p.0) (some_same (all_of n, zero_version) (joined, base) alive)) (some_ones n positive);
  inside = λ joined base alive. subst (λ (j : ℕ). is_inside j (all_of n) ≡ true) (ap (λ (p : ℕ × Version). p.0) (some_same (all_of n, zero_version) (joined, base) alive)) (itself (all_of n));
}
  where
    itself : (mask : ℕ) → is_inside mask mask ≡ true
    itself mask = eq-eqb (bit_and mask mask) mask (and_self mask)

first_sound : (n : ℕ) (own : Profile) → 0 < n → IsSound n (new_map own n).state
first_sound n own positive = record { each = each; dated = dated; marked = pow_pos n }
  where
    each : (i : ℕ) (interval : Interval) → slice_get (first_interval n ∷ []) i ≡ Some interval → IsOfPool n interval
    each zero interval e = subst (λ (x : Interval). IsOfPool n x) (some_same (first_interval n) interval e) (first_of_pool n positive)
    each (suc i) interval e = absurd (none_some interval e)

    dated : (i : ℕ) (interval : Interval) → slice_get (first_interval n ∷ []) i ≡ Some interval → interval.epoch ≡ i + 1
    dated zero interval e = sym (ap (λ (x : Interval). x.epoch) (some_same (first_interval n) interval e))
    dated (suc i) interval e = absurd (none_some interval e)

-- ---- the contents

module _ (layout : Layout) (profile : Profile) (k : ℕ) (c : Contents) (code : IsCode layout.code) (stripes : 0 < layout.code.k * layout.unit)
    (new : IsFirst (slots_of layout) profile k c) where
  is_below : (p : ℕ) (s : Replay) → c.shards p ≡ Some s → p < layout.code.n
  is_below p s there = here (nat_lt p layout.code.n) refl
    where
      here : (b : Bool) → nat_lt p layout.code.n ≡ b → p < layout.code.n
      here true e = grind (arith, nat_tests, e)
      here false e = absurd (none_some s (sym (new.none p (grind (arith, nat_tests, e))) ∙ there))

  is_started : (p : ℕ) (s : Replay) → c.shards p ≡ Some s → replay_of (geometry_of layout) (first_steps false) ≡ Some s
  is_started p s there = let r = new.shards p (is_below p s there) in r.2 ∙ (sym r.1 ∙ there)

  first_stored : IsStoredPool layout (stored_of c)
  first_stored =
      let least = code.some_data in
      let most = code.as_many in
      let map = new.map.is in
      record {
        code = code;
        stripes = stripes;
        positions = ap (λ (m : PoolImage). m.n) map;
        map = subst (λ (m : PoolImage). IsSound m.n m.state) (sym map) (first_sound layout.code.n new.map.own (omega (arith, least, most)));
        shards = λ p s there. whole_replay (geometry_of layout) stripes (first_steps false) s (is_started p s there);
        below = is_below;
      }

  is_new : laws.IsFirst layout (stored_of c)
  is_new = record {
    up = all_of layout.code.n;
    joined = all_of layout.code.n;
    intervals = ap (λ (m : PoolImage). m.state.intervals) new.map.is;
    all = λ p below. bit_at_ones layout.code.n p below;
    clean = ap (λ (m : PoolImage). m.state.clean) new.map.is;
    shards = is_started;
  }

pub first_agrees : NewPoolsAgree → FirstContentsAgree
first_agrees agree layout profile k c code stripes new = record {
  stored = first_stored layout profile k c code stripes new;
  agrees = agree layout (stored_of c) (is_new layout profile k c code stripes new);
}

-- ---- an image of the making

pub made_bears : FirstContentsAgree → (layout : Layout) (profile : Profile) (k : ℕ) (image : Image) → IsCode layout.code → 0 < layout.code.k * layout.unit
    → HasNoneOrFirst (slots_of layout) profile k image → IsNoPool (text_in_use 16 (image 16)) ⊎ Bears layout first_history image
made_bears agree layout profile k image code stripes (inl none) = inl none
made_bears agree layout profile k image code stripes (inr made) =
    inr (record { contents = made.contents; has = made.has; agrees = agree layout profile k made.contents code stripes made.is_first })
