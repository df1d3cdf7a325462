-- Each step that fits keeps what holds of the intervals and the marks of every map.
use Rattle.std.proofs.Common.{◌≡◌, ◌⊎◌, inl, inr, ⊎_elim, ◌<◌, ◌≤◌, ◌+◌, ◌-◌, ◌^◌, ◌==◌, nat_lt, ℕ, zero, suc, Bool, true, false, not, List, [], ◌∷◌, ◌++◌, length, slice_get, get_or, Option, Some, None, is_some, refl, sym, ap, subst, ◌∙◌, arith}
use Rattle.std.specs.Prelude.{bit_and, bit_or, bit_xor, nat_le, if◌then◌else◌}
use Rattle.std.proofs.Math.Pow.{pow-lt}
use Rattle.std.proofs.lemmas.Bool.{false≢true, eqb-true, and_parts}
use Rattle.std.proofs.lemmas.Bool.Decides.{nat_tests}
use Rattle.std.proofs.lemmas.Nat.{and_le_r, or_lt, xor_lt, pow_pos}
use Rattle.std.proofs.lemmas.Option.{slice_get-get_or, slice_get_within}
use Rattle.ec_model.specs.Versions.{Version}
use Rattle.ec_words.specs.Intervals.{Interval, went_alive, with_last_alive, WentAlive, JoinedLieBelow}
use Rattle.map_model.specs.Laws.{GoesAlive, AliveComesOnce}
use Rattle.map_model.specs.States.{MapState, kept, new_state, with_intervals, with_marks, begun, fits, state_after, replay, last_of, last_epoch, epoch_of, epoch_limit, is_inside, may_join, awaits_alive, with_mark}
use Rattle.map_model.specs.Sound.{IsOfPool, IsSound}
use Rattle.map_model.specs.Steps.{MapStep, Begin, Alive, Mark}
use Rattle.map_model.specs.Steps as step
use Rattle.map_model.proofs.KeptLemmas.{filtered, all_pass}
use Rattle.map_model.proofs.LastLemmas.{none_some, some_same, IsLast, last_is, last_place, last_alive}
use Rattle.map_model.proofs.ReplayLemmas.{step_replayed, replayed_none}

-- an element of a list with one more is one of the list, or the last
got_more : {A : Type 0} (xs : List A) (y z : A) (i : ℕ) → slice_get (xs ++ y ∷ []) i ≡ Some z → (slice_get xs i ≡ Some z) ⊎ ((i ≡ length xs) × (y ≡ z))
got_more {A} [] y z zero e = inr (refl, some_same y z e)
got_more {A} [] y z (suc i) e = absurd (none_some z e)
got_more {A} (x ∷ xs) y z zero e = inl e
got_more {A} (x ∷ xs) y z (suc i) e = ⊎_elim (λ there. inl there) (λ last. inr (ap suc last.0, last.1)) (got_more xs y z i e)

-- the last interval went alive
record IsLastAlive (joined : ℕ) (base : Version) (intervals : List Interval) (i : ℕ) (interval : Interval) : Type 0 where
  last : Interval
  is_last : last_of intervals ≡ Some last
  there : slice_get intervals i ≡ Some last
  is : went_alive joined base last ≡ interval

later_alive : (joined : ℕ) (base : Version) (first next : Interval) (rest : List Interval) (i : ℕ) (interval : Interval)
    → IsLastAlive joined base (next ∷ rest) i interval → IsLastAlive joined base (first ∷ (next ∷ rest)) (suc i) interval
unfolding last_of
later_alive joined base first next rest i interval is = record { last = is.last; is_last = is.is_last; there = is.there; is = is.is }

got_alive : (joined : ℕ) (base : Version) (intervals : List Interval) (i : ℕ) (interval : Interval) → slice_get (with_last_alive joined base intervals) i ≡ Some interval
    → (slice_get intervals i ≡ Some interval) ⊎ IsLastAlive joined base intervals i interval
unfolding with_last_alive last_of
got_alive joined base [] i interval e = absurd (none_some interval e)
got_alive joined base (last ∷ []) zero interval e = inr (record { last = last; is_last = refl; there = refl; is = some_same (went_alive joined base last) interval e })
got_alive joined base (last ∷ []) (suc i) interval e = absurd (none_some interval e)
got_alive joined base (first ∷ (next ∷ rest)) zero interval e = inl e
got_alive joined base (first ∷ (next ∷ rest)) (suc i) interval e =
    ⊎_elim (λ there. inl there) (λ last. inr (later_alive joined base first next rest i interval last)) (got_alive joined base (next ∷ rest) i interval e)

-- the last epoch of sound intervals is their number
epoch_of_some : (o : Option Interval) (last : Interval) → o ≡ Some last → epoch_of o ≡ last.epoch
epoch_of_some o last e = ap epoch_of e

as_many : (n : ℕ) (state : MapState) (intervals : List Interval) → state.intervals ≡ intervals → IsSound n state → last_epoch intervals ≡ length intervals
unfolding last_of
as_many n state [] same sound = refl
as_many n state (first ∷ rest) same sound =
    let at : slice_get (first ∷ rest) (length (first ∷ rest) - 1) ≡ Some (get_or (first ∷ rest) (length (first ∷ rest) - 1) first) = slice_get-get_or (first ∷ rest) (length (first ∷ rest) - 1) first (omega arith) in
    let last = get_or (first ∷ rest) (length (first ∷ rest) - 1) first in
    let dated = sound.dated (length (first ∷ rest) - 1) last (ap (λ (l : List Interval). slice_get l (length (first ∷ rest) - 1)) same ∙ at) in
    epoch_of_some (last_of (first ∷ rest)) last (last_is (first ∷ rest) ∙ at) ∙ dated ∙ omega arith

-- an interval that begins
begun_sound : (n : ℕ) (state : MapState) (epoch up : ℕ) → IsSound n state → epoch ≡ last_epoch state.intervals + 1 → epoch < epoch_limit → up < 2 ^ n
    → IsSound n (with_intervals state (state.intervals ++ begun epoch up ∷ []))
begun_sound n state epoch up sound next early below = record {
  each = λ i interval e. ⊎_elim (λ there. sound.each i interval there)
      (λ last. subst (λ (x : Interval). IsOfPool n x) last.1 (record {
        early = early;
        up = below;
        some = λ joined base alive. absurd (none_some (joined, base) alive);
        inside = λ joined base alive. absurd (none_some (joined, base) alive);
      }))
      (got_more state.intervals (begun epoch up) interval i e);
  dated = λ i interval e. ⊎_elim (λ there. sound.dated i interval there)
      (λ last. sym (ap (λ (x : Interval). x.epoch) last.1) ∙ next ∙ ap (λ (k : ℕ). k + 1) (as_many n state state.intervals refl sound ∙ sym last.0))
      (got_more state.intervals (begun epoch up) interval i e);
  marked = sound.marked;
}

-- the last one goes alive
joins : (epoch joined : ℕ) (o : Option Interval) (last : Interval) → o ≡ Some last → may_join epoch joined o ≡ true → (0 < joined) × (is_inside joined last.up ≡ true)
joins epoch joined o last is may =
    let all : may_join epoch joined (Some last) ≡ true = ap (may_join epoch joined) (sym is) ∙ may in
    let first = and_parts (last.epoch == epoch) _ all in
    let second = and_parts (not (is_some last.alive)) _ first.1 in
    let third = and_parts (is_inside joined last.up) (nat_lt 0 joined) second.1 in
    (grind (arith, nat_tests, third.1), third.0)

alive_sound : (n : ℕ) (state : MapState) (epoch joined : ℕ) (base : Version) → IsSound n state → may_join epoch joined (last_of state.intervals) ≡ true
    → IsSound n (with_intervals state (with_last_alive joined base state.intervals))
alive_sound n state epoch joined base sound may = record {
  each = λ i interval e. ⊎_elim (λ there. sound.each i interval there)
      (λ last. subst (λ (x : Interval). IsOfPool n x) last.is
      (let join = joins epoch joined (last_of state.intervals) last.last last.is_last may in record {
        early = (sound.each i last.last last.there).early;
        up = (sound.each i last.last last.there).up;
        some = λ other from alive. subst (λ (j : ℕ). 0 < j) (ap (λ (p : ℕ × Version). p.0) (some_same (joined, base) (other, from) alive)) join.0;
        inside = λ other from alive. subst (λ (j : ℕ). is_inside j last.last.up ≡ true) (ap (λ (p : ℕ × Version). p.0) (some_same (joined, base) (other, from) alive)) join.1;
      }))
      (got_alive joined base state.intervals i interval e);
  dated = λ i interval e. ⊎_elim (λ there. sound.dated i interval there)
      (λ last. sym (ap (λ (x : Interval). x.epoch) last.is) ∙ sound.dated i last.last last.there)
      (got_alive joined base state.intervals i interval e);
  marked = sound.marked;
}

-- a slot is marked, or no longer
marks_by : (n slot marks : ℕ) (b : Bool) → slot < n → marks < 2 ^ n → (if b then bit_or marks (2 ^ slot) else bit_xor (bit_or marks (2 ^ slot)) (2 ^ slot)) < 2 ^ n
marks_by n slot marks true below small = or_lt n marks (2 ^ slot) small (pow-lt below)
marks_by n slot marks false below small = xor_lt n (bit_or marks (2 ^ slot)) (2 ^ slot) (or_lt n marks (2 ^ slot) small (pow-lt below)) (pow-lt below)

pub marks_below : (n slot down marks : ℕ) → slot < n → marks < 2 ^ n → with_mark slot down marks < 2 ^ n
marks_below n slot down marks below small = marks_by n slot marks (down == 1) below small

early_by : (epoch : ℕ) → nat_lt epoch epoch_limit ≡ true → epoch < epoch_limit
early_by epoch early = grind (arith, nat_tests, early)

below_by : (n up : ℕ) → nat_lt up (2 ^ n) ≡ true → up < 2 ^ n
below_by n up below = grind (arith, nat_tests, below)

pub step_sound : (n : ℕ) (state : MapState) (s : MapStep) → IsSound n state → fits n state s ≡ true → IsSound n (state_after state s)
step_sound n state (step.Profile lines) sound fit = absurd (false≢true fit)
step_sound n state (Begin epoch up) sound fit =
    let first = and_parts (epoch == last_epoch state.intervals + 1) _ fit in
    let second = and_parts (nat_lt epoch epoch_limit) (nat_lt up (2 ^ n)) first.1 in
    begun_sound n state epoch up sound (eqb-true epoch (last_epoch state.intervals + 1) first.0) (early_by epoch second.0) (below_by n up second.1)
step_sound n state (Alive epoch joined base) sound fit = alive_sound n state epoch joined base sound fit
step_sound n state (Mark slot down) sound fit =
    let parts = and_parts (nat_lt slot n) _ fit in record {
      each = sound.each;
      dated = sound.dated;
      marked = marks_below n slot down state.marks (grind (arith, nat_tests, parts.0)) sound.marked;
    }

pub new_sound : (n format : ℕ) → IsSound n (new_state format)
new_sound n format = record {
  each = λ i interval e. absurd (none_some interval e);
  dated = λ i interval e. absurd (none_some interval e);
  marked = pow_pos n;
}

pub replay_sound : (n : ℕ) (steps : List MapStep) (state later : MapState) → IsSound n state → replay n steps state ≡ Some later → IsSound n later
replay_sound n [] state later sound done = subst (λ (x : MapState). IsSound n x) (replayed_none n state later done) sound
replay_sound n (s ∷ steps) state later sound done =
    let both = step_replayed n state later s steps done in
    replay_sound n steps (state_after state s) later (step_sound n state s sound both.0) both.1

-- so its joined sets lie below n
inside_below : (n joined up : ℕ) → is_inside joined up ≡ true → up < 2 ^ n → joined < 2 ^ n
inside_below n joined up inside below =
    let is = eqb-true (bit_and joined up) joined inside in
    let le = and_le_r joined up in
    omega (arith, is, le, below)

pub joined_below : (n : ℕ) (state : MapState) → IsSound n state → JoinedLieBelow n state.intervals
joined_below n state sound epoch joined alive =
    let of_pool = sound.each alive.place alive.interval alive.there in
    inside_below n joined alive.interval.up (of_pool.inside joined alive.base alive.alive) of_pool.up

pub kept_below : (n : ℕ) (state : MapState) → IsSound n state → JoinedLieBelow n (kept state)
kept_below n state sound epoch joined alive =
    let there = (filtered (λ (x : Interval). nat_le state.clean x.epoch) state.intervals alive.place alive.interval alive.there).1 in
    let of_pool = sound.each there.0 alive.interval there.1 in
    inside_below n joined alive.interval.up (of_pool.inside joined alive.base alive.alive) of_pool.up

-- all are kept while no later epoch is clean than the first
not_before : (clean epoch i : ℕ) → clean ≡ 1 → epoch ≡ i + 1 → nat_le clean epoch ≡ true
not_before clean epoch i first dated = grind (arith, nat_tests)

pub all_kept : (n : ℕ) (state : MapState) → state.clean ≡ 1 → IsSound n state → kept state ≡ state.intervals
all_kept n state first sound = all_pass (λ (x : Interval). nat_le state.clean x.epoch) state.intervals (λ i interval e. not_before state.clean interval.epoch i first (sound.dated i interval e))

-- the last epoch is the count
pub counted : (n : ℕ) (state : MapState) → IsSound n state → last_epoch state.intervals ≡ length state.intervals
counted n state sound = as_many n state state.intervals refl sound

-- an interval that went alive is older than the last one, if that one did not
pub older_than_last : (n : ℕ) (state : MapState) (last : Interval) → IsSound n state → last_of state.intervals ≡ Some last → last.alive ≡ None
    → (epoch joined : ℕ) → WentAlive state.intervals epoch joined → epoch < last.epoch
older_than_last n state last sound is unalive epoch joined w =
    let there = last_place state.intervals last is in
    let own : last.epoch ≡ there.before + 1 = sound.dated there.before last there.there in
    let within = slice_get_within state.intervals w.place w.interval w.there in
    let apart : w.place ≡ there.before → ⊥ = λ e.
    none_some (joined, w.base) (sym unalive ∙ ap (λ (x : Interval). x.alive) (some_same last w.interval (sym there.there ∙ ap (slice_get state.intervals) (sym e) ∙ w.there)) ∙ w.alive) in
    omega (arith, within, there.long, own, sound.dated w.place w.interval w.there, w.dated, apart)

-- what joins is the last interval, and it is not alive
pub record MayJoin (epoch joined : ℕ) (o : Option Interval) : Type 0 where
  pub last : Interval
  pub is : o ≡ Some last
  pub dated : last.epoch ≡ epoch
  pub unalive : last.alive ≡ None

not_some : (o : Option (ℕ × Version)) → not (is_some o) ≡ true → o ≡ None
not_some None e = refl
not_some (Some x) e = absurd (false≢true e)

pub may_join_parts : (epoch joined : ℕ) (o : Option Interval) → may_join epoch joined o ≡ true → MayJoin epoch joined o
may_join_parts epoch joined None may = absurd (false≢true may)
may_join_parts epoch joined (Some last) may =
    let first = and_parts (last.epoch == epoch) _ may in
    let second = and_parts (not (is_some last.alive)) _ first.1 in
    record { last = last; is = refl; dated = eqb-true last.epoch epoch first.0; unalive = not_some last.alive second.0 }

-- the one that goes alive is the newest
pub newest_alive : (n : ℕ) (state : MapState) (epoch joined : ℕ) (base : Version) → IsSound n state → fits n state (Alive epoch joined base) ≡ true → GoesAlive state epoch joined base
newest_alive n state epoch joined base sound fit =
    let may = may_join_parts epoch joined (last_of state.intervals) fit in
    let later = state_after state (Alive epoch joined base) in
    let after = step_sound n state (Alive epoch joined base) sound fit in
    let is = last_alive joined base state.intervals may.last may.is in
    let there = last_place later.intervals (went_alive joined base may.last) is in
    let own : may.last.epoch ≡ there.before + 1 = after.dated there.before (went_alive joined base may.last) there.there in
    record {
      last = may.last;
      was = may.is;
      dated = may.dated;
      unalive = may.unalive;
      is = is;
      alive = record { place = there.before; interval = went_alive joined base may.last; base = base; there = there.there; dated = may.dated; alive = refl };
      based = refl;
      newest = λ other members w.
          let within = slice_get_within later.intervals w.place w.interval w.there in
          omega (arith, within, there.long, own, may.dated, after.dated w.place w.interval w.there, w.dated);
    }

-- the last interval is awaited if it may be joined, and no longer once it went alive
pub joins_awaited : (epoch joined : ℕ) (o : Option Interval) → may_join epoch joined o ≡ true → awaits_alive o ≡ true
joins_awaited epoch joined None may = absurd (false≢true may)
joins_awaited epoch joined (Some last) may =
    let first = and_parts (last.epoch == epoch) _ may in
    (and_parts (not (is_some last.alive)) _ first.1).0

pub alive_not_awaited : (joined : ℕ) (base : Version) (intervals : List Interval) → awaits_alive (last_of (with_last_alive joined base intervals)) ≡ true → ⊥
unfolding last_of with_last_alive
alive_not_awaited joined base [] awaited = false≢true awaited
alive_not_awaited joined base (x ∷ []) awaited = false≢true awaited
alive_not_awaited joined base (x ∷ (y ∷ [])) awaited = alive_not_awaited joined base (y ∷ []) awaited
alive_not_awaited joined base (x ∷ (y ∷ (z ∷ rest))) awaited = alive_not_awaited joined base (y ∷ (z ∷ rest)) awaited

pub alive_once : AliveComesOnce
alive_once n state epoch joined base later members from fit = alive_not_awaited joined base state.intervals (joins_awaited later members _ fit)
