-- One slot more has started, or none.
use Rattle.std.proofs.Common.{◌≡◌, ◌≢◌, ◌≤◌, ◌<◌, ◌+◌, ◌==◌, ℕ, zero, suc, Bool, true, false, is_some, if◌then◌else◌, List, Option, Result, Ok, Err, refl, sym, ap, subst, ◌∙◌, arith, eq-eqb}
use Rattle.std.proofs.lemmas.Bool.{eqb-true, false≢true}
use Rattle.ec_model.specs.Codes.{HasPosition}
use Rattle.ec_model.specs.Versions.{Version}
use Rattle.rig_disk.specs.Disk.{Image}
use Rattle.rig_disk.specs.During.{During}
use Rattle.shard_store.specs.Shelved.{Shelved}
use Rattle.shard_store.specs.Shelves.{store_at, KeepsStores}
use Rattle.shard_store.specs.declared.store.Store.{Store}
use Rattle.pool_map.specs.Pool.{map_of}
use Rattle.pool_map.specs.declared.map.PoolMap.{PoolMap}
use Rattle.pool_slots.specs.Ready.{MayStart, HasStarted}
use Rattle.pool_moves.specs.Contents.{Layout}
use Rattle.pool_moves.specs.Instants.{MovedFrom}
use Rattle.pool_history.specs.Images.{IsLastAlive}
use Rattle.pool_moves.specs.Moves.{Starts}
use Rattle.pool_moves.specs.Ready.{IsReady, IsHeld}
use Rattle.pool_moves.specs.Starting.{AreStarting}
use Rattle.pool_moves.specs.Turns.{stores_below}
use Rattle.pool_moves.proofs.InstantLemmas.{runs_on, runs_none}

pub ok_err : {T E : Type 0} (x : T) (y : E) → ◌≡◌ {A = Result T E} (Ok x) (Err y) → ⊥
ok_err x y e = cc

-- what a slot may start or has started stays so if another slot's store changes
pub may_stay : (shelf later : Shelved) (slot epoch q : ℕ) (base : Version) → q ≢ slot → KeepsStores shelf later slot → MayStart shelf epoch base q → MayStart later epoch base q
may_stay shelf later slot epoch q base other keeps m = record { store = m.store; there = keeps.stores q other ∙ m.there; whole = m.whole; held = m.held; older = m.older }

pub started_stay : (shelf later : Shelved) (slot epoch q : ℕ) → q ≢ slot → KeepsStores shelf later slot → HasStarted shelf epoch q → HasStarted later epoch q
started_stay shelf later slot epoch q other keeps m = record { store = m.store; there = keeps.stores q other ∙ m.there; whole = m.whole; started = m.started }

-- the count of stores, if one slot's store changes
pub count_below_slot : (shelf later : Shelved) (slot n : ℕ) → n ≤ slot → KeepsStores shelf later slot → stores_below later n ≡ stores_below shelf n
unfolding stores_below
count_below_slot shelf later slot zero below keeps = refl
count_below_slot shelf later slot (suc n) below keeps =
    let first = count_below_slot shelf later slot n (omega (arith, below)) keeps in
    let same = keeps.stores n (λ e. omega (arith, e, below)) in
    ap (λ m. m + (if is_some (store_at later n) then 1 else 0)) first ∙ ap (λ (o : Option Store). stores_below shelf n + (if is_some o then 1 else 0)) same

pub count_same : (shelf later : Shelved) (slot n : ℕ) → KeepsStores shelf later slot → is_some (store_at later slot) ≡ is_some (store_at shelf slot) → stores_below later n ≡ stores_below shelf n
unfolding stores_below
count_same shelf later slot zero keeps same = refl
count_same shelf later slot (suc n) keeps same =
    ap (λ m. m + (if is_some (store_at later n) then 1 else 0)) (count_same shelf later slot n keeps same)
    ∙ ap (λ (b : Bool). stores_below shelf n + (if b then 1 else 0)) (here (n == slot) refl)
  where
    here : (b : Bool) → (n == slot) ≡ b → is_some (store_at later n) ≡ is_some (store_at shelf n)
    here true is = subst (λ m. is_some (store_at later m) ≡ is_some (store_at shelf m)) (sym (eqb-true n slot is)) same
    here false is = ap (λ (o : Option Store). is_some o) (keeps.stores n (λ e. false≢true (sym is ∙ eq-eqb n slot e)))

-- and if one slot loses its store
pub count_less : (shelf later : Shelved) (slot n : ℕ) → slot < n → KeepsStores shelf later slot → is_some (store_at shelf slot) ≡ true → is_some (store_at later slot) ≡ false
    → stores_below later n + 1 ≡ stores_below shelf n
unfolding stores_below
count_less shelf later slot zero below keeps had lost = absurd (omega (arith, below))
count_less shelf later slot (suc n) below keeps had lost = here (λ (under : slot < n). count_less shelf later slot n under keeps had lost) (n == slot) refl
  where
    one : Shelved → ℕ
    one s = if is_some (store_at s n) then 1 else 0

    here : (slot < n → stores_below later n + 1 ≡ stores_below shelf n) → (b : Bool) → (n == slot) ≡ b → stores_below later n + one later + 1 ≡ stores_below shelf n + one shelf
    here before true is =
        let same : n ≡ slot = eqb-true n slot is in
        let a : one later ≡ 0 = ap (λ (x : Bool). if x then 1 else 0) (subst (λ m. is_some (store_at later m) ≡ false) (sym same) lost) in
        let b : one shelf ≡ 1 = ap (λ (x : Bool). if x then 1 else 0) (subst (λ m. is_some (store_at shelf m) ≡ true) (sym same) had) in
        let front = count_below_slot shelf later slot n (omega (arith, same)) keeps in
        omega (arith, a, b, front)
    here before false is =
        let other : n ≢ slot = λ e. false≢true (sym is ∙ eq-eqb n slot e) in
        let a : one later ≡ one shelf = ap (λ (o : Option Store). if is_some o then 1 else 0) (keeps.stores n other) in
        let front = before (omega (arith, below, other)) in
        omega (arith, a, front)

module _ {R : Type 0} (l : Layout) (is_here : R → ℕ → Type 0) (reads_of : R → ℕ → ℕ → Option (List ℕ)) (clock_of : R → ℕ) (images_of : R → ℕ → Image → List ℕ → Type 0)
    (old : R) (map : PoolMap) (shelf : Shelved) (joined epoch : ℕ) (base : Version) where
  abbrev Far : R → Shelved → ℕ → Type 0
  Far now shelf_now p = AreStarting l is_here reads_of clock_of images_of old now map shelf shelf_now joined epoch base p

  -- before the first slot
  pub far_none : IsReady l (is_here old) (reads_of old) (images_of old (clock_of old)) map shelf → ((q : ℕ) → q < l.n → HasPosition joined q → MayStart shelf epoch base q) → Far old shelf 0
  far_none ready may = record {
    ready = ready;
    held = λ h. h;
    waiting = λ q from below member. may q below member;
    started = λ q before member. absurd (omega (arith, before));
    moments = λ held newest. runs_none clock_of images_of (Starts l epoch joined base) l old;
  }

  -- a slot that did not join
  pub far_past : (now : R) (shelf_now : Shelved) (p : ℕ) → (HasPosition joined p → ⊥) → Far now shelf_now p → Far now shelf_now (p + 1)
  far_past now shelf_now p out f = record {
    ready = f.ready;
    held = f.held;
    waiting = λ q from below member. f.waiting q (omega (arith, from)) below member;
    started = λ q before member. f.started q (less q before (λ e. out (subst (λ m. HasPosition joined m) e member))) member;
    moments = f.moments;
  }
    where
      less : (q : ℕ) → q < p + 1 → (q ≡ p → ⊥) → q < p
      less q before other = omega (arith, before, other)

  -- the same over a call that speaks of an equal layout and map
  module _ (now next : R) (shelf_now later : Shelved) (k : Layout) (near : PoolMap) (same_l : k ≡ l) (same_map : near ≡ map) (p : ℕ) (f : Far now shelf_now p)
      (run : IsHeld (reads_of now) (images_of now (clock_of now)) near shelf_now → IsLastAlive (map_of near).state.intervals epoch joined base
      → During clock_of images_of now next (MovedFrom (Starts k epoch joined base) k (images_of now (clock_of now)))) where
    pub held_now : IsHeld (reads_of old) (images_of old (clock_of old)) map shelf → IsHeld (reads_of now) (images_of now (clock_of now)) near shelf_now
    held_now h = subst (λ (m : PoolMap). IsHeld (reads_of now) (images_of now (clock_of now)) m shelf_now) (sym same_map) (f.held h)

    pub slot_run : IsHeld (reads_of old) (images_of old (clock_of old)) map shelf → IsLastAlive (map_of map).state.intervals epoch joined base
        → During clock_of images_of old next (MovedFrom (Starts l epoch joined base) l (images_of old (clock_of old)))
    slot_run h newest = runs_on clock_of images_of (Starts l epoch joined base) l old now next (f.moments h newest)
        (subst (λ (x : Layout). During clock_of images_of now next (MovedFrom (Starts x epoch joined base) x (images_of now (clock_of now)))) same_l
        (run (held_now h) (subst (λ (m : PoolMap). IsLastAlive (map_of m).state.intervals epoch joined base) (sym same_map) newest)))

    module _ (far : PoolMap) (same_far : far ≡ map) where
      pub far_slot : HasPosition joined p → KeepsStores shelf_now later p → IsReady k (is_here next) (reads_of next) (images_of next (clock_of next)) far later
          → (IsHeld (reads_of now) (images_of now (clock_of now)) near shelf_now → IsHeld (reads_of next) (images_of next (clock_of next)) far later)
          → HasStarted later epoch p → Far next later (p + 1)
      far_slot member keeps ready held started = record {
        ready = subst (λ (x : Layout). IsReady x (is_here next) (reads_of next) (images_of next (clock_of next)) map later) same_l
            (subst (λ (m : PoolMap). IsReady k (is_here next) (reads_of next) (images_of next (clock_of next)) m later) same_far ready);
        held = λ h. subst (λ (m : PoolMap). IsHeld (reads_of next) (images_of next (clock_of next)) m later) same_far (held (held_now h));
        waiting = λ q from below in_q. may_stay shelf_now later p epoch q base (λ e. omega (arith, e, from)) keeps (f.waiting q (omega (arith, from)) below in_q);
        started = λ q before in_q. at q before in_q (q == p) refl;
        moments = slot_run;
      }
        where
          at : (q : ℕ) → q < p + 1 → HasPosition joined q → (b : Bool) → (q == p) ≡ b → HasStarted later epoch q
          at q before in_q true is = subst (λ m. HasStarted later epoch m) (sym (eqb-true q p is)) started
          at q before in_q false is =
              let other : q ≢ p = λ e. false≢true (sym is ∙ eq-eqb q p e) in
              started_stay shelf_now later p epoch q other keeps (f.started q (omega (arith, before, other)) in_q)

pub count_few : (shelf : Shelved) (n : ℕ) → stores_below shelf n ≤ n
unfolding stores_below
count_few shelf zero = omega arith
count_few shelf (suc n) = one (is_some (store_at shelf n)) (count_few shelf n)
  where
    one : (b : Bool) → stores_below shelf n ≤ n → stores_below shelf n + (if b then 1 else 0) ≤ suc n
    one true le = omega (arith, le)
    one false le = omega (arith, le)
