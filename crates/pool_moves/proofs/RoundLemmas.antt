-- One round more of a start.
use Rattle.std.proofs.Common.{◌≡◌, ◌<◌, ◌+◌, ℕ, List, Option, subst, arith}
use Rattle.ec_model.specs.Codes.{CodeRows}
use Rattle.rig_disk.specs.Disk.{Image}
use Rattle.rig_disk.specs.During.{During}
use Rattle.shard_store.specs.Shelved.{Shelved}
use Rattle.pool_map.specs.declared.map.PoolMap.{PoolMap}
use Rattle.pool_moves.specs.Contents.{Layout}
use Rattle.pool_moves.specs.Instants.{MovedFrom}
use Rattle.pool_moves.specs.Moves.{Move}
use Rattle.pool_moves.specs.Ready.{IsReady, IsHeld}
use Rattle.pool_moves.specs.Rounds.{AreGone}
use Rattle.pool_moves.specs.Turns.{stores_below}
use Rattle.pool_moves.proofs.InstantLemmas.{runs_on, runs_none}
use Rattle.pool_moves.proofs.LoopLemmas.{count_few}

module _ {R : Type 0} (code : CodeRows) (l : Layout) (is_here : R → ℕ → Type 0) (reads_of : R → ℕ → ℕ → Option (List ℕ)) (clock_of : R → ℕ) (images_of : R → ℕ → Image → List ℕ → Type 0)
    (old : R) (map : PoolMap) (shelf : Shelved) where
  abbrev Gone : R → PoolMap → Shelved → ℕ → Type 0
  Gone now map_now shelf_now rounds = AreGone code l is_here reads_of clock_of images_of old now map map_now shelf shelf_now rounds

  pub gone_none : IsReady l (is_here old) (reads_of old) (images_of old (clock_of old)) map shelf → Gone old map shelf 0
  gone_none ready = record {
    few = let le = count_few shelf 16 in omega (arith, le);
    ready = ready;
    held = λ h. h;
    moments = λ held. runs_none clock_of images_of (Move code l) l old;
  }

  -- over a turn that speaks of an equal layout
  module _ (now next : R) (map_now : PoolMap) (shelf_now : Shelved) (rounds : ℕ) (k : Layout) (same : k ≡ l) (f : Gone now map_now shelf_now rounds)
      (run : IsHeld (reads_of now) (images_of now (clock_of now)) map_now shelf_now
      → During clock_of images_of now next (MovedFrom (Move code k) k (images_of now (clock_of now)))) where
    pub gone_run : IsHeld (reads_of old) (images_of old (clock_of old)) map shelf → During clock_of images_of old next (MovedFrom (Move code l) l (images_of old (clock_of old)))
    gone_run h = runs_on clock_of images_of (Move code l) l old now next (f.moments h)
        (subst (λ (x : Layout). During clock_of images_of now next (MovedFrom (Move code x) x (images_of now (clock_of now)))) same (run (f.held h)))

    pub gone_on : (later : PoolMap) (shelf_later : Shelved) → stores_below shelf_later 16 < stores_below shelf_now 16
        → IsReady k (is_here next) (reads_of next) (images_of next (clock_of next)) later shelf_later
        → (IsHeld (reads_of now) (images_of now (clock_of now)) map_now shelf_now → IsHeld (reads_of next) (images_of next (clock_of next)) later shelf_later)
        → Gone next later shelf_later (rounds + 1)
    gone_on later shelf_later fewer ready held = record {
      few = let few = f.few in omega (arith, few, fewer);
      ready = subst (λ (x : Layout). IsReady x (is_here next) (reads_of next) (images_of next (clock_of next)) later shelf_later) same ready;
      held = λ h. held (f.held h);
      moments = gone_run;
    }
