-- A step of the map is a move, or none, and the slots' stores stay.
use Rattle.std.proofs.Common.{◌≡◌, ◌≢◌, ◌<◌, ⊎_elim, ◌+◌, ◌^◌, ℕ, List, Option, Some, true, sym, subst, ◌∙◌, arith}
use Rattle.std.proofs.lemmas.Bool.Decides.{nat_tests}
use Rattle.rig_disk.specs.Disk.{Image}
use Rattle.rig_disk.specs.During.{During}
use Rattle.rig_disk.proofs.Moments.{weaker}
use Rattle.slot_journal.specs.InUse.{Areas}
use Rattle.slot_journal.specs.Journal.{InSlot}
use Rattle.shard_store.specs.Shelved.{Shelved}
use Rattle.shard_store.specs.Shelves.{store_at}
use Rattle.shard_store.specs.declared.store.Store.{Store}
use Rattle.pool_map.specs.Laws.{TextsHaveOneMap}
use Rattle.map_model.specs.States.{MapState, fits, last_epoch, epoch_limit}
use Rattle.pool_map.specs.Maps.{PoolImage, HasMap}
use Rattle.pool_map.specs.Pool.{journal_of, map_of, map_after, Steps}
use Rattle.map_model.specs.Steps.{MapStep, Begin}
use Rattle.pool_map.specs.declared.map.PoolMap.{PoolMap}
use Rattle.pool_slots.specs.Ready.{IsReadyShelf, AreHeld}
use Rattle.pool_moves.specs.Contents.{Layout, Contents, HasContents, with_map}
use Rattle.pool_moves.specs.Instants.{MovedFrom}
use Rattle.pool_moves.specs.Moves.{Stays}
use Rattle.pool_moves.specs.Ready.{AreOwn, IsHeldMap}
use Rattle.pool_moves.proofs.ContentLemmas.{map_slot_alone}
use Rattle.pool_moves.proofs.InstantLemmas.{one_link}
use Rattle.pool_moves.proofs.ReadyLemmas.{store_ready_on, store_held_on}
use Rattle.pool_moves.proofs.SlotLemmas.{map_is}

-- the instants of a step of the map, of which each image's contents make a move
pub step_moments : {R : Type 0} (clock_of : R → ℕ) (images_of : R → ℕ → Image → List ℕ → Type 0) (old new : R) (reads : ℕ → ℕ → Option (List ℕ))
    → TextsHaveOneMap → (Step : Contents → Contents → Type 0) (l : Layout) → l.n < 17 → (map : PoolMap) → (map_of map).n ≡ l.n → IsHeldMap reads (images_of old (clock_of old)) map
    → (step : MapStep)
    → ((c : Contents) (image : Image) (said : List ℕ) → images_of old (clock_of old) image said → HasContents l image c → c.map ≡ map_of map → Step c (with_map c (map_after c.map step)))
    → During clock_of images_of old new (InSlot (images_of old (clock_of old)) 16 (Steps reads (images_of old (clock_of old)) (journal_of map) (map_of map) step))
    → During clock_of images_of old new (MovedFrom Step l (images_of old (clock_of old)))
step_moments clock_of images_of old new reads maps Step l few map same_n held step move run =
    let images : Image → List ℕ → Type 0 = images_of old (clock_of old) in
    weaker clock_of images_of old new (InSlot images 16 (Steps reads images (journal_of map) (map_of map) step)) (MovedFrom Step l images) run
    (λ image said one. record {
      source = one.source;
      was = one.was;
      moved = λ before has.
          let same : before.map ≡ map_of map = map_is maps reads images map held l one.source said before one.was has in
          ⊎_elim
          (λ (stays : HasMap (image 16) (map_of map)). record {
            after = before;
            has = map_slot_alone l one.source image before has before.map has.same_n few one.others (subst (λ (m : PoolImage). HasMap (image 16) m) (sym same) stays);
            chain = Stays;
          })
          (λ (goes : HasMap (image 16) (map_after (map_of map) step)). record {
            after = with_map before (map_after before.map step);
            has = map_slot_alone l one.source image before has (map_after before.map step) has.same_n few one.others
                (subst (λ (m : PoolImage). HasMap (image 16) (map_after m step)) (sym same) goes);
            chain = one_link Step before (with_map before (map_after before.map step)) (move before one.source said one.was has same);
          })
          (one.stepped.maps held.text held.holds_map);
    })

-- the stores stay over a call on the map's slot
module _ {R : Type 0} (is_here : R → ℕ → Type 0) (reads_of : R → ℕ → ℕ → Option (List ℕ)) (clock_of : R → ℕ) (images_of : R → ℕ → Image → List ℕ → Type 0) (old new : R)
    (step : Areas → Areas → Type 0) (here : (s : ℕ) → is_here old s → is_here new s) (same : (s a : ℕ) → s ≢ 16 → reads_of new s a ≡ reads_of old s a)
    (run : During clock_of images_of old new (InSlot (images_of old (clock_of old)) 16 step)) (l : Layout) (few : l.n < 17) (shelf : Shelved) (own : AreOwn l shelf) where
  apart : (p : ℕ) (store : Store) → store_at shelf p ≡ Some store → p ≢ 16
  apart p store there e = omega (arith, e, few, (own.each p store there).below)

  pub shelf_ready : IsReadyShelf (is_here old) (reads_of old) (images_of old (clock_of old)) shelf → IsReadyShelf (is_here new) (reads_of new) (images_of new (clock_of new)) shelf
  shelf_ready r = record {
    each = λ p store there. store_ready_on is_here reads_of clock_of images_of old new 16 step here same run p store (apart p store there) (r.each p store there);
  }

  pub shelf_held : AreHeld (reads_of old) (images_of old (clock_of old)) shelf → AreHeld (reads_of new) (images_of new (clock_of new)) shelf
  shelf_held h = record {
    each = λ p store there. store_held_on is_here reads_of clock_of images_of old new 16 step here same run store
        (λ e. apart p store there (sym (own.each p store there).slot_is ∙ e)) (h.each p store there);
  }

-- an interval that may begin fits
pub begin_fits : (n : ℕ) (state : MapState) (up : ℕ) → last_epoch state.intervals + 1 < epoch_limit → up < 2 ^ n → fits n state (Begin (last_epoch state.intervals + 1) up) ≡ true
begin_fits n state up below inside = grind (arith, nat_tests)
