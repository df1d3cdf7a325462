-- What the slots show after a flush.
use Rattle.std.proofs.Common.{◌≡◌, ℕ, ◌<◌, ◌^◌, inl, inr, Bool, true, false, List, length, refl, sym, ap, ◌∙◌, subst, arith, Option, Some, None}
use Rattle.std.specs.Prelude.{IfSome, IsSomeAnd}
use Rattle.std.proofs.lemmas.Bool.{cases_eq}
use Rattle.std.specs.Int.{bit_at}
use Rattle.rig_disk.specs.Disk.{Image}
use Rattle.ec_model.specs.Codes.{CodeRows, HasPosition}
use Rattle.ec_model.specs.Versions.{Version}
use Rattle.shard_model.specs.Shards.{Shard}
use Rattle.shard_store.specs.Shelved.{Shelved}
use Rattle.shard_store.specs.Shelves.{store_at}
use Rattle.shard_store.specs.Stored.{told_in}
use Rattle.shard_store.specs.Told.{Told}
use Rattle.shard_store.specs.declared.store.Store.{Store}
use Rattle.ec_positions.specs.Objects.{Objects}
use Rattle.ec_pipeline.specs.Flushing.{Flushed, FlushedAt, AreFlushed}
use Rattle.ec_pipeline.specs.Preparing.{IsReady, AreReady}
use Rattle.ec_pipeline.specs.Showing.{IsPosition, ShowsAt}
use Rattle.ec_pipeline.proofs.FlushAllLemmas.{truth}
use Rattle.ec_pipeline.proofs.SetLemmas.{position_below}
use Rattle.std.proofs.lemmas.Nat.Bits.{bit_at-zero}

shard_same : (old new : Store) (kept : Bool) → Flushed old new kept → (told_in new).shard ≡ (told_in old).shard
shard_same old new kept is = elim (truth kept) [
  | inl done ↦ ap (λ (t : Told). t.shard) (is.done done)
  | inr lost ↦ ap (λ (t : Told). t.shard) (is.lost lost)
]

position_same : (code : CodeRows) (unit p : ℕ) (m : Objects) (old new : Option Store) (kept : Bool) → FlushedAt old new kept
    → IfSome old (λ store. IsPosition code unit p m (told_in store)) → IfSome new (λ store. IsPosition code unit p m (told_in store))
position_same code unit p m None new kept is at = subst (λ (o : Option Store). IfSome o (λ store. IsPosition code unit p m (told_in store))) (sym is.0) tt
position_same code unit p m (Some old) None kept is at = absurd is
position_same code unit p m (Some old) (Some new) kept is at = record {
  geometry_is = ap (λ (s : Shard). s.geometry) (shard_same old new kept is) ∙ at.geometry_is;
  objects_are = ap (λ (s : Shard). s.state.objects) (shard_same old new kept is) ∙ at.objects_are;
}

head_same : (head : Version) (old new : Option Store) (kept : Bool) → FlushedAt old new kept
    → IfSome old (λ store. (told_in store).shard.state.head ≡ head) → IfSome new (λ store. (told_in store).shard.state.head ≡ head)
head_same head None new kept is at = subst (λ (o : Option Store). IfSome o (λ store. (told_in store).shard.state.head ≡ head)) (sym is.0) tt
head_same head (Some old) None kept is at = absurd is
head_same head (Some old) (Some new) kept is at = ap (λ (s : Shard). s.state.head) (shard_same old new kept is) ∙ at

ready_again : (k queued : ℕ) (old new : Option Store) → FlushedAt old new true → IsSomeAnd old (IsReady k queued) → IsSomeAnd new (IsReady k 0)
ready_again k queued None new is ready = absurd ready
ready_again k queued (Some old) None is ready = absurd is
ready_again k queued (Some old) (Some new) is ready = record {
  k_is = ap (λ (s : Shard). s.geometry.k) (shard_same old new true is) ∙ ready.k_is;
  accepted = ap (λ (t : Told). t.staged) (is.done refl) ∙ ready.accepted;
  short = omega (arith, ap (λ (t : Told). length t.pending) (is.done refl));
}

module _ {R : Type 0} (is_here : R → ℕ → Type 0) (reads : R → ℕ → ℕ → Option (List ℕ)) (said_of : R → Option (List ℕ)) (clock : R → ℕ) (images : R → ℕ → Image → List ℕ → Type 0) (faults : R → ℕ → ℕ) where
  -- a slot of the set was flushed, or is lost
  either : (set lost : ℕ) (old_shelf new_shelf : Shelved) (old new : R) → AreFlushed is_here reads said_of clock images faults set 16 lost old_shelf new_shelf old new
      → set < 2 ^ 16 → (s : ℕ) → HasPosition set s → (kept : Bool) × FlushedAt (store_at old_shelf s) (store_at new_shelf s) kept
  either set lost old_shelf new_shelf old new round few s has = elim (cases_eq (bit_at lost s) 1) [
    | inl gone ↦ (false, (round.failed s gone).store)
    | inr stays ↦ (true, round.done s (position_below 16 set s few has) has stays)
  ]

  pub shows_on : (set lost : ℕ) (old_shelf new_shelf : Shelved) (old new : R) → AreFlushed is_here reads said_of clock images faults set 16 lost old_shelf new_shelf old new
      → set < 2 ^ 16 → (code : CodeRows) (unit : ℕ) (m : Objects) (head : Version) → ShowsAt code unit set m head old_shelf → ShowsAt code unit set m head new_shelf
  shows_on set lost old_shelf new_shelf old new round few code unit m head shown = record {
    shows = record {
      positions = λ s has. let is = either set lost old_shelf new_shelf old new round few s has in
          position_same code unit s m (store_at old_shelf s) (store_at new_shelf s) is.0 is.1 (shown.shows.positions s has);
      bytes = shown.shows.bytes;
      within = shown.shows.within;
    };
    heads = λ s has. let is = either set lost old_shelf new_shelf old new round few s has in
        head_same head (store_at old_shelf s) (store_at new_shelf s) is.0 is.1 (shown.heads s has);
  }

  pub ready_on : (set lost : ℕ) (old_shelf new_shelf : Shelved) (old new : R) → AreFlushed is_here reads said_of clock images faults set 16 lost old_shelf new_shelf old new
      → set < 2 ^ 16 → lost ≡ 0 → (k queued : ℕ) → AreReady k queued set old_shelf → AreReady k 0 set new_shelf
  ready_on set lost old_shelf new_shelf old new round few none k queued ready s has =
      ready_again k queued (store_at old_shelf s) (store_at new_shelf s) (round.done s (position_below 16 set s few has) has stays) (ready s has)
    where
      stays : HasPosition lost s → ⊥
      stays gone = let z = bit_at-zero s in let there = subst (λ l. HasPosition l s) none gone in omega arith
