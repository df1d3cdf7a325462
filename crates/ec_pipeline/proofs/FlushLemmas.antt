-- The flush of one slot: what its answer says.
use Rattle.std.proofs.Common.{◌≡◌, ◌⊎◌, ◌↔◌, [], ℕ, true, false, Option, Some, None, Result, Ok, Err, refl, sym, ap, inl, inr}
use Rattle.std.specs.Prelude.{IfSome, IsSome, is_ok}
use Rattle.std.proofs.lemmas.Bool.{false≢true}
use Rattle.rig_disk.specs.Faults.{Rose}
use Rattle.shard_store.specs.Faults.{HasStoreCause}
use Rattle.shard_store.specs.OnSlot.{ChangesAt}
use Rattle.shard_store.specs.Stored.{told_in, is_stuck, IsFlushed}
use Rattle.shard_store.specs.declared.fault.StoreFault.TheVariants.{Failed, Spent}
use Rattle.shard_store.specs.declared.fault.StoreFault.{StoreFault}
use Rattle.shard_store.specs.declared.store.Store.{Store}
use Rattle.ec_pipeline.specs.Flushing.{FlushedAt, IsBarredAt}

abbrev pub done_as : (T : Type 0) → T → Result T StoreFault
done_as T value = Ok value

abbrev pub failed_as : (T : Type 0) → StoreFault → Result T StoreFault
failed_as T fault = Err fault

pub ok_flushed : (T : Type 0) (value : T) (old new : Option Store) → ChangesAt (λ before now. IsFlushed before now (done_as T value)) old new → FlushedAt old new true
ok_flushed T value None new is = (is, refl)
ok_flushed T value (Some old) None is = absurd is
ok_flushed T value (Some old) (Some new) is = record {
  slot_is = is.slot_is;
  n_is = is.n;
  done = λ _. is.flushed;
  unspent = λ _. is.unspent;
  lost = λ never. absurd (false≢true (sym never));
  stuck = λ never. absurd (false≢true (sym never));
}

pub err_flushed : (T : Type 0) (fault : StoreFault) (old new : Option Store) → IsSome old → ChangesAt (λ before now. IsFlushed before now (failed_as T fault)) old new → FlushedAt old new false
err_flushed T fault None new some is = absurd (false≢true some)
err_flushed T fault (Some old) None some is = absurd is
err_flushed T fault (Some old) (Some new) some is = record {
  slot_is = is.slot_is;
  n_is = is.n;
  done = λ never. absurd (false≢true never);
  unspent = λ never. absurd (false≢true never);
  lost = λ _. is.kept;
  stuck = λ _. is.spent;
}

-- a store answers `Spent` exactly if it is barred
abbrev IsBar : (T : Type 0) → Result T StoreFault → Option Store → Type 0
IsBar T result o = IfSome o (λ store. (result ≡ failed_as T Spent) ↔ (is_stuck store × ((told_in store).pending ≡ [] → ⊥)))

barred : (T : Type 0) (result : Result T StoreFault) (o : Option Store) → IsSome o → IsBar T result o → result ≡ failed_as T Spent → IsBarredAt o
barred T result None some bar is = absurd (false≢true some)
barred T result (Some store) some bar is = bar.0 is

pub err_cause : (T : Type 0) (fault : StoreFault) (before now : ℕ) (o : Option Store) → (fault ≡ Failed) ⊎ (fault ≡ Spent) → IsSome o → IsBar T (failed_as T fault) o
    → HasStoreCause before now (failed_as T fault) → Rose before now ⊎ IsBarredAt o
err_cause T fault before now o (inl is) some bar cause = inl (cause.failed (ap (failed_as T) is))
err_cause T fault before now o (inr is) some bar cause = inr (barred T (failed_as T fault) o some bar (ap (failed_as T) is))

pub ok_unbarred : (T : Type 0) (value : T) (o : Option Store) → IsBar T (done_as T value) o → IsBarredAt o → ⊥
ok_unbarred T value None bar is = is
ok_unbarred T value (Some store) bar is = false≢true (sym (ap is_ok (bar.1 is)))

pub ok_quiet : (T : Type 0) (value : T) (before now : ℕ) → HasStoreCause before now (done_as T value) → now ≡ before
ok_quiet T value before now cause = cause.quiet (λ never. false≢true (sym (ap is_ok never)))
