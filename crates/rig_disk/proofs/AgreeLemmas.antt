-- What is kept besides the calls is what they make: it stays so over one call more.
use Rattle.std.proofs.Common.{◌≡◌, ◌∙◌, ◌≤◌, ◌⊎◌, inl, inr, ℕ, List, [], ◌∷◌, ◌++◌, length, take, refl, sym, ap, arith, subst}
use Rattle.std.proofs.lemmas.Bool.{cases_eq}
use Rattle.rig_disk.specs.CallLog.{Log, Agrees, AreSound, IsWithin, IsFitting, after, disk_after, log_disk}
use Rattle.rig_disk.specs.Disk.{Image, IsOther, written}
use Rattle.rig_disk.specs.SlotAreas.{Pair, image_of}
use Rattle.rig_disk.specs.declared.call.Call.{Call}
use Rattle.rig_disk.specs.declared.call.Call.TheVariants.{Write, Shorten, Sync, Say}
use Rattle.rig_disk.proofs.LogLemmas.{quiet, sync_reads, say_reads, say_said, write_written, write_others, cut_taken_of, cut_others}

abbrev pub log_of : Pair → List Call → Log
log_of first calls = record { first = first; calls = calls }

pub AreSound-push : (calls : List Call) (call : Call) (disk : Image) → AreSound calls disk → IsWithin call → IsFitting call (disk_after calls disk) → AreSound (calls ++ call ∷ []) disk
AreSound-push [] call disk sound within fits = (within, fits, tt)
AreSound-push (c ∷ calls) call disk sound within fits = (sound.0, sound.1, AreSound-push calls call (after c disk) sound.2 within fits)

pub same_or_other : (slot area s a : ℕ) → ((s ≡ slot) × (a ≡ area)) ⊎ IsOther slot area s a
same_or_other slot area s a = elim (cases_eq s slot) [
  | inr differs ↦ inr (inl differs)
  | inl is_slot ↦ elim (cases_eq a area) [
    | inr differs ↦ inr (inr differs)
    | inl is_area ↦ inl (is_slot, is_area)
  ]
]

module _ (first disk disk' : Pair) (calls : List Call) (said : List ℕ) (agrees : Agrees first disk calls said) (slot area : ℕ) (is_slot : slot ≤ 16) (is_area : area ≤ 1) (others : (s a : ℕ) → IsOther slot area s a → image_of disk' s a ≡ image_of disk s a) where
  pub write_agrees : (at : ℕ) (bytes : List ℕ) → at ≤ length (image_of disk slot area) → image_of disk' slot area ≡ written at bytes (image_of disk slot area) → Agrees first disk' (calls ++ Write slot area at bytes ∷ []) said
  write_agrees at bytes fits here = record {
    reads = λ s a. elim (same_or_other slot area s a) [
      | inl same ↦ (λ i. image_of disk' (same.0 i) (same.1 i)) ∙ here ∙ ap (written at bytes) (agrees.reads slot area) ∙ sym (write_written (log_of first calls) slot area at bytes within)
          ∙ (λ i. log_disk (log_of first (calls ++ Write slot area at bytes ∷ [])) (sym same.0 i) (sym same.1 i))
      | inr other ↦ others s a other ∙ agrees.reads s a ∙ sym (write_others (log_of first calls) slot area at bytes within s a other)
    ];
    spoken = agrees.spoken ∙ sym (quiet (log_of first calls) (Write slot area at bytes) refl);
    sound = AreSound-push calls (Write slot area at bytes) (image_of first) agrees.sound (is_slot, is_area) within;
  }
    where
      within : at ≤ length (log_disk (log_of first calls) slot area)
      within = omega (arith, fits, ap length (agrees.reads slot area))

  pub cut_agrees : (len : ℕ) → image_of disk' slot area ≡ take len (image_of disk slot area) → Agrees first disk' (calls ++ Shorten slot area len ∷ []) said
  cut_agrees len here = record {
    reads = λ s a. elim (same_or_other slot area s a) [
      | inl same ↦ (λ i. image_of disk' (same.0 i) (same.1 i)) ∙ here ∙ ap (take len) (agrees.reads slot area) ∙ sym (cut_taken_of (log_of first calls) slot area len)
          ∙ (λ i. log_disk (log_of first (calls ++ Shorten slot area len ∷ [])) (sym same.0 i) (sym same.1 i))
      | inr other ↦ others s a other ∙ agrees.reads s a ∙ sym (cut_others (log_of first calls) slot area len s a other)
    ];
    spoken = agrees.spoken ∙ sym (quiet (log_of first calls) (Shorten slot area len) refl);
    sound = AreSound-push calls (Shorten slot area len) (image_of first) agrees.sound (is_slot, is_area) tt;
  }

  -- the areas are as before, and the call was taken back
  pub kept_agrees : image_of disk' slot area ≡ image_of disk slot area → Agrees first disk' calls said
  kept_agrees here = record {
    reads = λ s a. elim (same_or_other slot area s a) [
      | inl same ↦ (λ i. image_of disk' (same.0 i) (same.1 i)) ∙ here ∙ (λ i. image_of disk (sym same.0 i) (sym same.1 i)) ∙ agrees.reads s a
      | inr other ↦ others s a other ∙ agrees.reads s a
    ];
    spoken = agrees.spoken;
    sound = agrees.sound;
  }

module _ (first disk : Pair) (calls : List Call) (said : List ℕ) (agrees : Agrees first disk calls said) where
  pub sync_agrees : (slot area : ℕ) → slot ≤ 16 → area ≤ 1 → Agrees first disk (calls ++ Sync slot area ∷ []) said
  sync_agrees slot area is_slot is_area = record {
    reads = λ s a. agrees.reads s a ∙ sym (sync_reads (log_of first calls) slot area s a);
    spoken = agrees.spoken ∙ sym (quiet (log_of first calls) (Sync slot area) refl);
    sound = AreSound-push calls (Sync slot area) (image_of first) agrees.sound (is_slot, is_area) tt;
  }

  pub say_agrees : (bytes : List ℕ) → Agrees first disk (calls ++ Say bytes ∷ []) (said ++ bytes)
  say_agrees bytes = record {
    reads = λ s a. agrees.reads s a ∙ sym (say_reads (log_of first calls) bytes s a);
    spoken = ap (λ (l : List ℕ). l ++ bytes) agrees.spoken ∙ sym (say_said (log_of first calls) bytes);
    sound = AreSound-push calls (Say bytes) (image_of first) agrees.sound tt tt;
  }

  -- if a write fits what reads give, it fits what is kept
  pub fits_too : (slot area at : ℕ) (seen : Log) → log_of first calls ≡ seen → at ≤ length (log_disk seen slot area) → at ≤ length (image_of disk slot area)
  fits_too slot area at seen is fits = subst (λ n. at ≤ n) (sym (ap length (agrees.reads slot area) ∙ ap (λ l. length (log_disk l slot area)) is)) fits
