-- Calls that are done again, one by one.
use Rattle.std.proofs.Common.{◌≡◌, ◌∙◌, ◌<◌, ◌+◌, inl, inr, ℕ, zero, suc, List, [], ◌∷◌, ◌++◌, length, take, get_or, refl, sym, ap, arith}
use Rattle.std.proofs.lemmas.Grind.{take_at_read}
use Rattle.rig_disk.specs.CallLaws.{put_here, put_other}
use Rattle.rig_disk.specs.CallLog.{AreSound, IsFitting, IsWithin, after, disk_after}
use Rattle.rig_disk.specs.Crash.{picked_after, picked_step}
use Rattle.rig_disk.specs.Disk.{Image, IsOther}
use Rattle.rig_disk.specs.SlotAreas.{put}
use Rattle.rig_disk.specs.declared.call.Call.{Call}
use Rattle.rig_disk.specs.declared.crash.Pick.{Pick}
use Rattle.rig_disk.proofs.AgreeLemmas.{same_or_other}
use Rattle.rig_disk.proofs.LogLemmas.{disk_after-push}

-- slots that differ in one area alone
pub put_is : (old new : Image) (slot area : ℕ) (bytes : List ℕ) → new slot area ≡ bytes → ((s a : ℕ) → IsOther slot area s a → new s a ≡ old s a) → new ≡ put slot area bytes old
put_is old new slot area bytes here others = λ i s a. each s a i
  where
    each : (s a : ℕ) → new s a ≡ put slot area bytes old s a
    each s a = elim (same_or_other slot area s a) [
      | inl same ↦ (λ i. new (same.0 i) (same.1 i)) ∙ here ∙ sym (put_here slot area bytes old) ∙ (λ i. put slot area bytes old (sym same.0 i) (sym same.1 i))
      | inr other ↦ others s a other ∙ sym (put_other slot area bytes old s a other)
    ]

-- each call is sound when it comes
pub sound_at : (calls : List Call) (disk : Image) (i : ℕ) (d : Call) → AreSound calls disk → i < length calls → IsWithin (get_or calls i d) × IsFitting (get_or calls i d) (disk_after (take i calls) disk)
sound_at [] disk i d sound inside = absurd (omega (arith, inside))
sound_at (call ∷ calls) disk zero d sound inside = (sound.0, sound.1)
sound_at (call ∷ calls) disk (suc i) d sound inside = sound_at calls (after call disk) i d sound.2 (omega (arith, inside))

picked-push : (pick : Pick) (calls : List Call) (call : Call) (disk image : Image) → picked_after pick (calls ++ call ∷ []) disk image ≡ picked_step pick call (disk_after (calls ++ call ∷ []) disk) (picked_after pick calls disk image)
picked-push pick [] call disk image = refl
picked-push pick (c ∷ calls) call disk image = picked-push pick calls call (after c disk) (picked_step pick c (after c disk) image)

pub disk_next : (calls : List Call) (i : ℕ) (d : Call) (disk : Image) → i < length calls → disk_after (take (i + 1) calls) disk ≡ after (get_or calls i d) (disk_after (take i calls) disk)
disk_next calls i d disk inside = ap (λ cs. disk_after cs disk) (take_at_read calls i d inside).1 ∙ disk_after-push (take i calls) (get_or calls i d) disk

pub picked_next : (pick : Pick) (calls : List Call) (i : ℕ) (d : Call) (disk image : Image) → i < length calls
    → picked_after pick (take (i + 1) calls) disk image ≡ picked_step pick (get_or calls i d) (disk_after (take (i + 1) calls) disk) (picked_after pick (take i calls) disk image)
picked_next pick calls i d disk image inside = let next = (take_at_read calls i d inside).1 in
    ap (λ cs. picked_after pick cs disk image) next ∙ picked-push pick (take i calls) (get_or calls i d) disk image
    ∙ ap (λ cs. picked_step pick (get_or calls i d) (disk_after cs disk) (picked_after pick (take i calls) disk image)) (sym next)
