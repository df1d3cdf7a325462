-- What calls of a rig in memory do, from what they do to its log.
use Rattle.std.proofs.Common.{[], ◌≡◌, ◌≤◌, ◌++◌, ◌∙◌, ℕ, List, Option, Some, length, take, refl, sym, ap, subst}
use Rattle.rig_disk.specs.CallLaws.{now_at}
use Rattle.rig_disk.specs.CallLog.{Log, ImagesAt, Same, disk_after, leaves, push, log_clock, log_disk, said_after}
use Rattle.rig_disk.specs.SlotAreas.{image_of}
use Rattle.rig_disk.specs.Disk.{Image, IsOther, Torn, Cut, From, Saying, written}
use Rattle.rig_disk.specs.During.{During}
use Rattle.rig_disk.specs.MemRig.{log_of, disk_of}
use Rattle.rig_disk.specs.declared.call.Call.TheVariants.{Write, Shorten, Sync, Say}
use Rattle.rig_disk.specs.declared.mem_rig.MemRig.{MemRig}
use Rattle.rig_disk.proofs.LogLemmas.{idle, quiet, sync_reads, sync_moments, sync_durable, write_written, write_others, write_moments, torn_same, cut_taken_of, cut_others, cut_moments, cut_same, say_reads, say_said, say_moments}
use Rattle.std.proofs.lemmas.List.{append-nil}

abbrev pub rig_clock : MemRig → ℕ
rig_clock rig = log_clock (log_of rig)

abbrev pub rig_images : MemRig → ℕ → Image → List ℕ → Type 0
rig_images rig t image text = ImagesAt (log_of rig) t image text

abbrev pub images_now : MemRig → Image → List ℕ → Type 0
images_now rig image text = ImagesAt (log_of rig) (log_clock (log_of rig)) image text

over : (old new : MemRig) (P : Image → List ℕ → Type 0) → During log_clock ImagesAt (log_of old) (log_of new) P → During rig_clock rig_images old new P
over old new P run = record { later = run.later; kept = run.kept; stays = run.stays; each = run.each }

moved : (old new : MemRig) (log : Log) (P : Image → List ℕ → Type 0) → log_of new ≡ log → During log_clock ImagesAt (log_of old) log P → During rig_clock rig_images old new P
moved old new log P is run = over old new P (subst (λ l. During log_clock ImagesAt (log_of old) l P) (sym is) run)

-- a call that left the log as it was
unmoved : (old new : MemRig) (P : Image → List ℕ → Type 0) → log_of new ≡ log_of old → ((image : Image) (text : List ℕ) → images_now old image text → P image text) → During rig_clock rig_images old new P
unmoved old new P is here = moved old new (log_of old) P is (idle (log_of old) P here)

module _ (old new : MemRig) (slot area : ℕ) where
  pub write_unmoved : (at : ℕ) (bytes : List ℕ) → at ≤ length (disk_of old slot area) → log_of new ≡ log_of old → During rig_clock rig_images old new (From (images_now old) slot area (Torn at (length bytes)))
  write_unmoved at bytes fits is = unmoved old new (From (images_now old) slot area (Torn at (length bytes))) is
      (λ image text now. record { source = image; was = now; others = λ s a other. refl; stepped = torn_same (log_of old) slot area at bytes fits (image slot area) })

  pub rig_write_moments : (at : ℕ) (bytes : List ℕ) → at ≤ length (disk_of old slot area) → log_of new ≡ push (log_of old) (Write slot area at bytes) → During rig_clock rig_images old new (From (images_now old) slot area (Torn at (length bytes)))
  rig_write_moments at bytes fits is = moved old new (push (log_of old) (Write slot area at bytes)) (From (images_now old) slot area (Torn at (length bytes))) is (write_moments (log_of old) slot area at bytes fits)

  pub cut_unmoved : (len : ℕ) → log_of new ≡ log_of old → During rig_clock rig_images old new (From (images_now old) slot area (Cut len))
  cut_unmoved len is = unmoved old new (From (images_now old) slot area (Cut len)) is
      (λ image text now. record { source = image; was = now; others = λ s a other. refl; stepped = cut_same (log_of old) slot area len (image slot area) })

  pub rig_cut_moments : (len : ℕ) → log_of new ≡ push (log_of old) (Shorten slot area len) → During rig_clock rig_images old new (From (images_now old) slot area (Cut len))
  rig_cut_moments len is = moved old new (push (log_of old) (Shorten slot area len)) (From (images_now old) slot area (Cut len)) is (cut_moments (log_of old) slot area len)

  pub rig_sync_moments : log_of new ≡ push (log_of old) (Sync slot area) → During rig_clock rig_images old new (λ image text. images_now old image text)
  rig_sync_moments is = moved old new (push (log_of old) (Sync slot area)) (λ image text. images_now old image text) is (sync_moments (log_of old) slot area)

module _ (old new : MemRig) (bytes : List ℕ) where
  pub say_unmoved : log_of new ≡ log_of old → During rig_clock rig_images old new (Saying (images_now old) bytes)
  say_unmoved is = unmoved old new (Saying (images_now old) bytes) is (λ image text now. record { before = text; was = now; count = 0; said = sym (append-nil text) })

  pub rig_say_moments : log_of new ≡ push (log_of old) (Say bytes) → During rig_clock rig_images old new (Saying (images_now old) bytes)
  rig_say_moments is = moved old new (push (log_of old) (Say bytes)) (Saying (images_now old) bytes) is (say_moments (log_of old) bytes)

some_same : (a b : List ℕ) → ◌≡◌ {A = Option (List ℕ)} (Some a) (Some b) → a ≡ b
some_same a b e = cc

-- what is told of the log after a call
module _ (old new : Log) (slot area : ℕ) where
  module _ (at : ℕ) (bytes : List ℕ) (fits : at ≤ length (log_disk old slot area)) (is : new ≡ push old (Write slot area at bytes)) where
    pub told_written : ◌≡◌ {A = Option (List ℕ)} (Some (log_disk new slot area)) (Some (written at bytes (log_disk old slot area)))
    told_written = ap (λ (l : List ℕ). Some l) (ap (λ l. log_disk l slot area) is ∙ write_written old slot area at bytes fits)

    pub told_write_others : (s a : ℕ) → IsOther slot area s a → ◌≡◌ {A = Option (List ℕ)} (Some (log_disk new s a)) (Some (log_disk old s a))
    told_write_others s a other = ap (λ (l : List ℕ). Some l) (ap (λ l. log_disk l s a) is ∙ write_others old slot area at bytes fits s a other)

    pub told_write_said : ◌≡◌ {A = Option (List ℕ)} (Some (said_after new.calls)) (Some (said_after old.calls))
    told_write_said = ap (λ (l : List ℕ). Some l) (ap (λ (l : Log). said_after l.calls) is ∙ quiet old (Write slot area at bytes) refl)

  module _ (len : ℕ) (is : new ≡ push old (Shorten slot area len)) where
    pub told_cut : ◌≡◌ {A = Option (List ℕ)} (Some (log_disk new slot area)) (Some (take len (log_disk old slot area)))
    told_cut = ap (λ (l : List ℕ). Some l) (ap (λ l. log_disk l slot area) is ∙ cut_taken_of old slot area len)

    pub told_cut_others : (s a : ℕ) → IsOther slot area s a → ◌≡◌ {A = Option (List ℕ)} (Some (log_disk new s a)) (Some (log_disk old s a))
    told_cut_others s a other = ap (λ (l : List ℕ). Some l) (ap (λ l. log_disk l s a) is ∙ cut_others old slot area len s a other)

    pub told_cut_said : ◌≡◌ {A = Option (List ℕ)} (Some (said_after new.calls)) (Some (said_after old.calls))
    told_cut_said = ap (λ (l : List ℕ). Some l) (ap (λ (l : Log). said_after l.calls) is ∙ quiet old (Shorten slot area len) refl)

  module _ (is : new ≡ push old (Sync slot area)) where
    pub told_sync_reads : (s a : ℕ) → ◌≡◌ {A = Option (List ℕ)} (Some (log_disk new s a)) (Some (log_disk old s a))
    told_sync_reads s a = ap (λ (l : List ℕ). Some l) (ap (λ l. log_disk l s a) is ∙ sync_reads old slot area s a)

    pub told_sync_said : ◌≡◌ {A = Option (List ℕ)} (Some (said_after new.calls)) (Some (said_after old.calls))
    told_sync_said = ap (λ (l : List ℕ). Some l) (ap (λ (l : Log). said_after l.calls) is ∙ quiet old (Sync slot area) refl)

    pub told_sync_durable : (there : List ℕ) → ◌≡◌ {A = Option (List ℕ)} (Some (log_disk new slot area)) (Some there) → (image : Image) (text : List ℕ) → ImagesAt new (log_clock new) image text → image slot area ≡ there
    told_sync_durable there told image text now =
        subst (λ l. (i : Image) (x : List ℕ) → ImagesAt l (log_clock l) i x → i slot area ≡ log_disk l slot area) (sym is) (sync_durable old slot area) image text now ∙ some_same _ _ told

module _ (old new : Log) (bytes : List ℕ) (is : new ≡ push old (Say bytes)) where
  pub told_say_reads : (s a : ℕ) → ◌≡◌ {A = Option (List ℕ)} (Some (log_disk new s a)) (Some (log_disk old s a))
  told_say_reads s a = ap (λ (l : List ℕ). Some l) (ap (λ l. log_disk l s a) is ∙ say_reads old bytes s a)

  pub told_said : said_after new.calls ≡ said_after old.calls ++ bytes
  told_said = ap (λ (l : Log). said_after l.calls) is ∙ say_said old bytes

-- what a crash leaves is an image, as a rig of its own reads it
pub crash_image : (old new : Log) → new.calls ≡ [] → leaves old.calls (image_of old.first) (Same (image_of old.first)) (image_of new.first) → ImagesAt old (log_clock old) (log_disk new) (said_after old.calls)
crash_image old new none left = now_at old (log_disk new) (said_after old.calls)
    (subst (λ cs. leaves old.calls (image_of old.first) (Same (image_of old.first)) (disk_after cs (image_of new.first))) (sym none) left) refl
