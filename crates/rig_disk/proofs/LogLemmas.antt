-- One call more on a list of calls: what reads give, and what holds at every instant of it.
use Rattle.std.proofs.Common.{◌≡◌, ◌∙◌, ◌≤◌, ◌<◌, ⊎_elim, ◌+◌, ◌-◌, ◌/◌, ℕ, List, [], ◌∷◌, ◌++◌, length, take, refl, sym, ap, subst, arith, length-append, append_assoc, min}
use Rattle.std.proofs.lemmas.List.{take_all, take-append-le, append-nil}
use Rattle.std.proofs.lemmas.Bool.{cases_lt}
use Rattle.std.proofs.Math.Seq.{take-append-add}
use Rattle.rig_disk.specs.CallLaws.{put_here, put_other, now_at, left_now}
use Rattle.rig_disk.specs.CallLog.{Log, ImagesAt, IsSaid, Same, push, log_clock, log_disk, said_after, leaves, may_leave, disk_after, after}
use Rattle.rig_disk.specs.Disk.{Image, IsOther, Torn, Cut, From, Saying, written}
use Rattle.rig_disk.specs.During.{During, Only}
use Rattle.rig_disk.specs.SlotAreas.{image_of, put}
use Rattle.rig_disk.specs.declared.call.Call.{Call}
use Rattle.rig_disk.specs.declared.call.Call.TheVariants.{Write, Shorten, Sync, Say}

pub leaves-push : (calls : List Call) (call : Call) (disk : Image) (P : Image → Type 0) (image : Image) → leaves (calls ++ call ∷ []) disk P image → may_leave call (disk_after calls disk) (leaves calls disk P) image
leaves-push [] call disk P image left = left
leaves-push (c ∷ calls) call disk P image left = leaves-push calls call (after c disk) (may_leave c disk P) image left

pub disk_after-push : (calls : List Call) (call : Call) (disk : Image) → disk_after (calls ++ call ∷ []) disk ≡ after call (disk_after calls disk)
disk_after-push [] call disk = refl
disk_after-push (c ∷ calls) call disk = disk_after-push calls call (after c disk)

pub said-push : (calls : List Call) (call : Call) → said_after (calls ++ call ∷ []) ≡ said_after calls ++ said_after (call ∷ [])
said-push [] call = refl
said-push (Say bytes ∷ calls) call = ap (λ (l : List ℕ). bytes ++ l) (said-push calls call) ∙ sym (append_assoc bytes (said_after calls) (said_after (call ∷ [])))
said-push (Write s a at bytes ∷ calls) call = said-push calls call
said-push (Shorten s a len ∷ calls) call = said-push calls call
said-push (Sync s a ∷ calls) call = said-push calls call

module _ (log : Log) (call : Call) where
  abbrev pub first_images : Image → Type 0
  first_images = Same (image_of log.first)

  -- the earlier numbers stand for what they stood for
  begun : (t : ℕ) → t ≤ log_clock log → take ((t + 1) / 2) (log.calls ++ call ∷ []) ≡ take ((t + 1) / 2) log.calls
  begun t le = take-append-le ((t + 1) / 2) log.calls (call ∷ []) (omega (arith, le))

  finished : (t : ℕ) → t ≤ log_clock log → take (t / 2) (log.calls ++ call ∷ []) ≡ take (t / 2) log.calls
  finished t le = take-append-le (t / 2) log.calls (call ∷ []) (omega (arith, le))

  there : (t : ℕ) (image : Image) (text : List ℕ) → t ≤ log_clock log → ImagesAt (push log call) t image text → ImagesAt log t image text
  there t image text le now = record {
    reached = le;
    left = subst (λ cs. leaves cs (image_of log.first) first_images image) (begun t le) now.left;
    spoken = subst (λ cs. IsSaid cs (take ((t + 1) / 2) log.calls) text) (finished t le) (subst (λ cs. IsSaid (take (t / 2) (log.calls ++ call ∷ [])) cs text) (begun t le) now.spoken);
  }

  back : (t : ℕ) (image : Image) (text : List ℕ) → t ≤ log_clock log → ImagesAt log t image text → ImagesAt (push log call) t image text
  back t image text le now = record {
    reached = omega (arith, le, length-append log.calls (call ∷ []));
    left = subst (λ cs. leaves cs (image_of log.first) first_images image) (sym (begun t le)) now.left;
    spoken = subst (λ cs. IsSaid (take (t / 2) (log.calls ++ call ∷ [])) cs text) (sym (begun t le)) (subst (λ cs. IsSaid cs (take ((t + 1) / 2) log.calls) text) (sym (finished t le)) now.spoken);
  }

  -- at the new numbers the call is begun
  begun_last : (t : ℕ) → log_clock log < t → take ((t + 1) / 2) (log.calls ++ call ∷ []) ≡ log.calls ++ call ∷ []
  begun_last t low = take_all ((t + 1) / 2) (log.calls ++ call ∷ []) (omega (arith, low, length-append log.calls (call ∷ [])))

  longer : (t : ℕ) → log_clock log < t → length (said_after log.calls) ≤ length (said_after (take (t / 2) (log.calls ++ call ∷ [])))
  longer t low = ⊎_elim
      (λ (more : log_clock log + 1 < t). subst (λ cs. length (said_after log.calls) ≤ length (said_after cs)) (sym (take_all (t / 2) (log.calls ++ call ∷ []) (omega (arith, more, length-append log.calls (call ∷ [])))))
      (omega (arith, ap length (said-push log.calls call), length-append (said_after log.calls) (said_after (call ∷ [])))))
      (λ (less : t ≤ log_clock log + 1). subst (λ cs. length (said_after log.calls) ≤ length (said_after cs)) (sym (take-append-le (t / 2) log.calls (call ∷ []) (omega (arith, less)) ∙ take_all (t / 2) log.calls (omega (arith, low)))) (omega arith))
      (cases_lt (log_clock log + 1) t)

  last : (t : ℕ) (image : Image) (text : List ℕ) → log_clock log < t → ImagesAt (push log call) t image text
      → may_leave call (log_disk log) (leaves log.calls (image_of log.first) first_images) image × IsSaid log.calls (log.calls ++ call ∷ []) text
  last t image text low now = (
    leaves-push log.calls call (image_of log.first) first_images image (subst (λ cs. leaves cs (image_of log.first) first_images image) (begun_last t low) now.left),
    record { count = now.spoken.count; whole = omega (arith, longer t low, now.spoken.whole); said = now.spoken.said ∙ ap (λ cs. take now.spoken.count (said_after cs)) (begun_last t low) },
  )

  only_now : (t : ℕ) → log_clock log ≤ t → t ≤ log_clock log → t ≡ log_clock log
  only_now t low high = omega arith

  -- what holds at every instant of the call
  pub called : (P : Image → List ℕ → Type 0) → ((image : Image) (text : List ℕ) → ImagesAt log (log_clock log) image text → P image text)
      → ((image : Image) (text : List ℕ) → may_leave call (log_disk log) (leaves log.calls (image_of log.first) first_images) image → IsSaid log.calls (log.calls ++ call ∷ []) text → P image text)
      → During log_clock ImagesAt log (push log call) P
  called P here then = record {
    later = omega (arith, length-append log.calls (call ∷ []));
    kept = λ t image text le now. there t image text le now;
    stays = λ t image text le now. back t image text le now;
    each = λ t image text low high now. ⊎_elim
        (λ (late : log_clock log < t). let l = last t image text late now in then image text l.0 l.1)
        (λ (early : t ≤ log_clock log). here image text (subst (λ u. ImagesAt log u image text) (only_now t low early) (there t image text early now)))
        (cases_lt (log_clock log) t);
  }

  -- if it says nothing, what was said is as before
  pub quiet : said_after (call ∷ []) ≡ [] → said_after (log.calls ++ call ∷ []) ≡ said_after log.calls
  quiet nothing = said-push log.calls call ∙ ap (λ (l : List ℕ). said_after log.calls ++ l) nothing ∙ append-nil (said_after log.calls)

  pub quiet_said : said_after (call ∷ []) ≡ [] → (text : List ℕ) → IsSaid log.calls (log.calls ++ call ∷ []) text → text ≡ said_after log.calls
  quiet_said nothing text spoken = spoken.said ∙ ap (λ (l : List ℕ). take spoken.count l) (quiet nothing) ∙ take_all spoken.count (said_after log.calls) spoken.whole

  -- what reads give after it
  pub reads-push : (s a : ℕ) → log_disk (push log call) s a ≡ after call (log_disk log) s a
  reads-push s a = ap (λ (f : Image). f s a) (disk_after-push log.calls call (image_of log.first))

-- nothing was called
pub idle : (log : Log) (P : Image → List ℕ → Type 0) → ((image : Image) (text : List ℕ) → ImagesAt log (log_clock log) image text → P image text) → During log_clock ImagesAt log log P
idle log P here = record {
  later = omega arith;
  kept = λ t image text le now. now;
  stays = λ t image text le now. now;
  each = λ t image text low high now. here image text (subst (λ u. ImagesAt log u image text) (only_now log (Say []) t low high) now);
}

module _ (log : Log) (slot area : ℕ) where
  -- a sync
  pub sync_reads : (s a : ℕ) → log_disk (push log (Sync slot area)) s a ≡ log_disk log s a
  sync_reads s a = reads-push log (Sync slot area) s a

  pub sync_moments : During log_clock ImagesAt log (push log (Sync slot area)) (λ image text. ImagesAt log (log_clock log) image text)
  sync_moments = called log (Sync slot area) (λ image text. ImagesAt log (log_clock log) image text) (λ image text now. now)
      (λ image text left spoken. now_at log image text left.0 (quiet_said log (Sync slot area) refl text spoken))

  pub sync_durable : Only log_clock ImagesAt (push log (Sync slot area)) slot area (log_disk (push log (Sync slot area)) slot area)
  sync_durable image text now =
      (leaves-push log.calls (Sync slot area) (image_of log.first) (Same (image_of log.first)) image (left_now (push log (Sync slot area)) image text now)).1 ∙ sym (sync_reads slot area)

  -- a write
  module _ (at : ℕ) (bytes : List ℕ) (fits : at ≤ length (log_disk log slot area)) where
    place : min at (length (log_disk log slot area)) ≡ at
    place = omega (arith, fits)

    abbrev call : Call
    call = Write slot area at bytes

    disk_now : (s a : ℕ) → log_disk (push log call) s a ≡ put slot area (written at bytes (log_disk log slot area)) (log_disk log) s a
    disk_now s a = reads-push log call s a ∙ ap (λ n. put slot area (written n bytes (log_disk log slot area)) (log_disk log) s a) place

    pub write_written : log_disk (push log call) slot area ≡ written at bytes (log_disk log slot area)
    write_written = disk_now slot area ∙ put_here slot area (written at bytes (log_disk log slot area)) (log_disk log)

    pub write_others : (s a : ℕ) → IsOther slot area s a → log_disk (push log call) s a ≡ log_disk log s a
    write_others s a other = disk_now s a ∙ put_other slot area (written at bytes (log_disk log slot area)) (log_disk log) s a other

    pub torn_same : (l : List ℕ) → Torn at (length bytes) l l
    torn_same l = record { before = refl; after = refl; no_shorter = omega arith; no_longer = omega arith }

    pub write_moments : During log_clock ImagesAt log (push log call) (From (ImagesAt log (log_clock log)) slot area (Torn at (length bytes)))
    write_moments = called log call (From (ImagesAt log (log_clock log)) slot area (Torn at (length bytes)))
        (λ image text now. record { source = image; was = now; others = λ s a other. refl; stepped = torn_same (image slot area) })
        (λ image text left spoken. record {
          source = left.source;
          was = now_at log left.source text left.was (quiet_said log call refl text spoken);
          others = left.others;
          stepped = subst (λ n. Torn n (length bytes) (left.source slot area) (image slot area)) place left.stepped;
        })

  -- a cut
  module _ (len : ℕ) where
    abbrev shorten : Call
    shorten = Shorten slot area len

    pub cut_taken_of : log_disk (push log shorten) slot area ≡ take len (log_disk log slot area)
    cut_taken_of = reads-push log shorten slot area ∙ put_here slot area (take len (log_disk log slot area)) (log_disk log)

    pub cut_others : (s a : ℕ) → IsOther slot area s a → log_disk (push log shorten) s a ≡ log_disk log s a
    cut_others s a other = reads-push log shorten s a ∙ put_other slot area (take len (log_disk log slot area)) (log_disk log) s a other

    pub cut_same : (l : List ℕ) → Cut len l l
    cut_same l = record { no_shorter = omega arith; front = take_all (length l) l (omega arith) }

    pub cut_moments : During log_clock ImagesAt log (push log shorten) (From (ImagesAt log (log_clock log)) slot area (Cut len))
    cut_moments = called log shorten (From (ImagesAt log (log_clock log)) slot area (Cut len))
        (λ image text now. record { source = image; was = now; others = λ s a other. refl; stepped = cut_same (image slot area) })
        (λ image text left spoken. record {
          source = left.source;
          was = now_at log left.source text left.was (quiet_said log shorten refl text spoken);
          others = left.others;
          stepped = left.stepped;
        })

-- something is said
module _ (log : Log) (bytes : List ℕ) where
  pub say_reads : (s a : ℕ) → log_disk (push log (Say bytes)) s a ≡ log_disk log s a
  say_reads s a = reads-push log (Say bytes) s a

  pub say_said : said_after (log.calls ++ Say bytes ∷ []) ≡ said_after log.calls ++ bytes
  say_said = said-push log.calls (Say bytes) ∙ ap (λ (l : List ℕ). said_after log.calls ++ l) (append-nil bytes)

  pub say_moments : During log_clock ImagesAt log (push log (Say bytes)) (Saying (ImagesAt log (log_clock log)) bytes)
  say_moments = called log (Say bytes) (Saying (ImagesAt log (log_clock log)) bytes)
      (λ image text now. record { before = text; was = now; count = 0; said = sym (append-nil text) })
      (λ image text left spoken. record {
        before = said_after log.calls;
        was = now_at log image (said_after log.calls) left refl;
        count = spoken.count - length (said_after log.calls);
        said = spoken.said ∙ ap (λ (l : List ℕ). take spoken.count l) say_said ∙ ap (λ n. take n (said_after log.calls ++ bytes)) (split spoken.count spoken.whole) ∙ take-append-add (said_after log.calls) bytes (spoken.count - length (said_after log.calls));
      })
    where
      split : (n : ℕ) → length (said_after log.calls) ≤ n → n ≡ length (said_after log.calls) + (n - length (said_after log.calls))
      split n le = omega (arith, le)
