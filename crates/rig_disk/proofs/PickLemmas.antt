-- What a pick leaves is an image: the images after any calls may be mixed area by area, and each call takes the pick along.
use Rattle.std.proofs.Common.{◌≡◌, ◌∙◌, ◌≤◌, ◌⊎◌, ⊎_elim, inl, inr, ◌+◌, ◌==◌, if◌then◌else◌, Bool, true, false, max, min, ℕ, List, [], ◌∷◌, ◌++◌, length, take, drop, replicate, refl, sym, ap, subst, arith, length-append, length-take, length-drop}
use Rattle.std.proofs.lemmas.List.{take_min, length-replicate, length-take-le, same_lists, places}
use Rattle.rig_disk.specs.CallLaws.{put_here, put_other, torn_written, cut_taken, is_image}
use Rattle.rig_disk.specs.CallLog.{Log, AreSound, IsFitting, Same, Stepped, after, leaves, may_leave}
use Rattle.rig_disk.specs.Crash.{crashed, picked_after, picked_step}
use Rattle.rig_disk.specs.Disk.{Image, IsOther, Torn, Cut, written}
use Rattle.rig_disk.specs.SlotAreas.{image_of, put}
use Rattle.rig_disk.specs.declared.call.Call.{Call}
use Rattle.rig_disk.specs.declared.call.Call.TheVariants.{Write, Shorten, Sync, Say}
use Rattle.rig_disk.specs.declared.crash.Pick.{Pick}
use Rattle.rig_disk.specs.declared.crash.Pick.TheVariants.{Synced, Marked, Shortest}
use Rattle.rig_disk.proofs.AgreeLemmas.{same_or_other}

module _ (slot area : ℕ) where
  -- the first image with one area of the second
  abbrev pub mix : Image → Image → Image
  mix i j = put slot area (j slot area) i

  -- each area is the first's or the second's, whatever the images
  which : (s a : ℕ) → ((i j : Image) → mix i j s a ≡ i s a) ⊎ ((i j : Image) → mix i j s a ≡ j s a)
  which s a = elim (same_or_other slot area s a) [
    | inr other ↦ inl (λ i j. put_other slot area (j slot area) i s a other)
    | inl same ↦ inr (λ i j. (λ k. mix i j (same.0 k) (same.1 k)) ∙ put_here slot area (j slot area) i ∙ (λ k. j (sym same.0 k) (sym same.1 k)))
  ]

  abbrev pub Mixes : (Image → Type 0) → Type 0
  Mixes P = (i j : Image) → P i → P j → P (mix i j)

  stepped : (P : Image → Type 0) (s a : ℕ) (T : List ℕ → List ℕ → Type 0) → Mixes P → Mixes (Stepped P s a T)
  stepped P s a T mixes i j p q = record {
    source = mix p.source q.source;
    was = mixes p.source q.source p.was q.was;
    others = λ x y other. ⊎_elim
        (λ (first : (i j : Image) → mix i j x y ≡ i x y). first i j ∙ p.others x y other ∙ sym (first p.source q.source))
        (λ (second : (i j : Image) → mix i j x y ≡ j x y). second i j ∙ q.others x y other ∙ sym (second p.source q.source))
        (which x y);
    stepped = ⊎_elim
        (λ (first : (i j : Image) → mix i j s a ≡ i s a). subst (λ l. T l (mix i j s a)) (sym (first p.source q.source)) (subst (λ l. T (p.source s a) l) (sym (first i j)) p.stepped))
        (λ (second : (i j : Image) → mix i j s a ≡ j s a). subst (λ l. T l (mix i j s a)) (sym (second p.source q.source)) (subst (λ l. T (q.source s a) l) (sym (second i j)) q.stepped))
        (which s a);
  }

  one : (call : Call) (disk : Image) (P : Image → Type 0) → Mixes P → Mixes (may_leave call disk P)
  one (Write s a at bytes) disk P mixes = stepped P s a (Torn (min at (length (disk s a))) (length bytes)) mixes
  one (Shorten s a len) disk P mixes = stepped P s a (Cut len) mixes
  one (Sync s a) disk P mixes = λ i j p q. (mixes i j p.0 q.0, ⊎_elim (λ (first : (i j : Image) → mix i j s a ≡ i s a). first i j ∙ p.1) (λ (second : (i j : Image) → mix i j s a ≡ j s a). second i j ∙ q.1) (which s a))
  one (Say bytes) disk P mixes = mixes

  pub same_mixes : (first : Image) → Mixes (Same first)
  same_mixes first i j p q s a = ⊎_elim
      (λ (one : (i j : Image) → mix i j s a ≡ i s a). one i j ∙ p s a)
      (λ (two : (i j : Image) → mix i j s a ≡ j s a). two i j ∙ q s a)
      (which s a)

-- how what a pick leaves of an area stands to what a read gives
abbrev Fit : Pick → List ℕ → List ℕ → Type 0
Fit Synced there left = Unit {0}
Fit Marked there left = length left ≡ length there
Fit Shortest there left = take (length left) there ≡ left

torn_same : (at n : ℕ) (l : List ℕ) → Torn at n l l
torn_same at n l = record { before = refl; after = refl; no_shorter = omega arith; no_longer = omega arith }

cut_same : (n : ℕ) (l : List ℕ) → Cut n l l
cut_same n l = record { no_shorter = omega arith; front = same_lists _ _ (grind (arith, places)) (λ k d h. grind (arith, places)) }

length-written_is : (at : ℕ) (bytes there : List ℕ) → at ≤ length there → length (written at bytes there) ≡ max (length there) (at + length bytes)
length-written_is at bytes there le = omega (arith, length-append (take at there ++ bytes) (drop (at + length bytes) there), length-append (take at there) bytes, length-take-le at there le, length-drop (at + length bytes) there)

-- the front of a written area is a torn write of the front
torn_front : (at m : ℕ) (bytes there : List ℕ) → at ≤ length there → m ≤ length there → Torn at (length bytes) (take m there) (take m (written at bytes there))
torn_front at m bytes there le front = record {
  before = same_lists _ _ (grind (arith, places)) (λ k d h. grind (arith, places));
  after = same_lists _ _ (grind (arith, places)) (λ k d h. grind (arith, places));
  no_shorter = omega (arith, length-take m there, length-take m (written at bytes there), length-written_is at bytes there le);
  no_longer = omega (arith, length-take m there, length-take m (written at bytes there), length-written_is at bytes there le);
}

-- the front of a cut area is a cut of the front
cut_front : (len m : ℕ) (there : List ℕ) → m ≤ length there → Cut len (take m there) (take m (take len there))
cut_front len m there front = record {
  no_shorter = omega (arith, length-take m there, length-take m (take len there), length-take len there);
  front = same_lists _ _ (grind (arith, places)) (λ k d h. grind (arith, places));
}

front_of : (m : ℕ) (there : List ℕ) → take (length (take m there)) there ≡ take m there
front_of m there = ap (λ n. take n there) (length-take m there) ∙ take_min m there

front_within : (there left : List ℕ) → take (length left) there ≡ left → length left ≤ length there
front_within there left is = omega (arith, ap length is, length-take (length left) there)

-- two slots that stand to each other area by area, the second with other bytes in one
fit_put : (R : List ℕ → List ℕ → Type 0) (disk image : Image) (slot area : ℕ) (bytes : List ℕ) → R (disk slot area) bytes → ((s a : ℕ) → IsOther slot area s a → R (disk s a) (image s a))
    → (s a : ℕ) → R (disk s a) (put slot area bytes image s a)
fit_put R disk image slot area bytes here others s a = elim (same_or_other slot area s a) [
  | inl same ↦ subst (λ l. R (disk s a) l) (sym ((λ i. put slot area bytes image (same.0 i) (same.1 i)) ∙ put_here slot area bytes image)) (subst (λ l. R l bytes) (λ i. disk (sym same.0 i) (sym same.1 i)) here)
  | inr other ↦ subst (λ l. R (disk s a) l) (sym (put_other slot area bytes image s a other)) (others s a other)
]

-- the same where one area of the first is changed too
fit_both : (R : List ℕ → List ℕ → Type 0) (disk image : Image) (slot area : ℕ) (there bytes : List ℕ) → R there bytes → ((s a : ℕ) → R (disk s a) (image s a))
    → (s a : ℕ) → R (put slot area there disk s a) (put slot area bytes image s a)
fit_both R disk image slot area there bytes here all = fit_put R (put slot area there disk) image slot area bytes
    (subst (λ l. R l bytes) (sym (put_here slot area there disk)) here)
    (λ s a other. subst (λ l. R l (image s a)) (sym (put_other slot area there disk s a other)) (all s a))

module _ (disk image : Image) (P : Image → Type 0) (mixes : (slot area : ℕ) → Mixes slot area P) (was : P disk) (left : P image) where
  -- a step that puts other bytes into one area of what is left
  put_stepped : (s a : ℕ) (T : List ℕ → List ℕ → Type 0) (bytes : List ℕ) → T (image s a) bytes → Stepped P s a T (put s a bytes image)
  put_stepped s a T bytes step = record {
    source = image;
    was = left;
    others = λ x y other. put_other s a bytes image x y other;
    stepped = subst (λ l. T (image s a) l) (sym (put_here s a bytes image)) step;
  }

  step_left : (pick : Pick) (call : Call) → IsFitting call disk → ((s a : ℕ) → Fit pick (disk s a) (image s a)) → may_leave call disk P (picked_step pick call (after call disk) image)
  step_left pick (Say bytes) fits fit = left
  step_left pick (Sync s a) fits fit = (mixes s a image disk left was, put_here s a (disk s a) image)
  step_left Synced (Write s a at bytes) fits fit = record { source = image; was = left; others = λ x y other. refl; stepped = torn_same (min at (length (disk s a))) (length bytes) (image s a) }
  step_left Synced (Shorten s a len) fits fit = record { source = image; was = left; others = λ x y other. refl; stepped = cut_same len (image s a) }
  step_left Marked (Write s a at bytes) fits fit =
      let marks : List ℕ = replicate (length bytes) 255 in
      put_stepped s a (Torn (min at (length (disk s a))) (length bytes)) (written (min at (length (image s a))) marks (image s a))
      (subst (λ n. Torn (min at n) (length bytes) (image s a) (written (min at (length (image s a))) marks (image s a))) (fit s a)
      (subst (λ n. Torn (min at (length (image s a))) n (image s a) (written (min at (length (image s a))) marks (image s a))) (length-replicate {A = ℕ} (length bytes) 255)
      (torn_written (min at (length (image s a))) marks (image s a) (omega arith))))
  step_left Marked (Shorten s a len) fits fit = put_stepped s a (Cut len) (take len (image s a)) (cut_taken len (image s a))
  step_left Shortest (Write s a at bytes) fits fit =
      let at' = min at (length (disk s a)) in
      let whole = written at' bytes (disk s a) in
      let m = length (image s a) in
      put_stepped s a (Torn at' (length bytes)) (take m (put s a whole disk s a))
      (subst (λ l. Torn at' (length bytes) (image s a) (take m l)) (sym (put_here s a whole disk))
      (subst (λ l. Torn at' (length bytes) l (take m whole)) (fit s a)
      (torn_front at' m bytes (disk s a) (omega arith) (front_within (disk s a) (image s a) (fit s a)))))
  step_left Shortest (Shorten s a len) fits fit =
      let m = length (image s a) in
      put_stepped s a (Cut len) (take m (put s a (take len (disk s a)) disk s a))
      (subst (λ l. Cut len (image s a) (take m l)) (sym (put_here s a (take len (disk s a)) disk))
      (subst (λ l. Cut len l (take m (take len (disk s a)))) (fit s a)
      (cut_front len m (disk s a) (front_within (disk s a) (image s a) (fit s a)))))

step_fit : (pick : Pick) (call : Call) (disk image : Image) → ((s a : ℕ) → Fit pick (disk s a) (image s a)) → (s a : ℕ) → Fit pick (after call disk s a) (picked_step pick call (after call disk) image s a)
step_fit pick (Say bytes) disk image fit = fit
step_fit Synced call disk image fit = λ s a. tt
step_fit Marked (Sync s a) disk image fit = fit_put (Fit Marked) disk image s a (disk s a) refl (λ x y other. fit x y)
step_fit Marked (Write s a at bytes) disk image fit = fit_both (Fit Marked) disk image s a (written (min at (length (disk s a))) bytes (disk s a)) (written (min at (length (image s a))) (replicate (length bytes) 255) (image s a))
    (omega (arith, fit s a, length-written_is (min at (length (disk s a))) bytes (disk s a) (omega arith), length-written_is (min at (length (image s a))) (replicate (length bytes) 255) (image s a) (omega arith), length-replicate {A = ℕ} (length bytes) 255)) fit
step_fit Marked (Shorten s a len) disk image fit = fit_both (Fit Marked) disk image s a (take len (disk s a)) (take len (image s a)) (omega (arith, fit s a, length-take len (disk s a), length-take len (image s a))) fit
step_fit Shortest (Sync s a) disk image fit = fit_put (Fit Shortest) disk image s a (disk s a) (same_lists _ _ (grind (arith, places)) (λ k d h. grind (arith, places))) (λ x y other. fit x y)
step_fit Shortest (Write s a at bytes) disk image fit =
    let whole = written (min at (length (disk s a))) bytes (disk s a) in
    let m = length (image s a) in
    fit_both (Fit Shortest) disk image s a whole (take m (put s a whole disk s a)) (subst (λ l. Fit Shortest whole (take m l)) (sym (put_here s a whole disk)) (front_of m whole)) fit
step_fit Shortest (Shorten s a len) disk image fit =
    let whole = take len (disk s a) in
    let m = length (image s a) in
    fit_both (Fit Shortest) disk image s a whole (take m (put s a whole disk s a)) (subst (λ l. Fit Shortest whole (take m l)) (sym (put_here s a whole disk)) (front_of m whole)) fit

-- the slots as they read after a call are what a crash may leave
read_left : (call : Call) (disk : Image) (P : Image → Type 0) → P disk → may_leave call disk P (after call disk)
read_left call disk P was = is_image (call ∷ []) disk P was

pub picked_left : (pick : Pick) (calls : List Call) (disk image : Image) (P : Image → Type 0) → ((slot area : ℕ) → Mixes slot area P) → P disk → P image
    → ((s a : ℕ) → Fit pick (disk s a) (image s a)) → AreSound calls disk → leaves calls disk P (picked_after pick calls disk image)
picked_left pick [] disk image P mixes was left fit sound = left
picked_left pick (call ∷ calls) disk image P mixes was left fit sound = picked_left pick calls (after call disk) (picked_step pick call (after call disk) image) (may_leave call disk P)
    (λ slot area. one slot area call disk P (mixes slot area))
    (read_left call disk P was)
    (step_left disk image P mixes was left pick call sound.1 fit)
    (step_fit pick call disk image fit)
    sound.2

-- what a pick leaves of slots that were first as a sync leaves them
pub picked_is_left : (pick : Pick) (calls : List Call) (first : Image) → AreSound calls first → leaves calls first (Same first) (picked_after pick calls first first)
picked_is_left pick calls first sound = picked_left pick calls first first (Same first) (λ slot area. same_mixes slot area first) (λ s a. refl) (λ s a. refl) (λ s a. alike pick (first s a)) sound
  where
    alike : (pick : Pick) (l : List ℕ) → Fit pick l l
    alike Synced l = tt
    alike Marked l = refl
    alike Shortest l = same_lists _ _ (grind (arith, places)) (λ k d h. grind (arith, places))

by_test : (Q : Image → Type 0) (test : Bool) (i j : Image) → Q i → Q j → Q (if test then i else j)
by_test Q true i j p q = p
by_test Q false i j p q = q

-- what a crash picks is what one may leave
pub crashed_left : (pick : ℕ) (log : Log) → AreSound log.calls (image_of log.first) → leaves log.calls (image_of log.first) (Same (image_of log.first)) (crashed pick log)
crashed_left pick log sound =
    let Q = leaves log.calls (image_of log.first) (Same (image_of log.first)) in
    by_test Q (pick == 0) _ _ (picked_is_left Synced log.calls (image_of log.first) sound)
    (by_test Q (pick == 2) _ _ (picked_is_left Marked log.calls (image_of log.first) sound)
    (by_test Q (pick == 3) _ _ (picked_is_left Shortest log.calls (image_of log.first) sound)
    (is_image log.calls (image_of log.first) (Same (image_of log.first)) (λ s a. refl))))

pub crashed_left_of : (pick : ℕ) (log seen : Log) (image : Image) → log ≡ seen → AreSound log.calls (image_of log.first) → image ≡ crashed pick log
    → leaves seen.calls (image_of seen.first) (Same (image_of seen.first)) image
crashed_left_of pick log seen image same sound is =
    subst (λ (l : Log). leaves l.calls (image_of l.first) (Same (image_of l.first)) image) same (subst (λ i. leaves log.calls (image_of log.first) (Same (image_of log.first)) i) (sym is) (crashed_left pick log sound))
