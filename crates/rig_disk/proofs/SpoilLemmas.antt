-- A byte changed in every call that wrote it is changed in what reads give, and nothing else is.
use Rattle.std.proofs.Common.{◌≡◌, ◌∙◌, ◌≤◌, ◌<◌, zero, suc, drop, get_or, append_assoc, ◌==◌, ◌&&◌, ◌+◌, ◌-◌, min, ℕ, List, [], ◌∷◌, ◌++◌, length, take, set, map, nat_le, if◌then◌else◌, refl, sym, ap, subst, arith, inl, inr, ⊎_elim}
use Rattle.std.proofs.lemmas.Bool.{cases_lt}
use Rattle.std.proofs.lemmas.Bool.Decides.{nat_tests}
use Rattle.std.proofs.lemmas.List.{same_lists, places, length-set, length-take-le, length-map, map-append, get_or-set_other, set_at}
use Rattle.std.proofs.Math.Seq.{get_or-append_seam}
use Rattle.std.proofs.lemmas.Grind.{get_or-set_at, take_at_read}
use Rattle.rig_disk.specs.CallLaws.{put_here, put_other}
use Rattle.rig_disk.specs.CallLog.{Agrees, AreSound, IsFitting, IsWithin, after, disk_after, said_after}
use Rattle.rig_disk.specs.Disk.{Image, IsOther, written}
use Rattle.rig_disk.specs.SlotAreas.{Pair, image_of, put}
use Rattle.rig_disk.specs.Spoil.{spoiled, spoiled_call}
use Rattle.rig_disk.specs.declared.call.Call.{Call}
use Rattle.rig_disk.specs.declared.call.Call.TheVariants.{Write, Shorten, Sync, Say}
use Rattle.rig_disk.proofs.AgreeLemmas.{same_or_other}

written_set : (from at byte : ℕ) (bytes there : List ℕ) → from ≤ length there → from ≤ at
    → written from (set bytes (at - from) byte) (set there at byte) ≡ set (written from bytes there) at byte
written_set from at byte bytes there fits le = same_lists _ _ (grind (arith, places, length-set)) (λ k d h. grind (arith, places, length-set, get_or-set_at, get_or-set_other))

written_before : (from at byte : ℕ) (bytes there : List ℕ) → from ≤ length there → at < from
    → written from bytes (set there at byte) ≡ set (written from bytes there) at byte
written_before from at byte bytes there fits lt = same_lists _ _ (grind (arith, places, length-set)) (λ k d h. grind (arith, places, length-set, get_or-set_at, get_or-set_other))

take_set : (len at byte : ℕ) (there : List ℕ) → take len (set there at byte) ≡ set (take len there) at byte
take_set len at byte there = same_lists _ _ (grind (arith, places, length-set)) (λ k d h. grind (arith, places, length-set, get_or-set_at, get_or-set_other))

module _ (slot area at byte : ℕ) where
  abbrev sp : Image → Image
  sp disk = spoiled slot area at byte disk

  sp_here : (disk : Image) → sp disk slot area ≡ set (disk slot area) at byte
  sp_here disk = put_here slot area (set (disk slot area) at byte) disk

  sp_other : (disk : Image) (s a : ℕ) → IsOther slot area s a → sp disk s a ≡ disk s a
  sp_other disk s a other = put_other slot area (set (disk slot area) at byte) disk s a other

  sp_length : (disk : Image) (s a : ℕ) → length (sp disk s a) ≡ length (disk s a)
  sp_length disk s a = elim (same_or_other slot area s a) [
    | inl same ↦ ap length ((λ i. sp disk (same.0 i) (same.1 i)) ∙ sp_here disk) ∙ length-set (disk slot area) at byte ∙ (λ i. length (disk (sym same.0 i) (sym same.1 i)))
    | inr other ↦ ap length (sp_other disk s a other)
  ]

  -- what a step makes of the spoiled bytes of an area is what it makes of the bytes, spoiled
  put_spoiled : (s a : ℕ) (disk : Image) (old new : List ℕ) → ((s ≡ slot) × (a ≡ area) → new ≡ set old at byte) → (IsOther slot area s a → new ≡ old) → put s a new (sp disk) ≡ sp (put s a old disk)
  put_spoiled s a disk old new here apart = λ i x y. each x y i
    where
      each : (x y : ℕ) → put s a new (sp disk) x y ≡ sp (put s a old disk) x y
      each x y = elim (same_or_other s a x y) [
        | inl is ↦ elim (same_or_other slot area s a) [
          | inl same ↦ (λ i. put s a new (sp disk) (is.0 i) (is.1 i)) ∙ put_here s a new (sp disk) ∙ here same
              ∙ ap (λ l. set l at byte) (sym (put_here s a old disk) ∙ (λ i. put s a old disk (same.0 i) (same.1 i)))
              ∙ sym (sp_here (put s a old disk)) ∙ (λ i. sp (put s a old disk) ((sym same.0 ∙ sym is.0) i) ((sym same.1 ∙ sym is.1) i))
          | inr other ↦ (λ i. put s a new (sp disk) (is.0 i) (is.1 i)) ∙ put_here s a new (sp disk) ∙ apart other ∙ sym (put_here s a old disk)
              ∙ sym (sp_other (put s a old disk) s a other) ∙ (λ i. sp (put s a old disk) (sym is.0 i) (sym is.1 i))
        ]
        | inr differs ↦ put_other s a new (sp disk) x y differs ∙ elim (same_or_other slot area x y) [
          | inl same ↦ (λ i. sp disk (same.0 i) (same.1 i)) ∙ sp_here disk
              ∙ ap (λ l. set l at byte) ((λ i. disk (sym same.0 i) (sym same.1 i)) ∙ sym (put_other s a old disk x y differs) ∙ (λ i. put s a old disk (same.0 i) (same.1 i)))
              ∙ sym (sp_here (put s a old disk)) ∙ (λ i. sp (put s a old disk) (sym same.0 i) (sym same.1 i))
          | inr other ↦ sp_other disk x y other ∙ sym (put_other s a old disk x y differs) ∙ sym (sp_other (put s a old disk) x y other)
        ]
      ]

  abbrev changed : ℕ → ℕ → ℕ → List ℕ → List ℕ
  changed s a from bytes = if ((s == slot) && (a == area)) && nat_le from at then set bytes (at - from) byte else bytes

  changed_late : (from : ℕ) (bytes : List ℕ) → from ≤ at → changed slot area from bytes ≡ set bytes (at - from) byte
  changed_late from bytes le = grind (arith, nat_tests)

  changed_early : (s a from : ℕ) (bytes : List ℕ) → at < from → changed s a from bytes ≡ bytes
  changed_early s a from bytes lt = grind (arith, nat_tests)

  changed_apart : (s a from : ℕ) (bytes : List ℕ) → IsOther slot area s a → changed s a from bytes ≡ bytes
  changed_apart s a from bytes (inl other) = grind (arith, nat_tests)
  changed_apart s a from bytes (inr other) = grind (arith, nat_tests)

  written_here : (from : ℕ) (bytes there : List ℕ) → from ≤ length there → written from (changed slot area from bytes) (set there at byte) ≡ set (written from bytes there) at byte
  written_here from bytes there fits = ⊎_elim
      (λ (before : at < from). ap (λ l. written from l (set there at byte)) (changed_early slot area from bytes before) ∙ written_before from at byte bytes there fits before)
      (λ (late : from ≤ at). ap (λ l. written from l (set there at byte)) (changed_late from bytes late) ∙ written_set from at byte bytes there fits late)
      (cases_lt at from)

  after_spoiled : (call : Call) (disk : Image) → IsFitting call disk → after (spoiled_call slot area at byte call) (sp disk) ≡ sp (after call disk)
  after_spoiled (Say bytes) disk fits = refl
  after_spoiled (Sync s a) disk fits = refl
  after_spoiled (Shorten s a len) disk fits = put_spoiled s a disk (take len (disk s a)) (take len (sp disk s a))
      (λ same. ap (take len) (here s a disk same) ∙ take_set len at byte (disk s a))
      (λ other. ap (take len) (sp_other disk s a other))
    where
      here : (s a : ℕ) (disk : Image) → (s ≡ slot) × (a ≡ area) → sp disk s a ≡ set (disk s a) at byte
      here s a disk same = (λ i. sp disk (same.0 i) (same.1 i)) ∙ sp_here disk ∙ (λ i. set (disk (sym same.0 i) (sym same.1 i)) at byte)
  after_spoiled (Write s a from bytes) disk fits = put_spoiled s a disk (written (min from (length (disk s a))) bytes (disk s a)) (written (min from (length (sp disk s a))) (changed s a from bytes) (sp disk s a))
      (λ same. ap (λ n. written n (changed s a from bytes) (sp disk s a)) spot ∙ ap (written from (changed s a from bytes)) (here s a disk same)
      ∙ (λ i. written from (changed (same.0 i) (same.1 i) from bytes) (set (disk s a) at byte)) ∙ written_here from bytes (disk s a) fits ∙ ap (λ n. set (written n bytes (disk s a)) at byte) (sym spot_first))
      (λ other. ap (λ n. written n (changed s a from bytes) (sp disk s a)) (spot ∙ sym spot_first) ∙ ap (λ l. written (min from (length (disk s a))) l (sp disk s a)) (changed_apart s a from bytes other)
      ∙ ap (written (min from (length (disk s a))) bytes) (sp_other disk s a other))
    where
      here : (s a : ℕ) (disk : Image) → (s ≡ slot) × (a ≡ area) → sp disk s a ≡ set (disk s a) at byte
      here s a disk same = (λ i. sp disk (same.0 i) (same.1 i)) ∙ sp_here disk ∙ (λ i. set (disk (sym same.0 i) (sym same.1 i)) at byte)

      spot_first : min from (length (disk s a)) ≡ from
      spot_first = omega (arith, fits)

      spot : min from (length (sp disk s a)) ≡ from
      spot = omega (arith, fits, sp_length disk s a)

  fitting_spoiled : (call : Call) (disk : Image) → IsFitting call disk → IsFitting (spoiled_call slot area at byte call) (sp disk)
  fitting_spoiled (Say bytes) disk fits = tt
  fitting_spoiled (Sync s a) disk fits = tt
  fitting_spoiled (Shorten s a len) disk fits = tt
  fitting_spoiled (Write s a from bytes) disk fits = omega (arith, fits, sp_length disk s a)

  within_spoiled : (call : Call) → IsWithin call → IsWithin (spoiled_call slot area at byte call)
  within_spoiled (Say bytes) within = tt
  within_spoiled (Sync s a) within = within
  within_spoiled (Shorten s a len) within = within
  within_spoiled (Write s a from bytes) within = within

  pub disk_after-spoiled : (calls : List Call) (disk : Image) → AreSound calls disk → disk_after (map (spoiled_call slot area at byte) calls) (sp disk) ≡ sp (disk_after calls disk)
  disk_after-spoiled [] disk sound = refl
  disk_after-spoiled (call ∷ calls) disk sound = ap (λ d. disk_after (map (spoiled_call slot area at byte) calls) d) (after_spoiled call disk sound.1) ∙ disk_after-spoiled calls (after call disk) sound.2

  pub sound-spoiled : (calls : List Call) (disk : Image) → AreSound calls disk → AreSound (map (spoiled_call slot area at byte) calls) (sp disk)
  sound-spoiled [] disk sound = tt
  sound-spoiled (call ∷ calls) disk sound = (
    within_spoiled call sound.0,
    fitting_spoiled call disk sound.1,
    subst (λ d. AreSound (map (spoiled_call slot area at byte) calls) d) (sym (after_spoiled call disk sound.1)) (sound-spoiled calls (after call disk) sound.2),
  )

  pub said-spoiled : (calls : List Call) → said_after (map (spoiled_call slot area at byte) calls) ≡ said_after calls
  said-spoiled [] = refl
  said-spoiled (Say bytes ∷ calls) = ap (λ (l : List ℕ). bytes ++ l) (said-spoiled calls)
  said-spoiled (Sync s a ∷ calls) = said-spoiled calls
  said-spoiled (Shorten s a len ∷ calls) = said-spoiled calls
  said-spoiled (Write s a from bytes ∷ calls) = said-spoiled calls

drop_next : (l : List Call) (i : ℕ) (d : Call) → i < length l → drop i l ≡ get_or l i d ∷ drop (suc i) l
drop_next [] i d lt = absurd (omega (arith, lt))
drop_next (x ∷ l) zero d lt = refl
drop_next (x ∷ l) (suc i) d lt = drop_next l i d (omega (arith, lt))

-- the calls before this place are changed, those from it on are not
module _ (f : Call → Call) (old now : List Call) (i : ℕ) (d : Call) (is : now ≡ map f (take i old) ++ drop i old) (lt : i < length old) where
  split : now ≡ map f (take i old) ++ get_or old i d ∷ drop (suc i) old
  split = is ∙ ap (λ l. map f (take i old) ++ l) (drop_next old i d lt)

  long : length (map f (take i old)) ≡ i
  long = length-map (take i old) f ∙ length-take-le i old (omega (arith, lt))

  pub half_at : get_or now i d ≡ get_or old i d
  half_at = ap (λ l. get_or l i d) split ∙ ap (λ n. get_or (map f (take i old) ++ get_or old i d ∷ drop (suc i) old) n d) (sym long) ∙ get_or-append_seam (map f (take i old)) (get_or old i d) (drop (suc i) old) d

  pub half_more : (x y : Call) → y ≡ f (get_or old i d) → set (set now i x) i y ≡ map f (take (i + 1) old) ++ drop (i + 1) old
  half_more x y made =
      ap (λ l. set (set l i x) i y) split
      ∙ ap (λ l. set l i y) (set_at (map f (take i old)) (get_or old i d) (drop (suc i) old) x i long)
      ∙ set_at (map f (take i old)) x (drop (suc i) old) y i long
      ∙ ap (λ z. map f (take i old) ++ z ∷ drop (suc i) old) made
      ∙ sym (append_assoc (map f (take i old)) (f (get_or old i d) ∷ []) (drop (suc i) old))
      ∙ ap (λ l. l ++ drop (suc i) old) (sym (ap (map f) (take_at_read old i d lt).1 ∙ map-append f (take i old) (get_or old i d ∷ [])))
      ∙ ap (λ n. map f (take (i + 1) old) ++ drop n old) next
    where
      next : suc i ≡ i + 1
      next = omega arith

-- a log whose byte was changed in what was first there and in every call
module _ (first first' : Pair) (calls calls' : List Call) (slot area at byte : ℕ) (sound : AreSound calls (image_of first))
    (same_first : image_of first' ≡ spoiled slot area at byte (image_of first)) (same_calls : calls' ≡ map (spoiled_call slot area at byte) calls) where
  pub spoiled_disk : disk_after calls' (image_of first') ≡ spoiled slot area at byte (disk_after calls (image_of first))
  spoiled_disk = ap (λ cs. disk_after cs (image_of first')) same_calls ∙ ap (λ (d : Image). disk_after (map (spoiled_call slot area at byte) calls) d) same_first ∙ disk_after-spoiled slot area at byte calls (image_of first) sound

  pub spoiled_said : said_after calls' ≡ said_after calls
  spoiled_said = ap said_after same_calls ∙ said-spoiled slot area at byte calls

  pub spoiled_agrees : (areas areas' : Pair) (said : List ℕ) → Agrees first areas calls said → image_of areas' ≡ spoiled slot area at byte (image_of areas) → Agrees first' areas' calls' said
  spoiled_agrees areas areas' said agrees same_areas = record {
    reads = λ s a. (λ i. same_areas i s a) ∙ (λ i. spoiled slot area at byte (whole i) s a) ∙ sym (λ i. spoiled_disk i s a);
    spoken = agrees.spoken ∙ sym spoiled_said;
    sound = subst (λ cs. AreSound cs (image_of first')) (sym same_calls) (subst (λ (d : Image). AreSound (map (spoiled_call slot area at byte) calls) d) (sym same_first) (sound-spoiled slot area at byte calls (image_of first) sound));
  }
    where
      whole : image_of areas ≡ disk_after calls (image_of first)
      whole = λ i s a. agrees.reads s a i
