-- What holds of every list of calls: the slots as they read are one of the images of now, and an image of now has what was said.
use Rattle.std.proofs.Common.{◌≡◌, ◌∙◌, ◌≤◌, inl, inr, ◌+◌, ◌/◌, min, ℕ, List, [], ◌∷◌, ◌++◌, length, take, drop, Option, Some, refl, sym, ap, subst, arith, length-append, length-take, length-drop, append_assoc, ◌==◌, ◌&&◌, if◌then◌else◌, Bool, true, false}
use Rattle.std.proofs.lemmas.List.{take_all, take_at, drop_at, take_min, length-take-le}
use Rattle.std.proofs.lemmas.Bool.{eq-eqb, ne_eqb}
use Rattle.rig_disk.specs.CallLog.{Log, ImagesAt, Same, log_clock, log_disk, said_after, leaves, may_leave, disk_after, after}
use Rattle.rig_disk.specs.Disk.{Image, IsOther, Torn, Cut, written}
use Rattle.rig_disk.specs.SlotAreas.{put, image_of}
use Rattle.rig_disk.specs.declared.call.Call.{Call}
use Rattle.rig_disk.specs.declared.call.Call.TheVariants.{Write, Shorten, Sync, Say}

and_false : (test : Bool) → (test && false) ≡ false
and_false true = refl
and_false false = refl

pub put_here : (s a : ℕ) (bytes : List ℕ) (image : Image) → put s a bytes image s a ≡ bytes
put_here s a bytes image = ap (λ t. if t && (a == a) then bytes else image s a) (eq-eqb s s refl) ∙ ap (λ t. if t then bytes else image s a) (eq-eqb a a refl)

pub put_other : (slot area : ℕ) (bytes : List ℕ) (image : Image) (s a : ℕ) → IsOther slot area s a → put slot area bytes image s a ≡ image s a
put_other slot area bytes image s a (inl other) = ap (λ t. if t && (a == area) then bytes else image s a) (ne_eqb s slot other)
put_other slot area bytes image s a (inr other) = ap (λ t. if (s == slot) && t then bytes else image s a) (ne_eqb a area other) ∙ ap (λ t. if t then bytes else image s a) (and_false (s == slot))

-- a whole write is one that a crash may leave
pub torn_written : (at : ℕ) (bytes there : List ℕ) → at ≤ length there → Torn at (length bytes) there (written at bytes there)
torn_written at bytes there le =
    let rest = drop (at + length bytes) there in
    let whole : written at bytes there ≡ take at there ++ (bytes ++ rest) = append_assoc (take at there) bytes rest in
    let long : length (take at there ++ bytes) ≡ at + length bytes = length-append (take at there) bytes ∙ ap (λ n. n + length bytes) (length-take-le at there le) in
    let size : length (written at bytes there) ≡ at + length bytes + length rest = length-append (take at there ++ bytes) rest ∙ ap (λ n. n + length rest) long in
    record {
      before = ap (λ (l : List ℕ). take at l) whole ∙ take_at (take at there) (bytes ++ rest) at (length-take-le at there le);
      after = drop_at (take at there ++ bytes) rest (at + length bytes) long;
      no_shorter = omega (arith, size, length-drop (at + length bytes) there);
      no_longer = omega (arith, size, length-drop (at + length bytes) there);
    }

-- a whole cut is one that a crash may leave
pub cut_taken : (len : ℕ) (there : List ℕ) → Cut len there (take len there)
cut_taken len there = record {
  no_shorter = omega (arith, length-take len there);
  front = ap (λ n. take n there) (length-take len there) ∙ take_min len there;
}

-- the slots as they read after a call are what a crash may leave
one : (call : Call) (disk : Image) (P : Image → Type 0) → P disk → may_leave call disk P (after call disk)
one (Write s a at bytes) disk P p = record {
  source = disk;
  was = p;
  others = λ x y other. put_other s a (written (min at (length (disk s a))) bytes (disk s a)) disk x y other;
  stepped = subst (λ l. Torn (min at (length (disk s a))) (length bytes) (disk s a) l) (sym (put_here s a (written (min at (length (disk s a))) bytes (disk s a)) disk)) (torn_written (min at (length (disk s a))) bytes (disk s a) (omega arith));
}
one (Shorten s a len) disk P p = record {
  source = disk;
  was = p;
  others = λ x y other. put_other s a (take len (disk s a)) disk x y other;
  stepped = subst (λ l. Cut len (disk s a) l) (sym (put_here s a (take len (disk s a)) disk)) (cut_taken len (disk s a));
}
one (Sync s a) disk P p = (p, refl)
one (Say bytes) disk P p = p

pub is_image : (calls : List Call) (disk : Image) (P : Image → Type 0) → P disk → leaves calls disk P (disk_after calls disk)
is_image [] disk P p = p
is_image (call ∷ calls) disk P p = is_image calls (after call disk) (may_leave call disk P) (one call disk P p)

-- by now all calls are begun and finished
pub all_begun : (log : Log) → take ((log_clock log + 1) / 2) log.calls ≡ log.calls
all_begun log = take_all ((log_clock log + 1) / 2) log.calls (omega arith)

pub all_finished : (log : Log) → take (log_clock log / 2) log.calls ≡ log.calls
all_finished log = take_all (log_clock log / 2) log.calls (omega arith)

-- an image of now
pub now_at : (log : Log) (image : Image) (text : List ℕ) → leaves log.calls (image_of log.first) (Same (image_of log.first)) image → text ≡ said_after log.calls → ImagesAt log (log_clock log) image text
now_at log image text left said = record {
  reached = omega arith;
  left = subst (λ cs. leaves cs (image_of log.first) (Same (image_of log.first)) image) (sym (all_begun log)) left;
  spoken = record {
    count = length (said_after log.calls);
    whole = subst (λ cs. length (said_after cs) ≤ length (said_after log.calls)) (sym (all_finished log)) (omega arith);
    said = said ∙ sym (take_all (length (said_after log.calls)) (said_after log.calls) (omega arith)) ∙ ap (λ cs. take (length (said_after log.calls)) (said_after cs)) (sym (all_begun log));
  };
}

pub left_now : (log : Log) (image : Image) (text : List ℕ) → ImagesAt log (log_clock log) image text → leaves log.calls (image_of log.first) (Same (image_of log.first)) image
left_now log image text now = subst (λ cs. leaves cs (image_of log.first) (Same (image_of log.first)) image) (all_begun log) now.left

pub said_all : (log : Log) (image : Image) (text : List ℕ) → ImagesAt log (log_clock log) image text → text ≡ said_after log.calls
said_all log image text now = now.spoken.said ∙ ap (λ cs. take now.spoken.count (said_after cs)) (all_begun log)
    ∙ take_all now.spoken.count (said_after log.calls) (subst (λ cs. length (said_after cs) ≤ now.spoken.count) (all_finished log) now.spoken.whole)

some_same : (a b : List ℕ) → ◌≡◌ {A = Option (List ℕ)} (Some a) (Some b) → a ≡ b
some_same a b e = cc

pub log_said_now : (log : Log) (image : Image) (text : List ℕ) → ImagesAt log (log_clock log) image text → ◌≡◌ {A = Option (List ℕ)} (Some (said_after log.calls)) (Some text)
log_said_now log image text now = ap (λ (l : List ℕ). Some l) (sym (said_all log image text now))

pub log_as_read : (log : Log) → (image : Image) × (text : List ℕ) × ImagesAt log (log_clock log) image text
    × ((s a : ℕ) (there : List ℕ) → ◌≡◌ {A = Option (List ℕ)} (Some (log_disk log s a)) (Some there) → image s a ≡ there)
log_as_read log = (
  log_disk log,
  said_after log.calls,
  now_at log (log_disk log) (said_after log.calls) (is_image log.calls (image_of log.first) (Same (image_of log.first)) (λ s a. refl)) refl,
  λ s a there told. some_same _ _ told,
)

-- if nothing was called, every image is what reads give
pub uncalled : (log : Log) (image : Image) (text : List ℕ) → log.calls ≡ [] → ImagesAt log (log_clock log) image text → (s a : ℕ) → image s a ≡ log_disk log s a
uncalled log image text none now s a = subst (λ cs. leaves cs (image_of log.first) (Same (image_of log.first)) image → image s a ≡ disk_after cs (image_of log.first) s a) (sym none) (λ left. left s a) (left_now log image text now)
