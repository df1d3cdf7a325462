-- What a list of calls makes of the slots, and what a crash may leave after each of them. Source: this project.
use Rattle.std.specs.Prelude.{◌≡◌, ◌≤◌, ℕ, ◌+◌, ◌*◌, ◌/◌, min, List, [], ◌∷◌, ◌++◌, length, take}
use Rattle.rig_disk.specs.SlotAreas.{Pair, image_of, put}
use Rattle.rig_disk.specs.declared.call.Call.{Call}
use Rattle.rig_disk.specs.declared.call.Call.TheVariants.{Write, Shorten, Sync, Say}
use Rattle.rig_disk.specs.Disk.{Image, IsOther, Torn, Cut, written}

-- what reads give after a call
abbrev pub after : Call → Image → Image
after (Write s a at bytes) disk = put s a (written (min at (length (disk s a))) bytes (disk s a)) disk
after (Shorten s a len) disk = put s a (take len (disk s a)) disk
after (Sync s a) disk = disk
after (Say bytes) disk = disk

-- what reads give after these calls, the first of them first
abbrev pub disk_after : List Call → Image → Image
disk_after [] disk = disk
disk_after (call ∷ calls) disk = disk_after calls (after call disk)

-- a call names a slot and an area that are there
abbrev pub IsWithin : Call → Type 0
IsWithin (Write s a at bytes) = (s ≤ 16) × (a ≤ 1)
IsWithin (Shorten s a len) = (s ≤ 16) × (a ≤ 1)
IsWithin (Sync s a) = (s ≤ 16) × (a ≤ 1)
IsWithin (Say bytes) = Unit {0}

-- a write begins no further on than the end
abbrev pub IsFitting : Call → Image → Type 0
IsFitting (Write s a at bytes) disk = at ≤ length (disk s a)
IsFitting (Shorten s a len) disk = Unit {0}
IsFitting (Sync s a) disk = Unit {0}
IsFitting (Say bytes) disk = Unit {0}

-- each of these calls is sound when it comes
abbrev pub AreSound : List Call → Image → Type 0
AreSound [] disk = Unit {0}
AreSound (call ∷ calls) disk = IsWithin call × IsFitting call disk × AreSound calls (after call disk)

-- one of these images with a step in one area, all others as they were
pub record Stepped (images : Image → Type 0) (slot area : ℕ) (step : List ℕ → List ℕ → Type 0) (image : Image) : Type 0 where
  pub source : Image
  pub was : images source
  pub others : (s a : ℕ) → IsOther slot area s a → image s a ≡ source s a
  pub stepped : step (source slot area) (image slot area)

-- what a crash may leave from the beginning of a call on, if reads gave `disk` and a crash might have left P before it:
-- a write and a cut may be torn, and a sync pins the area to what a read gives
abbrev pub may_leave : Call → Image → (Image → Type 0) → Image → Type 0
may_leave (Write s a at bytes) disk P image = Stepped P s a (Torn (min at (length (disk s a))) (length bytes)) image
may_leave (Shorten s a len) disk P image = Stepped P s a (Cut len) image
may_leave (Sync s a) disk P image = P image × (image s a ≡ disk s a)
may_leave (Say bytes) disk P image = P image

-- the same after these calls, the first of them first
abbrev pub leaves : List Call → Image → (Image → Type 0) → Image → Type 0
leaves [] disk P image = P image
leaves (call ∷ calls) disk P image = leaves calls (after call disk) (may_leave call disk P) image

-- what these calls said
abbrev pub said_after : List Call → List ℕ
said_after [] = []
said_after (Say bytes ∷ calls) = bytes ++ said_after calls
said_after (Write s a at bytes ∷ calls) = said_after calls
said_after (Shorten s a len ∷ calls) = said_after calls
said_after (Sync s a ∷ calls) = said_after calls

abbrev pub Same : Image → Image → Type 0
Same first image = (s a : ℕ) → image s a ≡ first s a

-- the slots at first, and the calls since; all else follows from them
pub record Log : Type 0 where
  pub first : Pair
  pub calls : List Call

-- one call more
abbrev pub push : Log → Call → Log
push log call = record { first = log.first; calls = log.calls ++ call ∷ [] }

-- what reads give now
abbrev pub log_disk : Log → Image
log_disk log = disk_after log.calls (image_of log.first)

-- each call has two numbers, one for the instants inside it and one for its end
abbrev pub log_clock : Log → ℕ
log_clock log = 2 * length log.calls

-- all that the finished calls said was said, and some first bytes of what the begun ones say
pub record IsSaid (finished begun : List Call) (text : List ℕ) : Type 0 where
  pub count : ℕ
  pub whole : length (said_after finished) ≤ count
  pub said : text ≡ take count (said_after begun)

-- by an instant some first calls were finished, and the same or one more begun; a crash leaves what the begun ones may leave
pub record ImagesAt (log : Log) (t : ℕ) (image : Image) (text : List ℕ) : Type 0 where
  pub reached : t ≤ log_clock log
  pub left : leaves (take ((t + 1) / 2) log.calls) (image_of log.first) (Same (image_of log.first)) image
  pub spoken : IsSaid (take (t / 2) log.calls) (take ((t + 1) / 2) log.calls) text

-- the bytes that are kept beside the calls are what the calls make
pub record Agrees (first disk : Pair) (calls : List Call) (said : List ℕ) : Type 0 where
  pub reads : (s a : ℕ) → image_of disk s a ≡ disk_after calls (image_of first) s a
  pub spoken : said ≡ said_after calls
  pub sound : AreSound calls (image_of first)
