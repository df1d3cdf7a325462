-- Laws about the definitions of this crate. Source: this project. `s` is a replay, `step` one that fits it.
use Rattle.std.specs.Prelude.{◌≡◌, ◌⊎◌, ◌+◌, ◌<◌, ◌≤◌, ◌*◌, ℕ, List, [], ◌∷◌, ◌++◌, length, replicate, true, false, Some, None}
use Rattle.ec_model.specs.Versions.{Version, is_up_to, zero_version}
use Rattle.std.specs.FinMap as fin
use Rattle.shard_model.specs.Limits.{max_size, max_step_rest}
use Rattle.shard_model.specs.Objects.{ShardObject, Geometry, IsHeld, shard_len}
use Rattle.shard_model.specs.Changes.{Change, Write, Replace, SetAttr, RemoveAttr, Extent, bytes_of, changed, undo_of, restored}
use Rattle.shard_model.specs.Steps.{Step, Log, Control, Recover, ControlStep, Back, Started, Put, Drop, Reset, Entry}
use Rattle.shard_model.specs.States.{State, fits, state_after, is_known, holds, brought}
use Rattle.shard_model.specs.StepBytes.{change_bytes, step_bytes, steps_bytes, IsName, IsWritable, AreSteps, IsFirstBad}
use Rattle.shard_model.specs.StepReading.{AreBytes, IsReadingOf, read_step}
use Rattle.shard_model.specs.Replays.{Replay, IsWhole, head, state_of, objects_at, replay_after, replay_from, replay_of}

-- a whole replay, and a step that fits it
pub record MayGoOn (g : Geometry) (s : Replay) (step : Step) : Type 0 where
  pub stripes : 0 < g.k * g.unit
  pub whole : IsWhole g s
  pub fit : fits g (state_of g s) step ≡ true

-- a state that undoes comes to what replaying gives
abbrev pub UndoingIsReplaying : Type 0
UndoingIsReplaying = (g : Geometry) (s : Replay) (step : Step) → MayGoOn g s step → state_of g (replay_after g s step) ≡ state_after g (state_of g s) step

-- steps that go on after others are replayed from the state that those led to
abbrev pub ReplayGoesOn : Type 0
ReplayGoesOn = (g : Geometry) (first more : List Step) (s t : Replay) → replay_from g s first ≡ Some t
    → replay_from g s (first ++ more) ≡ replay_from g t more

-- of steps that lead on, the first fits, and the others lead on from the state that it leads to
abbrev pub FirstStepFits : Type 0
FirstStepFits = (g : Geometry) (s t : Replay) (step : Step) (steps : List Step) → replay_from g s (step ∷ steps) ≡ Some t
    → (fits g (state_of g s) step ≡ true) × (replay_from g (replay_after g s step) steps ≡ Some t)

-- a replay stays whole with a step that fits, and with all that lead on
pub record StaysWhole (g : Geometry) (s : Replay) : Type 0 where
  pub one : (step : Step) → fits g (state_of g s) step ≡ true → IsWhole g (replay_after g s step)
  pub all : (steps : List Step) (t : Replay) → replay_from g s steps ≡ Some t → IsWhole g t

abbrev pub StepsKeepWhole : Type 0
StepsKeepWhole = (g : Geometry) (s : Replay) → 0 < g.k * g.unit → IsWhole g s → StaysWhole g s

-- every replay that steps lead to is whole
abbrev pub ReplaysAreWhole : Type 0
ReplaysAreWhole = (g : Geometry) → 0 < g.k * g.unit → (steps : List Step) (s : Replay) → replay_of g steps ≡ Some s → IsWhole g s

-- the objects at the head are the present ones
abbrev pub HeadIsPresent : Type 0
HeadIsPresent = (g : Geometry) (s : Replay) → IsWhole g s → objects_at g s (head s) ≡ (state_of g s).objects

-- a shard that is not being filled holds its head, and a version that it knows lies from its tail to its head
pub record HoldsHead (g : Geometry) (s : Replay) : Type 0 where
  pub newest : s.partial ≡ false → holds (state_of g s) (head s) ≡ true
  pub known : (v : Version) → is_known (state_of g s) v ≡ true → is_up_to s.tail v ≡ true
  pub up_to_head : (v : Version) → is_known (state_of g s) v ≡ true → is_up_to v (head s) ≡ true

abbrev pub HeadIsHeld : Type 0
HeadIsHeld = (g : Geometry) (s : Replay) → 0 < g.k * g.unit → IsWhole g s → HoldsHead g s

-- rolling back to a version gives the objects at it, and it is the head then
abbrev pub GoingBackGivesThePast : Type 0
GoingBackGivesThePast = (g : Geometry) (s : Replay) (v : Version) → MayGoOn g s (Control (Back v))
    → ((state_after g (state_of g s) (Control (Back v))).objects ≡ objects_at g s v) × (head (replay_after g s (Control (Back v))) ≡ v)

-- after an entry each version that was held is held, with its objects, and no other but the new one
pub record KeepsHeld (g : Geometry) (s : Replay) (e : Entry) : Type 0 where
  pub stay : (v : Version) → holds (state_of g s) v ≡ true → holds (state_of g (replay_after g s (Log e))) v ≡ true
  pub only : (v : Version) → holds (state_of g (replay_after g s (Log e))) v ≡ true → (holds (state_of g s) v ≡ true) ⊎ (e.version ≡ v)
  pub objects : (v : Version) → holds (state_of g s) v ≡ true → objects_at g (replay_after g s (Log e)) v ≡ objects_at g s v

abbrev pub EntriesKeepHeld : Type 0
EntriesKeepHeld = (g : Geometry) (s : Replay) (e : Entry) → MayGoOn g s (Log e) → KeepsHeld g s e

-- after rolling back, what is held was held, and its objects are the same
abbrev pub GoingBackKeepsThePast : Type 0
GoingBackKeepsThePast = (g : Geometry) (s : Replay) (w v : Version) → MayGoOn g s (Control (Back w))
    → holds (state_of g (replay_after g s (Control (Back w)))) v ≡ true
    → (holds (state_of g s) v ≡ true) × (objects_at g (replay_after g s (Control (Back w))) v ≡ objects_at g s v)

-- a step is read off its bytes, and off no others
abbrev pub StepsAreRead : Type 0
StepsAreRead = IsReadingOf read_step step_bytes IsWritable

-- bytes are one list of steps, or have one first place at which no step is spelled, and never both
pub record IsReadOneWay (text : List ℕ) : Type 0 where
  pub either : ((steps : List Step) × AreSteps text steps) ⊎ ((at : ℕ) × IsFirstBad text at)
  pub one_list : (xs ys : List Step) → AreSteps text xs → AreSteps text ys → xs ≡ ys
  pub one_place : (a b : ℕ) → IsFirstBad text a → IsFirstBad text b → a ≡ b
  pub never_both : (steps : List Step) (at : ℕ) → AreSteps text steps → IsFirstBad text at → ⊥

abbrev pub BytesAreReadOneWay : Type 0
BytesAreReadOneWay = (text : List ℕ) → AreBytes text → IsReadOneWay text

-- how many bytes a step has: an entry 281 at most beside those of its change, a control step 13 at most, an object that is
-- brought 279,050 at most beside its own; and no step that fits has more beside the bytes of the largest object
pub record StepLengths : Type 0 where
  pub entry : (e : Entry) → length (step_bytes (Log e)) ≡ 26 + (length e.name + length (change_bytes e.change))
  pub bounded : (e : Entry) → IsName e.name → length (step_bytes (Log e)) ≤ 281 + length (change_bytes e.change)
  pub write : (fresh size at : ℕ) (bytes : List ℕ) → length (change_bytes (Write fresh size at bytes)) ≡ 13 + length bytes
  pub replace : (size : ℕ) (bytes : List ℕ) → length (change_bytes (Replace size bytes)) ≡ 8 + length bytes
  pub set_attr : (attr value : List ℕ) → length (change_bytes (SetAttr attr value)) ≡ 5 + (length attr + length value)
  pub remove_attr : (attr : List ℕ) → length (change_bytes (RemoveAttr attr)) ≡ 1 + length attr
  pub control : (c : ControlStep) → length (step_bytes (Control c)) ≤ 13
  pub put : (g : Geometry) (s : State) (name : List ℕ) (size : ℕ) (bytes : List ℕ) (attrs : List (List ℕ × List ℕ)) → IsWritable (Recover (Put name size bytes attrs))
      → fits g s (Recover (Put name size bytes attrs)) ≡ true → length (step_bytes (Recover (Put name size bytes attrs))) ≤ max_step_rest + shard_len g size
  pub drop : (name : List ℕ) → IsName name → length (step_bytes (Recover (Drop name))) ≤ 257
  pub reset : (v : Version) (epoch : ℕ) → length (step_bytes (Recover (Reset v epoch))) ≡ 17
  pub any : (g : Geometry) (s : State) (step : Step) → 0 < g.k * g.unit → IsWritable step → fits g s step ≡ true
      → length (step_bytes step) ≤ max_step_rest + shard_len g max_size

-- an object of any shard fits if it is brought to one that is being filled, and is what is brought
pub record MayBeBrought (g : Geometry) (name : List ℕ) (o : ShardObject) : Type 0 where
  pub fit : (s : State) → s.partial ≡ true → fits g s (Recover (Put name o.size o.bytes (fin.entries o.attrs))) ≡ true
  pub same : brought o.size o.bytes (fin.entries o.attrs) ≡ o

abbrev pub HeldObjectsMayBeBrought : Type 0
HeldObjectsMayBeBrought = (g : Geometry) (name : List ℕ) (o : ShardObject) → IsHeld g o → MayBeBrought g name o

-- worked examples: each of them computes. Two data chunks in units of 32 bytes: the first record of a new shard, and what
-- stands in the three slots after `full a 0102` in epoch 2
abbrev pub example_step : List ℕ → Step
example_step bytes =
    Log (record {
      version = record { epoch = 2; seq = 1 };
      prior = zero_version;
      name = 97 ∷ [];
      change = Replace 2 bytes;
    })

abbrev pub example_front : List ℕ
example_front =
    2 ∷ 0 ∷ 0 ∷ 0 ∷ 2 ∷ 0 ∷ 0 ∷ 0 ∷ 0 ∷ 0 ∷ 0 ∷ 0 ∷ 1 ∷ 0 ∷ 0 ∷ 0 ∷ 0 ∷ 0 ∷ 0 ∷ 0 ∷ 0 ∷ 0 ∷ 0 ∷ 0 ∷ 0 ∷ 1 ∷ 97 ∷ 0 ∷ 0 ∷ 0 ∷ 2 ∷ 0 ∷ 0 ∷ 0 ∷ 32 ∷ []

pub record WorkedBytes : Type 0 where
  pub started : steps_bytes (Control (Started 1) ∷ []) ≡ 7 ∷ 0 ∷ 0 ∷ 0 ∷ 1 ∷ []
  pub with_data : steps_bytes (example_step (1 ∷ 2 ∷ replicate 30 0) ∷ []) ≡ example_front ++ (1 ∷ 2 ∷ replicate 30 0)
  pub with_zeros : steps_bytes (example_step (replicate 32 0) ∷ []) ≡ example_front ++ replicate 32 0
  pub long : length (steps_bytes (example_step (replicate 32 0) ∷ [])) ≡ 67

-- one chunk of four bytes: a new object of three bytes, and four bytes over it, taken back
abbrev pub first_write : Change
first_write = Write 1 3 0 (1 ∷ 2 ∷ 3 ∷ 0 ∷ [])

abbrev pub second_write : Change
second_write = Write 0 6 0 (9 ∷ 8 ∷ 7 ∷ 6 ∷ [])

abbrev pub example_geometry : Geometry
example_geometry = record { k = 1; unit = 4 }

pub record WorkedWrites : Type 0 where
  pub once : bytes_of (changed example_geometry first_write None) ≡ 1 ∷ 2 ∷ 3 ∷ 0 ∷ []
  pub twice : bytes_of (changed example_geometry second_write (changed example_geometry first_write None)) ≡ 9 ∷ 8 ∷ 7 ∷ 6 ∷ 0 ∷ 0 ∷ 0 ∷ 0 ∷ []
  pub kept : undo_of second_write (changed example_geometry first_write None) ≡ Extent 3 0 (1 ∷ 2 ∷ 3 ∷ 0 ∷ [])
  pub to_the_middle : restored example_geometry (Extent 3 0 (1 ∷ 2 ∷ 3 ∷ 0 ∷ [])) (changed example_geometry second_write (changed example_geometry first_write None))
      ≡ changed example_geometry first_write None
  pub to_the_start : restored example_geometry (undo_of first_write None) (changed example_geometry first_write None) ≡ None
