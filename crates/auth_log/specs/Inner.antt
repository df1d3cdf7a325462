-- What the parts of a choice say. Source: this project.
use Rattle.std.specs.Prelude.{◌≡◌, ◌==◌, ◌<◌, ◌≤◌, if◌then◌else◌, ℕ, List, true, false, Some, None, bit_and, slice_get, min}
use Rattle.std.specs.declared.option.Option.{Option}
use Rattle.ec_model.specs.Codes.{CodeRows, HasPosition, count_below}
use Rattle.ec_model.specs.Versions.{Version, is_up_to}
use Rattle.ec_words.specs.Intervals.{Interval}
use Rattle.auth_log.specs.Choice.{Info, Survey, WentAlive, HasStarted, HasHead, DecidesAll}
use Rattle.auth_log.specs.States.{State, Down, Short, Active}

-- what a shard says makes its slot eligible if it is up
pub record IsWholeAndStarted (kept : List Interval) (info : Info) : Type 0 where
  pub whole : info.partial ≡ false
  pub joined : ℕ
  pub base : Version
  pub started : WentAlive kept info.les joined base

-- the slots of a mask, with what their shards say
pub record IsSaid (said : ℕ → Option Info) (mask p : ℕ) (info : Info) : Type 0 where
  pub member : HasPosition mask p
  pub says : said p ≡ Some info

-- those of them that are below a number
pub record IsSaidBelow (said : ℕ → Option Info) (mask bound p : ℕ) (info : Info) : Type 0 where
  pub below : p < bound
  pub is_said : IsSaid said mask p info

-- the least head of those that started an epoch, if any did
abbrev pub IsLeastSoFar : (ℕ → Info → Type 0) → ℕ → Option Version → Type 0
IsLeastSoFar among epoch None = HasStarted among epoch → ⊥
IsLeastSoFar among epoch (Some version) =
    ((p : ℕ) (info : Info) → among p info → info.les ≡ epoch → is_up_to version info.head ≡ true) × HasHead among epoch version

-- the lesser of a head and that of one more shard, if it started this epoch last
abbrev pub lesser_of : Option Version → Version → Version
lesser_of None head = head
lesser_of (Some version) head = if is_up_to version head then version else head

abbrev pub lesser : ℕ → Option Version → Info → Option Version
lesser epoch least info = if info.les == epoch then Some (lesser_of least info.head) else least

-- if an interval went alive, in this epoch or later, the eligible members of its joined set decide all
pub record IsDecided (code : CodeRows) (eligible epoch : ℕ) (interval : Interval) : Type 0 where
  pub each : (joined : ℕ) (base : Version) → interval.alive ≡ Some (joined, base) → epoch ≤ interval.epoch
      → DecidesAll code (bit_and joined eligible)

-- one of the first intervals has this epoch and is not decided
pub record HasUndecided (code : CodeRows) (eligible epoch : ℕ) (intervals : List Interval) (bound at : ℕ) : Type 0 where
  pub place : ℕ
  pub interval : Interval
  pub below : place < bound
  pub there : slice_get intervals place ≡ Some interval
  pub dated : interval.epoch ≡ at
  pub undecided : IsDecided code eligible epoch interval → ⊥

-- the least epoch of those of the first intervals that are not decided, if there are any
abbrev pub IsLeastUndecided : CodeRows → ℕ → ℕ → List Interval → ℕ → Option ℕ → Type 0
IsLeastUndecided code eligible epoch intervals bound None =
    (i : ℕ) (interval : Interval) → i < bound → slice_get intervals i ≡ Some interval → IsDecided code eligible epoch interval
IsLeastUndecided code eligible epoch intervals bound (Some at) =
    HasUndecided code eligible epoch intervals bound at
    × ((other : ℕ) → HasUndecided code eligible epoch intervals bound other → at ≤ other)

-- the lesser of the least epoch so far and one more
abbrev pub earlier : Option ℕ → ℕ → ℕ
earlier None epoch = epoch
earlier (Some at) epoch = min at epoch

-- the state if the eligible slots are sufficient, by the slots that joined
abbrev pub IsStateOfJoined : CodeRows → Survey → ℕ → ℕ → State → Type 0
IsStateOfJoined code survey joined min (Down epoch eligible) =
    (DecidesAll code joined → ⊥) × ((epoch ≡ survey.epoch) × (eligible ≡ survey.eligible))
IsStateOfJoined code survey joined min (Short members least) =
    (members ≡ joined) × (DecidesAll code joined × ((count_below joined code.n < min) × (least ≡ min)))
IsStateOfJoined code survey joined min (Active members) =
    (members ≡ joined) × (DecidesAll code joined × (min ≤ count_below joined code.n))
