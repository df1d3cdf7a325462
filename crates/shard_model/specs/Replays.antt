-- What steps come to if entries are replayed from a base and nothing is ever undone. Source: this project.
use Rattle.std.specs.Prelude.{◌≡◌, ◌⊎◌, ℕ, Bool, true, false, cond, List, [], ◌∷◌, ◌++◌, Option, Some, None}
use Rattle.std.specs.List.{AllByRecursion, list_any}
use Rattle.std.specs.FinMap as fin
use Rattle.ec_model.specs.Versions.{Version, is_up_to, is_same, zero_version}
use Rattle.shard_model.specs.Fronts.{up_to, after}
use Rattle.shard_model.specs.Objects.{ShardObjects, Geometry, put, AreHeld}
use Rattle.shard_model.specs.Changes.{Settled, fits_change}
use Rattle.shard_model.specs.Steps.{Entry, Back, Firm, Trim, Started, Partial, Put, Drop, Clear, Reset, Step, Log, Control, Recover}
use Rattle.shard_model.specs.States.{Phase, Unbegun, phase_after, State, Logged, version_of, effect, logged, settled, fits, brought}

-- `base`: the objects at the version `base_version`; `past`: checkpointed entries, which the base holds already; `entries`: those
-- after it
pub record Replay : Type 0 where
  pub phase : Phase
  pub base : ShardObjects
  pub base_version : Version
  pub past : List Logged
  pub entries : List Entry
  pub tail : Version
  pub firm : Version
  pub les : ℕ
  pub partial : Bool

abbrev pub entry_version : Entry → Version
entry_version e = e.version

-- the objects after entries that are done in order
abbrev pub replayed : Geometry → ShardObjects → List Entry → ShardObjects
replayed g m [] = m
replayed g m (e ∷ es) = replayed g (effect g m e) es

-- the objects at a version: the base with the entries up to it
abbrev pub objects_at : Geometry → Replay → Version → ShardObjects
objects_at g s v = replayed g s.base (up_to entry_version v s.entries)

abbrev pub last_version : Version → List Entry → Version
last_version v [] = v
last_version v (e ∷ es) = last_version e.version es

-- the last entry's version, or the base's
abbrev pub head : Replay → Version
head s = last_version s.base_version s.entries

-- entries as the log keeps them, each with what takes it back as the objects before it tell
abbrev pub logged_all : Geometry → Version → ShardObjects → List Entry → List Logged
logged_all g firm m [] = []
logged_all g firm m (e ∷ es) = settled firm (logged m e) ∷ logged_all g firm (effect g m e) es

-- the log: the checkpointed entries and then the others, from the tail on
abbrev pub log : Geometry → Replay → List Logged
log g s = after version_of s.tail (s.past ++ logged_all g s.firm s.base s.entries)

-- the state that a replay comes to
abbrev pub state_of : Geometry → Replay → State
state_of g s = record {
  phase = s.phase;
  objects = replayed g s.base s.entries;
  log = log g s;
  tail = s.tail;
  firm = s.firm;
  head = head s;
  les = s.les;
  partial = s.partial;
}

-- what a step does to all but the phase
abbrev pub replay_moved : Geometry → Replay → Step → Replay
replay_moved g s (Log e) = record s { entries = s.entries ++ e ∷ [] }
replay_moved g s (Control (Back v)) = record s { entries = up_to entry_version v s.entries }
replay_moved g s (Control (Firm v)) = record s { firm = v }
replay_moved g s (Control (Trim v)) = record s { tail = v }
replay_moved g s (Control (Started epoch)) = record s { les = epoch }
replay_moved g s (Control Partial) = record s {
  base = replayed g s.base s.entries;
  base_version = head s;
  past = [];
  entries = [];
  partial = true;
}
replay_moved g s (Recover (Put name size bytes attrs)) = record s { base = put s.base name (Some (brought size bytes attrs)) }
replay_moved g s (Recover (Drop name)) = record s { base = put s.base name None }
replay_moved g s (Recover Clear) = record s { base = fin.empty }
replay_moved g s (Recover (Reset v epoch)) = record s { base_version = v; tail = v; firm = v; les = epoch; partial = false }

-- the replay with one step more
abbrev pub replay_after : Geometry → Replay → Step → Replay
replay_after g s step = record (replay_moved g s step) { phase = phase_after s.phase step }

-- before any step
abbrev pub fresh_replay : Replay
fresh_replay = record {
  phase = Unbegun;
  base = fin.empty;
  base_version = zero_version;
  past = [];
  entries = [];
  tail = zero_version;
  firm = zero_version;
  les = 0;
  partial = false;
}

-- the replay that a list of steps leads to from another; it is there only if each step fits
abbrev pub replay_from : Geometry → Replay → List Step → Option Replay
replay_from g s [] = Some s
replay_from g s (step ∷ steps) = cond (fits g (state_of g s) step) (replay_from g (replay_after g s step) steps) None

-- the replay of a list of steps from the start
abbrev pub replay_of : Geometry → List Step → Option Replay
replay_of g steps = replay_from g fresh_replay steps

-- the versions of entries rise, and the first is above v
abbrev pub AreRising : Version → List Entry → Type 0
AreRising v [] = Unit {0}
AreRising v (e ∷ es) = (is_up_to e.version v ≡ false) × AreRising e.version es

-- each entry fits the objects before it
abbrev pub AreFitting : Geometry → ShardObjects → List Entry → Type 0
AreFitting g m [] = Unit {0}
AreFitting g m (e ∷ es) = (fits_change g e.change (fin.get m e.name) ≡ true) × AreFitting g (effect g m e) es

-- what each step keeps
pub record IsWhole (g : Geometry) (s : Replay) : Type 0 where
  pub held : AreHeld g s.base
  pub rising : AreRising s.base_version s.entries
  pub fitting : AreFitting g s.base s.entries
  -- checkpointed entries lie up to the base's version, and cannot be taken back
  pub old : AllByRecursion (λ n. is_up_to n.version s.base_version ≡ true) s.past
  pub closed : AllByRecursion (λ n. n.undo ≡ Settled) s.past
  -- the tail lies up to the base's version, or is an entry's
  pub tail_known : (is_up_to s.tail s.base_version ≡ true) ⊎ (last_version s.base_version (up_to entry_version s.tail s.entries) ≡ s.tail)
  pub tail_low : is_up_to s.tail (head s) ≡ true
  pub firm_low : is_up_to s.firm (head s) ≡ true
  pub based : s.partial ≡ false → is_up_to s.base_version s.firm ≡ true
  -- the base's version is not above the tail, or is a checkpointed entry's
  pub base_known : s.partial ≡ false → (is_up_to s.base_version s.tail ≡ true) ⊎ (list_any (λ n. is_same n.version s.base_version) s.past ≡ true)
  -- a shard that is being filled has no log
  pub alone : s.partial ≡ true → (s.past ≡ []) × (s.entries ≡ [])
