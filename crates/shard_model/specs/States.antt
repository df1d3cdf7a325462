-- A state keeps the present objects alone, and what takes back each entry that led there. Source: Ceph developer guide,
-- "Erasure Coded pool" (log entries that are rolled back locally).
use Rattle.std.specs.Prelude.{ℕ, ◌+◌, Bool, true, false, not, ◌&&◌, ◌||◌, nat_lt, nat_le, ◌==◌, cond, List, [], ◌∷◌, ◌++◌, length, map, Some, None}
use Rattle.std.specs.Ordering.{nat_cmp}
use Rattle.std.specs.Cmp.Lexicographic.{slice_cmp}
use Rattle.std.specs.List.{list_any, list_all}
use Rattle.std.specs.FinMap as fin
use Rattle.ec_model.specs.Versions.{Version, is_up_to, is_same}
use Rattle.shard_model.specs.Limits.{max_size, max_value, max_attrs, seq_limit}
use Rattle.shard_model.specs.Fronts.{up_to, after}
use Rattle.shard_model.specs.Objects.{ShardObject, ShardObjects, Geometry, put, shard_len}
use Rattle.shard_model.specs.Changes.{Kind, kind_of, Undo, Settled, fits_change, changed, undo_of, restored}
use Rattle.shard_model.specs.Steps.{Entry, Back, Firm, Trim, Started, Partial, Put, Drop, Clear, Reset, Step, Log, Control, Recover}

-- an entry as the log keeps it
pub record Logged : Type 0 where
  pub version : Version
  pub prior : Version
  pub name : List ℕ
  pub kind : Kind
  pub undo : Undo

abbrev pub version_of : Logged → Version
version_of n = n.version

-- no step yet; a base alone; under way
pub data Phase : Type 0 where
  Unbegun Based Running : Phase

-- the phase after a step
abbrev pub phase_after : Phase → Step → Phase
phase_after phase step = Running

-- `tail` is the version before the log's first entry, `head` the last version, `les` the last epoch started; no entry up
-- to `firm` can be taken back; `partial`: the shard is being filled
pub record State : Type 0 where
  pub phase : Phase
  pub objects : ShardObjects
  pub log : List Logged
  pub tail : Version
  pub firm : Version
  pub head : Version
  pub les : ℕ
  pub partial : Bool

-- the objects after an entry
abbrev pub effect : Geometry → ShardObjects → Entry → ShardObjects
effect g m e = put m e.name (changed g e.change (fin.get m e.name))

-- the entry in the log, with what takes it back
abbrev pub logged : ShardObjects → Entry → Logged
logged m e =
    record { version = e.version; prior = e.prior; name = e.name; kind = kind_of e.change; undo = undo_of e.change (fin.get m e.name) }

-- the objects with one log entry taken back
abbrev pub undone_one : Geometry → ShardObjects → Logged → ShardObjects
undone_one g m n = put m n.name (restored g n.undo (fin.get m n.name))

-- the objects with all of a list's entries taken back, the newest first
abbrev pub undone : Geometry → ShardObjects → List Logged → ShardObjects
undone g m [] = m
undone g m (n ∷ ns) = undone_one g (undone g m ns) n

-- an entry up to v is never taken back again
abbrev pub settled : Version → Logged → Logged
settled v n =
    record { version = n.version; prior = n.prior; name = n.name; kind = n.kind; undo = cond (is_up_to n.version v) Settled n.undo }

-- v is the tail, or a logged version after it
abbrev pub is_known : State → Version → Bool
is_known s v = is_same s.tail v || (is_up_to s.tail v && list_any (λ n. is_same n.version v) s.log)

-- the shard can go back to v: it is known, and not below what is firm
abbrev pub holds : State → Version → Bool
holds s v = is_known s v && is_up_to s.firm v

-- the entry's version follows the head
abbrev pub follows : State → Entry → Bool
follows s e =
    not s.partial
    && (is_same e.prior s.head
    && (e.version.seq == e.prior.seq + 1
    && (nat_lt e.version.seq seq_limit && (nat_le 1 e.version.epoch && nat_le e.prior.epoch e.version.epoch))))

-- no more attributes than there may be, in the order of their names, none with too long a value
abbrev pub are_attrs : List (List ℕ × List ℕ) → Bool
are_attrs attrs =
    nat_le (length attrs) max_attrs
    && (fin.is_sorted (slice_cmp nat_cmp) attrs && list_all (λ a. nat_le (length a.1) max_value) attrs)

-- the step may come in this state
abbrev pub fits : Geometry → State → Step → Bool
fits g s (Log e) = follows s e && fits_change g e.change (fin.get s.objects e.name)
fits g s (Control (Back v)) = not s.partial && holds s v
fits g s (Control (Firm v)) = not s.partial && holds s v
fits g s (Control (Trim v)) = not s.partial && (is_known s v && is_up_to v s.firm)
fits g s (Control (Started epoch)) = not s.partial && nat_lt s.les epoch
fits g s (Control Partial) = true
fits g s (Recover (Put name size bytes attrs)) =
    s.partial && (nat_le size max_size && (length bytes == shard_len g size && are_attrs attrs))
fits g s (Recover (Drop name)) = s.partial
fits g s (Recover Clear) = s.partial
fits g s (Recover (Reset v epoch)) = s.partial && nat_lt v.seq seq_limit

-- the object that a `Put` brings
abbrev pub brought : ℕ → List ℕ → List (List ℕ × List ℕ) → ShardObject
brought size bytes attrs = record { bytes = bytes; size = size; attrs = fin.from_entries attrs }

-- what a step does to all but the phase
abbrev pub moved : Geometry → State → Step → State
moved g s (Log e) =
    record s { objects = effect g s.objects e; log = s.log ++ logged s.objects e ∷ []; head = e.version }
moved g s (Control (Back v)) =
    record s { objects = undone g s.objects (after version_of v s.log); log = up_to version_of v s.log; head = v }
moved g s (Control (Firm v)) = record s { log = map (settled v) s.log; firm = v }
moved g s (Control (Trim v)) = record s { log = after version_of v s.log; tail = v }
moved g s (Control (Started epoch)) = record s { les = epoch }
moved g s (Control Partial) = record s { log = []; partial = true }
moved g s (Recover (Put name size bytes attrs)) =
    record s { objects = put s.objects name (Some (brought size bytes attrs)) }
moved g s (Recover (Drop name)) = record s { objects = put s.objects name None }
moved g s (Recover Clear) = record s { objects = fin.empty }
moved g s (Recover (Reset v epoch)) = record s { tail = v; firm = v; head = v; les = epoch; partial = false }

-- the state after a step
abbrev pub state_after : Geometry → State → Step → State
state_after g s step = record (moved g s step) { phase = phase_after s.phase step }
