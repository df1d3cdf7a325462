-- What a call leaves as it was, and how far it lets the counts of its slot go on. Source: this project.
use Rattle.std.specs.Prelude.{◌≡◌, ◌≢◌, ◌≤◌, ◌+◌, ◌↔◌, min, ℕ, List, Option, None, Some}
use Rattle.rig_disk.specs.Disk.{IsOther}
use Rattle.rig_disk.specs.Faults.{count_limit}

-- a count, if it is told, after n more; it stands still at the largest
abbrev pub more : ℕ → Option ℕ → Option ℕ
more n None = None
more n (Some before) = Some (min (before + n) count_limit)

-- a count, if it is told, doesn't fall and rises by at most n
abbrev pub Adds : ℕ → Option ℕ → Option ℕ → Type 0
Adds n (Some before) (Some now) = (before ≤ now) × (now ≤ before + n)
Adds n (Some before) None = ⊥
Adds n None now = Unit {0}

-- one slot has at most the given numbers of syncs, bytes written and bytes read
pub record Spends {R : Type 0} (syncs_of written_of read_of : R → ℕ → Option ℕ) (slot sync_count written_count read_count : ℕ) (old new : R) : Type 0 where
  pub syncs : Adds sync_count (syncs_of old slot) (syncs_of new slot)
  pub written : Adds written_count (written_of old slot) (written_of new slot)
  pub read : Adds read_count (read_of old slot) (read_of new slot)

-- the counts of every other slot are as they were
pub record KeepsCounts {R : Type 0} (faults_of : R → ℕ → ℕ) (syncs_of written_of read_of : R → ℕ → Option ℕ) (slot : ℕ) (old new : R) : Type 0 where
  pub faults : (s : ℕ) → s ≢ slot → faults_of new s ≡ faults_of old s
  pub syncs : (s : ℕ) → s ≢ slot → syncs_of new s ≡ syncs_of old s
  pub written : (s : ℕ) → s ≢ slot → written_of new s ≡ written_of old s
  pub read : (s : ℕ) → s ≢ slot → read_of new s ≡ read_of old s

-- which slots are here, what was said, what every other area reads, and the counts of every other slot are as they were
pub record KeepsOthers {R : Type 0} (is_here : R → ℕ → Type 0) (reads_of : R → ℕ → ℕ → Option (List ℕ)) (said_of : R → Option (List ℕ)) (faults_of : R → ℕ → ℕ)
    (syncs_of written_of read_of : R → ℕ → Option ℕ) (slot area : ℕ) (old new : R) : Type 0 where
  pub here : (s : ℕ) → is_here old s ↔ is_here new s
  pub reads : (s a : ℕ) → IsOther slot area s a → reads_of new s a ≡ reads_of old s a
  pub said : said_of new ≡ said_of old
  pub counts : KeepsCounts faults_of syncs_of written_of read_of slot old new
