-- The promise of `run`: whatever the script is and whenever the run stops, every sufficient set of slots represents the objects
-- after the earlier commands and the first of this run's, with each that was acknowledged. Source: this project.
-- Read first: pool_history's Histories.antt and Consistency.antt; then Items.antt, Answers.antt and Instants.antt beside this.
use Rattle.std.specs.Prelude.{◌≡◌, ◌≤◌, ℕ, List, [], ◌∷◌, ◌++◌, take, bit_or, slice_get, Some, None}
use Rattle.std.specs.declared.option.Option.{Option}
use Rattle.ec_model.specs.Codes.{HasPosition}
use Rattle.ec_model.specs.Versions.{Version}
use Rattle.shard_model.specs.Replays.{Replay}
use Rattle.pool_history.specs.Choices.{Chooses, Represents}
use Rattle.pool_history.specs.Histories.{IsInTree, IsOnPath, path_of, objects_of}
use Rattle.pool_history.specs.Images.{StoredPool, HasShard}
use Rattle.pool_history.specs.Consistency.{Agrees}
use Rattle.run_model.specs.Answers.{IsReadAs, acknowledged}
use Rattle.run_model.specs.Instants.{Throughout}
use Rattle.run_model.specs.Items.{Item, Run, Progress, script_of, progress, history_after, accepted_changes, excused_by, items_of}
use Rattle.run_model.specs.Pieces.{Piece}
use Rattle.run_model.specs.Records.{Begun, RunRecord, KnownTurn, joined_in}
use Rattle.run_model.specs.Scripts.{ScriptLine}
use Rattle.run_model.specs.Validity.{Ended, IsRecordOf}

-- slot p has a shard that is not being filled
abbrev pub ShardStands : StoredPool → ℕ → Type 0
ShardStands image p = (s : Replay) × HasShard image p s

-- the slots that joined the last interval
abbrev pub joined_last : List Begun → ℕ
joined_last [] = 0
joined_last (last ∷ older) = joined_in last.state

-- the slots whose shard a line so far, or the line in work, may take away
abbrev pub excused_with : Progress → Option ScriptLine → ℕ
excused_with now None = now.excused
excused_with now (Some line) = bit_or now.excused (excused_by now.recent line)

abbrev pub excused_now : Run → Progress → ℕ
excused_now run now = excused_with now (slice_get (script_of run) now.answered)

-- the path of a version is one of the earlier history, and then the first changes accepted in this run, none left out
pub record ExtendsEarlier (run : Run) (done : List Item) (version : Version) : Type 0 where
  pub earlier : Version
  pub known : IsInTree run.history.changes earlier
  pub count : ℕ
  pub path : path_of (history_after run done).changes version
      ≡ path_of run.history.changes earlier ++ take count (accepted_changes run done)

-- what sufficient slots choose and show: the objects of a version that has the committed one on its path
pub record ShowsAll (run : Run) (done : List Item) (image : StoredPool) (joined : ℕ) (version : Version) : Type 0 where
  pub represented : Represents run.layout image joined version (objects_of (history_after run done).changes version)
  pub committed : IsOnPath (history_after run done).changes (history_after run done).committed version
  pub in_order : ExtendsEarlier run done version

-- what was said since the call began is in order, and each change that was acknowledged is on the path of the committed version
pub record KeepsItsWord (run : Run) (done : List Item) (said : List ℕ) : Type 0 where
  pub whole : List Piece
  pub in_order : IsReadAs (progress run done) done said whole
  pub committed : ExtendsEarlier run done (history_after run done).committed
  pub acknowledged : acknowledged done whole ≤ committed.count

-- one image, with what was said by then, is safe if the run has done these items
pub record IsSafe (run : Run) (done : List Item) (image : StoredPool) (said : List ℕ) : Type 0 where
  pub consistent : Agrees run.layout image (history_after run done)
  pub joined_stand : (p : ℕ) → HasPosition (joined_last (progress run done).recent) p → ShardStands image p
  pub others_stand : (p : ℕ) → HasPosition run.stood p → (HasPosition (excused_now run (progress run done)) p → ⊥) → ShardStands image p
  pub shown : (up joined : ℕ) (version : Version) → Chooses run.layout image up joined version
      → ShowsAll run done image joined version
  pub answered : KeepsItsWord run done said

-- the images of one instant together: the run has done some first items of its record, and each image is safe for these
pub record HasDone {I : Type 0} (reads : I → StoredPool → Type 0) (run : Run) (items : List Item)
    (here : I → List ℕ → Type 0) : Type 0 where
  pub done : List Item
  pub rest : List Item
  pub first : items ≡ done ++ rest
  pub each : (image : I) (text : List ℕ) → here image text
      → (stored : StoredPool) × (reads image stored × ((said : List ℕ) × ((text ≡ run.said ++ said) × IsSafe run done stored said)))

-- the images of an instant, as their texts read
abbrev pub image_at : {I : Type 0} → (ℕ → I → List ℕ → Type 0) → (I → StoredPool → Type 0) → ℕ → StoredPool → Type 0
image_at {I = I} images reads t stored = (image : I) × ((text : List ℕ) × (images t image text × reads image stored))

-- what a call of `run` leaves behind: its record is that of a run, and at every instant of the call what it has done is safe
pub record IsAlwaysSafe {R I : Type 0} (clock : R → ℕ) (images : R → ℕ → I → List ℕ → Type 0) (reads : I → StoredPool → Type 0)
    (run : Run) (kept : RunRecord) (ended : Ended) (old new : R) : Type 0 where
  pub known : List KnownTurn
  pub recorded : IsRecordOf run kept known ended (clock old) (clock new) (image_at (images new) reads)
  pub always : Throughout clock images old new (HasDone reads run (items_of run kept known))
