-- The way back to a version, entry by entry. Source: this project.
use Rattle.std.specs.Prelude.{◌≡◌, ℕ, List, [], ◌∷◌, ◌++◌, take, drop, Some}
use Rattle.shard_model.specs.Objects.{ShardObjects}
use Rattle.shard_model.specs.States.{Logged, undone_one, undone}
use Rattle.ec_model.specs.Versions.{Version}
use Rattle.shard_model.specs.Steps.{Step, Control, Back}
use Rattle.shard_model.specs.Replays.{Replay, replay_of, state_of, objects_at, replay_after}
use Rattle.shard_model.specs.Shards.{Shard}

-- the shard with these objects and this log
abbrev pub with_log : Shard → ShardObjects → List Logged → Shard
with_log s m log = record { geometry = s.geometry; state = record s.state { objects = m; log = log } }

-- the newest entry is taken back, and the head is as it was
abbrev pub UndoesNewest : Shard → Shard → Type 0
UndoesNewest before now = (ns : List Logged) (n : Logged) → before.state.log ≡ ns ++ n ∷ []
    → now ≡ with_log before (undone_one before.geometry before.state.objects n) ns

-- on the way: with the log's first entries as they were, and some of the others taken back
pub record IsPartWay (cut : ℕ) (before now : Shard) : Type 0 where
  pub same : now ≡ with_log before now.state.objects now.state.log
  pub front : take cut now.state.log ≡ take cut before.state.log
  pub objects : undone before.geometry now.state.objects (drop cut now.state.log) ≡ undone before.geometry before.state.objects (drop cut before.state.log)

-- if steps lead to this state, its objects are now those at the version, and it is the state of the replay that went back
abbrev pub GivesThePast : Shard → Shard → Version → Type 0
GivesThePast before now v = (steps : List Step) (s : Replay) → replay_of before.geometry steps ≡ Some s → before.state ≡ state_of before.geometry s
    → (now.state.objects ≡ objects_at before.geometry s v) × ((now.state.head ≡ v) × (now.state ≡ state_of before.geometry (replay_after before.geometry s (Control (Back v)))))
