-- Copies of the log's entries. Source: this project.
use Rattle.std.specs.Prelude.{◌≡◌, ◌≤◌, List, [], ◌∷◌}
use Rattle.shard_state.specs.Sound.{Recorded}

-- the same entry, with room for as many attributes at least
pub record IsCopy (old new : Recorded) : Type 0 where
  pub logged : new.logged ≡ old.logged
  pub room : old.room ≤ new.room

-- as many entries, each a copy of the one in its place
abbrev pub AreCopies : List Recorded → List Recorded → Type 0
AreCopies [] news = news ≡ []
AreCopies (old ∷ olds) [] = ⊥
AreCopies (old ∷ olds) (new ∷ news) = IsCopy old new × AreCopies olds news
