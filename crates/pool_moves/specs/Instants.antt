-- What holds at each instant of a call on a pool. Source: this project.
use Rattle.std.specs.Prelude.{ℕ, List}
use Rattle.rig_disk.specs.Disk.{Image}
use Rattle.pool_moves.specs.Contents.{Layout, Contents, HasContents}
use Rattle.pool_moves.specs.Moves.{Chain}

-- an image comes to what steps of a kind make of these contents
pub record Moved (Step : Contents → Contents → Type 0) (l : Layout) (before : Contents) (image : Image) : Type 0 where
  pub after : Contents
  pub has : HasContents l image after
  pub chain : Chain Step before after

-- an image is made by such steps from one of these, and nothing is said
pub record MovedFrom (Step : Contents → Contents → Type 0) (l : Layout) (images : Image → List ℕ → Type 0)
    (image : Image) (said : List ℕ) : Type 0 where
  pub source : Image
  pub was : images source said
  pub moved : (before : Contents) → HasContents l source before → Moved Step l before image
