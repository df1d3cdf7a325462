-- Boxes of codes, by the names of their plugins and the codes that they are. Source: this project.
-- `named` gives the name of a box, and `code_of` its code.
use Rattle.std.specs.Prelude.{◌≡◌, ◌≢◌, ◌<◌, ℕ, List, length, slice_index_or}
use Rattle.ec_code.specs.declared.profile.Plugin.{Plugin}
use Rattle.ec_code.specs.Profiles.{name_of}
use Rattle.ec_model.specs.Codes.{CodeRows}

-- a box goes by a name
abbrev pub HaveBox : {Box : Type 0} → (Box → List ℕ) → List Box → List ℕ → Type 0
HaveBox {Box} named boxes name = (i : ℕ) × (i < length boxes) × ((d : Box) → named (slice_index_or boxes i d) ≡ name)

-- no box goes by a name
abbrev pub HaveNoBox : {Box : Type 0} → (Box → List ℕ) → List Box → List ℕ → Type 0
HaveNoBox {Box} named boxes name = (j : ℕ) (d : Box) → j < length boxes → named (slice_index_or boxes j d) ≢ name

-- there is a box of each plugin
abbrev pub HaveEachPlugin : {Box : Type 0} → (Box → List ℕ) → List Box → Type 0
HaveEachPlugin {Box} named boxes = (q : Plugin) → HaveBox named boxes (name_of q)

-- the boxes keep their number and their names
pub record KeepNames {Box : Type 0} (named : Box → List ℕ) (old new : List Box) : Type 0 where
  pub count : length new ≡ length old
  pub names : (j : ℕ) (d : Box) → named (slice_index_or new j d) ≡ named (slice_index_or old j d)

-- each box is the code that it was
abbrev pub KeepCodes : {Box : Type 0} → (Box → CodeRows) → List Box → List Box → Type 0
KeepCodes {Box} code_of old new = (j : ℕ) (d : Box) → code_of (slice_index_or new j d) ≡ code_of (slice_index_or old j d)
