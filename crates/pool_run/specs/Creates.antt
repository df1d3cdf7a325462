-- The promise of `ecpool create`: a crash at each instant leaves no pool, or the new one whole. Source: this project.
-- Read first: pool_moves' Creating.antt (`HasNoneOrFirst`, `IsCreated`).
use Rattle.std.specs.Prelude.{◌≡◌, ◌≢◌, ◌⊎◌, ◌<◌, ◌≤◌, ℕ, List, [], ◌∷◌, length, Option, Some}
use Rattle.std.specs.Io.KnownBytes.{Appends}
use Rattle.ec_model.specs.Codes.{CodeRows}
use Rattle.ec_code.specs.declared.profile.Profile.{Profile}
use Rattle.ec_code.specs.Refusals.{IsCodeOf}
use Rattle.rig_disk.specs.Disk.{Image}
use Rattle.rig_disk.specs.During.{During}
use Rattle.slot_journal.specs.InUse.{told_text}
use Rattle.pool_moves.specs.Contents.{layout_of}
use Rattle.pool_moves.specs.Creating.{HasNoneOrFirst, IsCreated}
use Rattle.pool_moves.specs.Making.{AllAreTold, HaveNoPool}
use Rattle.pool_run.specs.Texts.{ComesFor, OneOf, line_of, slot_line}

-- what is said of a pool that was to be made: nothing, or which slot failed, or that there is a pool
pub record SaysOfPool (status : ℕ) (before now : Option (List ℕ)) : Type 0 where
  pub unsaid : OneOf status (0 ∷ 10 ∷ 13 ∷ []) → Appends before now []
  pub exists : status ≡ 4 → Appends before now (line_of 4)
  pub slot : status ≡ 5 → (slot : ℕ) × (slot < 16) × Appends before now (slot_line slot)

-- a pool was to be made with an accepted profile
pub record CreatesPool {R : Type 0} (p : Profile) (status : ℕ) (reads_of : R → ℕ → ℕ → Option (List ℕ)) (clock_of : R → ℕ)
    (images_of : R → ℕ → Image → List ℕ → Type 0) (said_of : R → Option (List ℕ)) (old new : R) : Type 0 where
  pub statuses : OneOf status (0 ∷ 4 ∷ 5 ∷ 9 ∷ 10 ∷ 13 ∷ [])
  pub code : CodeRows
  pub is_code : IsCodeOf p code
  -- with status 0 each image is the new pool whole
  pub made : status ≡ 0 → AllAreTold (reads_of old) → (image : Image) (said : List ℕ) → images_of new (clock_of new) image said
      → IsCreated (layout_of p code) p code.k image
  -- at each instant there is no pool, or the new one whole
  pub any_moment : AllAreTold (reads_of old) → HaveNoPool (images_of old (clock_of old))
      → During clock_of images_of old new (λ image said. HasNoneOrFirst (layout_of p code) p code.k image)
  -- with each other status there is no pool if there was none, but perhaps after the slot of the map failed
  pub refused : status ≢ 0 → status ≢ 10 → HaveNoPool (images_of old (clock_of old)) → HaveNoPool (images_of new (clock_of new))
  -- status 4 if the slot of the map has more than no pool, as far as it is told
  pub exists : (text : List ℕ) → told_text 16 (reads_of old 16) ≡ Some text → ComesFor (24 ≤ length text) 4 (9 ∷ 10 ∷ 13 ∷ []) status
  pub says : SaysOfPool status (said_of old) (said_of new)

-- so it was, or the input failed or memory ran out before anything was done
abbrev pub MakesPool : {R : Type 0} → Profile → ℕ → (R → ℕ → ℕ → Option (List ℕ)) → (R → ℕ) → (R → ℕ → Image → List ℕ → Type 0) → (R → Option (List ℕ)) → R → R → Type 0
MakesPool p status reads_of clock_of images_of said_of old new =
    CreatesPool p status reads_of clock_of images_of said_of old new ⊎ (OneOf status (8 ∷ 13 ∷ []) × (new ≡ old))
