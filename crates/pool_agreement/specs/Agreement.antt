-- The contents of a pool's slots and its history. Source: this project.
use Rattle.std.specs.Prelude.{◌⊎◌, ◌<◌, ◌*◌, ℕ, List}
use Rattle.ec_code.specs.declared.profile.Profile.{Profile}
use Rattle.ec_model.specs.Codes.{IsCode}
use Rattle.ec_model.specs.Versions.{Version}
use Rattle.rig_disk.specs.Disk.{Image}
use Rattle.rig_disk.specs.During.{During}
use Rattle.slot_journal.specs.InUse.{text_in_use}
use Rattle.pool_map.specs.Maps.{IsNoPool, map_slot, without_profile}
use Rattle.pool_moves.specs.Contents.{Contents, HasContents}
use Rattle.pool_moves.specs.Contents as slots
use Rattle.pool_moves.specs.Creating.{IsFirst, HasNoneOrFirst}
use Rattle.pool_moves.specs.Instants.{MovedFrom}
use Rattle.pool_moves.specs.Moves.{Move}
use Rattle.pool_moves.specs.Turns.{AreComplete}
use Rattle.pool_history.specs.Consistency.{Agrees}
use Rattle.pool_history.specs.Histories.{History, IsOneOf, first_history, with_activated}
use Rattle.pool_history.specs.Images.{StoredPool, IsStoredPool, IsLastAlive}
use Rattle.pool_history.specs.Layouts.{Layout, geometry_of}
use Rattle.pool_history.specs.Transitions.{AllHaveStarted}

-- how the slots are read of a pool whose objects lie so
abbrev pub slots_of : Layout → slots.Layout
slots_of layout = record { geometry = geometry_of layout; n = layout.code.n }

-- contents as what stands on the devices
abbrev pub stored_of : Contents → StoredPool
stored_of c = record { map = without_profile c.map; shards = c.shards }

-- contents are those of a pool, and agree with a history
pub record AgreesWith (layout : Layout) (c : Contents) (history : History) : Type 0 where
  pub stored : IsStoredPool layout (stored_of c)
  pub agrees : Agrees layout (stored_of c) history

-- every move keeps the agreement with each history
abbrev pub MovesKeepAgreement : Type 0
MovesKeepAgreement = (layout : Layout) (before after : Contents) (history : History)
    → AgreesWith layout before history → Move layout.code (slots_of layout) before after → AgreesWith layout after history

-- an image comes to contents that agree with a history
pub record Bears (layout : Layout) (history : History) (image : Image) : Type 0 where
  pub contents : Contents
  pub has : HasContents (slots_of layout) image contents
  pub agrees : AgreesWith layout contents history

-- if each image of the start agrees with a history, so does each image of every call that moves contents alone
abbrev pub CallsKeepAgreement : {R : Type 0} → (R → ℕ) → (R → ℕ → Image → List ℕ → Type 0) → Type 0
CallsKeepAgreement {R} clock_of images_of = (layout : Layout) (history : History) (old new : R)
    → ((image : Image) (said : List ℕ) → images_of old (clock_of old) image said → Bears layout history image)
    → During clock_of images_of old new (MovedFrom (Move layout.code (slots_of layout)) (slots_of layout) (images_of old (clock_of old)))
    → During clock_of images_of old new (λ image said. Bears layout history image)

-- the contents of a new pool agree with the first history
abbrev pub FirstContentsAgree : Type 0
FirstContentsAgree = (layout : Layout) (profile : Profile) (k : ℕ) (c : Contents) → IsCode layout.code → 0 < layout.code.k * layout.unit
    → IsFirst (slots_of layout) profile k c → AgreesWith layout c first_history

-- so each image of the making of a pool has none, or comes to contents that agree with the first history
abbrev pub MadePoolsAgree : Type 0
MadePoolsAgree = (layout : Layout) (profile : Profile) (k : ℕ) (image : Image) → IsCode layout.code → 0 < layout.code.k * layout.unit
    → HasNoneOrFirst (slots_of layout) profile k image
    → IsNoPool (text_in_use map_slot (image map_slot)) ⊎ Bears layout first_history image

-- if all slots that joined the last interval that went alive have started it, contents agree also with the history in which it
-- went active
abbrev pub ActivationsAgree : Type 0
ActivationsAgree = (layout : Layout) (c : Contents) (history : History) (epoch joined : ℕ) (base : Version) → AgreesWith layout c history
    → IsLastAlive c.map.state.intervals epoch joined base → (IsOneOf history.activated epoch → ⊥) → AllHaveStarted (stored_of c) joined epoch
    → AgreesWith layout c (with_activated epoch base history)

-- so do the images of now, if the pool is complete in each: they agree also with the history in which its epoch is active
abbrev pub CompletePoolsAgree : {R : Type 0} → (R → ℕ) → (R → ℕ → Image → List ℕ → Type 0) → Type 0
CompletePoolsAgree {R} clock_of images_of = (layout : Layout) (history : History) (now : R) (epoch joined : ℕ)
    → ((image : Image) (said : List ℕ) → images_of now (clock_of now) image said → Bears layout history image) → (IsOneOf history.activated epoch → ⊥)
    → (complete : AreComplete (slots_of layout) (images_of now (clock_of now)) epoch joined) → (image : Image) (said : List ℕ)
    → images_of now (clock_of now) image said → Bears layout (with_activated epoch complete.base history) image
