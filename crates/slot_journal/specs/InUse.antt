-- Which text of a slot's areas counts. Source: this project.
use Rattle.std.specs.Prelude.{◌==◌, ℕ, Bool, List, [], get_or, Option, None, Some, if◌then◌else◌}
use Rattle.rig_disk.specs.Disk.{on_told}
use Rattle.slot_journal.specs.Header.{open_gate}

-- the bytes of each area of a slot
abbrev pub Areas : Type 0
Areas = ℕ → List ℕ

-- the first byte of an area is an open gate
abbrev pub is_open : List ℕ → Bool
is_open bytes = get_or bytes 0 0 == open_gate

-- an area's bytes if it is open, and else no bytes
abbrev pub open_text : List ℕ → List ℕ
open_text bytes = if is_open bytes then bytes else []

-- the area of a slot whose text is in use: so far the first one
abbrev pub area_in_use : ℕ → Areas → ℕ
area_in_use slot areas = 0

-- the text in use of a slot: that of the area in use if it is open, and else no bytes
abbrev pub text_in_use : ℕ → Areas → List ℕ
text_in_use slot areas = open_text (areas (area_in_use slot areas))

-- the first area, if it is told
abbrev pub first_told : Option (List ℕ) → Option ℕ
first_told None = None
first_told (Some there) = Some 0

-- the area in use of a slot as it reads, if the rig tells it
abbrev pub told_area : ℕ → (ℕ → Option (List ℕ)) → Option ℕ
told_area slot areas = first_told (areas 0)

-- the text in use of a slot as it reads, if the rig tells it
abbrev pub told_text : ℕ → (ℕ → Option (List ℕ)) → Option (List ℕ)
told_text slot areas = on_told open_text (areas 0)
