-- Mappings and layers that make a code. Source: this project.
use Rattle.std.specs.Prelude.{◌<◌, ◌≤◌, ℕ, List, length}
use Rattle.ec_model.specs.Codes.{CodeRows}
use Rattle.ec_model.specs.Lrc.{IsLrc, data_count, HasLengthFault, HasInputFault, HasOutputFault}
use Rattle.ec_code.specs.declared.profile.Profile.{Profile}
use Rattle.ec_code.specs.LrcFaults.{IsLrcsCode}

-- a mapping of at most 16 positions, some of them data chunks and some not
pub record IsMapping (mapping : List ℕ) : Type 0 where
  pub few : length mapping ≤ 16
  pub some_data : 1 ≤ data_count mapping
  pub some_coding : data_count mapping < length mapping

-- such a mapping, and layers with no fault
pub record IsSound (mapping : List ℕ) (layers : List (List ℕ)) : Type 0 where
  pub whole : IsMapping mapping
  pub lengths : HasLengthFault mapping layers → ⊥
  pub inputs : HasInputFault mapping layers → ⊥
  pub outputs : HasOutputFault mapping layers → ⊥

-- a mapping and layers are those of a profile: each code of theirs is the profile's
abbrev pub IsLayoutOf : Profile → List ℕ → List (List ℕ) → Type 0
IsLayoutOf p mapping layers = (code : CodeRows) → IsLrc mapping layers code → IsLrcsCode p code
