use Rattle.map_model.proofs.PositionLemmas.{inside_by, marks_by}
use Rattle.map_model.proofs.laws.masks_are_by_positions.Goals as goal

pub returns-clause-inside : goal.returns-clause-inside
returns-clause-inside c = inside_by

pub returns-clause-marks : goal.returns-clause-marks
returns-clause-marks c = marks_by
