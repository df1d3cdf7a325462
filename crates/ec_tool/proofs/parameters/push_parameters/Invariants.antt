use Rattle.std.proofs.Common.{◌≡◌, ◌++◌, take}
use Rattle.std.specs.List.{flat_map}
use Rattle.ec_model.specs.Codes.{CodeRows}
use Rattle.ec_code.specs.Shapes.{HasShape}
use Rattle.ec_tool.specs.Parameters.{parameter_line}
use Rattle.ec_tool.specs.Words.{texts_of}
use Rattle.ec_tool.proofs.parameters.push_parameters.Given as goal

abbrev pub invariant-loop-i : goal.invariant-loop-i
invariant-loop-i l = (code : CodeRows) → HasShape code l.shape.k l.shape.n l.shape.lead
    → l.list.items ≡ l.initial.list.items ++ flat_map (parameter_line code) (texts_of (take l.i l.parameters))
