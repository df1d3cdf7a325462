use Rattle.std.proofs.Common.{◌≡◌, ◌++◌}
use Rattle.std.specs.List.{flat_map, range_with_len}
use Rattle.pool_run.specs.Profiles.{row_line}
use Rattle.pool_run.proofs.profiles.push_rows.Given as goal

abbrev pub invariant-loop-p : goal.invariant-loop-p
invariant-loop-p g l = l.list.items ≡ l.initial.list.items ++ flat_map (row_line ((goal.Code-dyn g l.code.now).meaning l.code.now.1)) (range_with_len 0 l.p)
