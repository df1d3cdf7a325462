use Rattle.std.proofs.Common.{◌≡◌, map}
use Rattle.std.specs.List.{range_with_len}
use Rattle.ec_model.specs.Rows.{entry_at}
use Rattle.pool_run.proofs.profiles.row.Given as goal

abbrev pub invariant-loop-j : goal.invariant-loop-j
invariant-loop-j g l = l.entries.items ≡ map (entry_at ((goal.Code-dyn g l.code.now).meaning l.code.now.1).rows l.p) (range_with_len 0 l.j)
