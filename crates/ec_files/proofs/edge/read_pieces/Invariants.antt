use Rattle.std.proofs.Common.{◌≤◌, ◌^◌, length}
use Rattle.ec_files.proofs.edge.read_pieces.Given as goal

abbrev pub invariant-loop : goal.invariant-loop
invariant-loop g l = length l.list.items ≤ 2 ^ 26
