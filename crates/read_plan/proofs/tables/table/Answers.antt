use Rattle.std.proofs.Common.{refl, arith}
use Rattle.read_plan.proofs.TableLemmas.{zeros_at}
use Rattle.read_plan.proofs.tables.table.Goals as goal

pub loop-p-init : goal.loop-p-init
loop-p-init g c = (refl, λ p j lt. absurd (omega arith), λ p j le. zeros_at 16 16 p j)
