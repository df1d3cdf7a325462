use Rattle.gf256.specs.Kernels.{AddsWithin}
use Rattle.gf256.proofs.kernels.add_tail.Given as goal

abbrev pub invariant-loop-i : goal.invariant-loop-i
invariant-loop-i l = AddsWithin (λ b. b) l.start l.i l.fn.to l.from l.to
