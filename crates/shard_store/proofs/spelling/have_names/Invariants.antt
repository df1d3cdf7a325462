use Rattle.std.proofs.Common.{drop}
use Rattle.std.specs.List.{AllByRecursion}
use Rattle.shard_model.specs.StepBytes.{IsName}
use Rattle.shard_store.proofs.spelling.have_names.Given as goal

-- if those left have names, all have
abbrev pub invariant-loop-i : goal.invariant-loop-i
invariant-loop-i l = AllByRecursion (λ attr. IsName attr.0) (drop l.i l.attrs) → AllByRecursion (λ attr. IsName attr.0) l.attrs
