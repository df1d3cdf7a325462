use Rattle.std.proofs.Common.{◌≡◌, ◌++◌, drop}
use Rattle.std.specs.List.{AllByRecursion, flat_map}
use Rattle.shard_model.specs.StepBytes.{pair_bytes, pairs_bytes, IsCounted}
use Rattle.shard_steps.proofs.encoding.put_attrs.Given as goal

-- what is out, and what is still to come, are all
abbrev pub invariant-loop-i : goal.invariant-loop-i
invariant-loop-i l = record {
  out : l.out ++ flat_map pair_bytes (drop l.i l.fn.attrs) ≡ l.fn.out ++ pairs_bytes l.fn.attrs;
  same : l.attrs ≡ l.fn.attrs;
  short : AllByRecursion (λ attr. IsCounted attr.1) (drop l.i l.fn.attrs);
}
