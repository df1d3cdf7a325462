use Rattle.std.proofs.Common.{arith}
use Rattle.shard_model.proofs.BoundLemmas.{drop_long, reset_long, step_short}
use Rattle.shard_model.proofs.BroughtLemmas.{put_long}
use Rattle.shard_model.proofs.LengthLemmas.{name_short, write_long, replace_long, set_long, entry_long, control_long}
use Rattle.shard_model.proofs.laws.step_lengths.Goals as goal

pub returns : goal.returns
returns c = record {
  entry = entry_long;
  bounded = λ e is. omega (arith, entry_long e, name_short e.name is);
  write = write_long;
  replace = replace_long;
  set_attr = set_long;
  remove_attr = λ attr. omega arith;
  control = control_long;
  put = put_long;
  drop = drop_long;
  reset = reset_long;
  any = λ g s step positive. step_short g positive s step;
}
