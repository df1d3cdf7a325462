use Rattle.shard_model.proofs.StepLemmas.{whole_after, whole_from}
use Rattle.shard_model.proofs.laws.steps_keep_whole.Goals as goal

pub returns : goal.returns
returns c = λ g s positive whole. record {
  one = λ step fit. whole_after g positive s step whole fit;
  all = λ steps t is. whole_from g positive s steps t whole is;
}
