use Rattle.shard_store.proofs.OneStoryLemmas.{one_story}
use Rattle.shard_store.proofs.laws.texts_have_one_story.Goals as goal

pub returns : goal.returns
returns c = one_story c.texts_have_one_reading.ensures
