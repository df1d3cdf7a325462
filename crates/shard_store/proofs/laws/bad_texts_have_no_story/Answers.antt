use Rattle.shard_store.proofs.OneStoryLemmas.{no_story}
use Rattle.shard_store.proofs.laws.bad_texts_have_no_story.Goals as goal

pub returns : goal.returns
returns c = no_story c.texts_have_one_reading.ensures c.bad_texts_have_one_place.ensures
