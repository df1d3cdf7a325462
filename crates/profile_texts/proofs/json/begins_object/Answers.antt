use Rattle.std.proofs.Common.{rules}
use Rattle.profile_texts.proofs.json.begins_object.Goals as goal

pub returns : goal.returns
returns c = search rules
