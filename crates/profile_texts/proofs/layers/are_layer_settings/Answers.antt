use Rattle.std.proofs.Common.{rules}
use Rattle.serde_json.specs.View.{view}
use Rattle.profile_texts.proofs.LayerLemmas.{other_settings}
use Rattle.profile_texts.proofs.layers.are_layer_settings.Goals as goal

pub returns-in-Some-as_object : goal.returns-in-Some-as_object
returns-in-Some-as_object c =
    other_settings (view c.args.value.now) c.in-Some-as_object.members.now.entries c.is_empty.result (search rules) (search rules) c.is_empty.ensures
