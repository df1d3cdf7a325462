use Rattle.std.proofs.Common.{rules, ap, ◌∙◌, filter}
use Rattle.std.proofs.lemmas.Iterator.{YieldsList-from_map_by, YieldsList-from_slice}
use Rattle.std.proofs.lemmas.Iterator.Consumers.{reduce_by_from_yields_List, YieldsList-from_filter, YieldsList-at}
use Rattle.ec_code.specs.Readings.{lesser, is_bad, least_text}
use Rattle.profile_texts.proofs.KeyLemmas.{keys_of_shown}
use Rattle.profile_texts.specs.SettingTexts.{shown}
use Rattle.profile_texts.proofs.reading.bad_key.Goals as goal

pub returns : goal.returns
returns c = λ layers has.
    reduce_by_from_yields_List _ lesser c.filter.result c.min.result (λ p z. search rules) c.min.ensures.ran
    (YieldsList-from_filter _ (is_bad layers (shown c.args.settings.now))
    (YieldsList-at c.filter.ensures.source
    (YieldsList-from_map_by _ (λ r. r.now) (λ s. s.key.now)
    (YieldsList-at c.map.ensures.source (YieldsList-from_slice c.args.settings.now c.iter.ensures.rest))
    c.map.ensures.closure (λ x r q k. search rules)))
    c.filter.ensures.closure (λ x b q k. search rules))
    ∙ ap (λ keys. least_text (filter (is_bad layers (shown c.args.settings.now)) keys)) (keys_of_shown c.args.settings.now)
