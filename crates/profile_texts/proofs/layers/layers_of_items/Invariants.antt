use Rattle.std.proofs.Common.{◌≡◌, ℕ, List, length, drop}
use Rattle.ec_code.specs.LayerTexts.{each_layer}
use Rattle.ec_code.specs.LayerValues.{layers_value}
use Rattle.serde_json.specs.View.{items_view}
use Rattle.profile_texts.proofs.LayerLemmas.{left_after}
use Rattle.profile_texts.proofs.layers.layers_of_items.Given as goal

abbrev pub invariant-loop-item : goal.invariant-loop-item
invariant-loop-item l =
    (texts : List (List ℕ)) × (l.layers ≡ layers_value texts) × (length texts ≡ l.item-index)
    × (left_after texts (each_layer (items_view (drop l.item-index l.items))) ≡ each_layer (items_view l.items))
