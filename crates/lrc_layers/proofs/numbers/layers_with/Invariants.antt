use Rattle.std.proofs.Common.{◌≡◌, ◌<◌, ◌+◌, ℕ, map}
use Rattle.std.specs.List.{range_with_len}
use Rattle.ec_model.specs.Lrc.{global_mark, local_mark}
use Rattle.ec_code.specs.Mappings.{layer_at}
use Rattle.ec_code.specs.LrcFaults.{text_of_layer}
use Rattle.lrc_layers.proofs.numbers.layers_with.Given as goal

abbrev pub invariant-loop-h : goal.invariant-loop-h
invariant-loop-h l =
    (l.layers.count ≡ l.h + 1)
    × (text_of_layer (layer_at l.layers.each 0) ≡ map (global_mark l.d l.l) (range_with_len 0 l.n))
    × ((g : ℕ) → g < l.h → text_of_layer (layer_at l.layers.each (g + 1)) ≡ map (local_mark g l.l) (range_with_len 0 l.n))
