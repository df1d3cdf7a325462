-- Mappings and layers of some texts. Source: this project.
use Rattle.std.specs.Prelude.{◌==◌, ℕ, min, List, [], length, map, slice_index, slice_index_or}
use Rattle.std.proofs.Common.{arith}
use Rattle.std.specs.List.{count_by, range_with_len}
use Rattle.ec_code.specs.declared.mapping.Mapping.{Mapping}
use Rattle.ec_code.specs.declared.mapping.Layer.{Layer}
use Rattle.ec_code.specs.declared.mapping.Layers.{Layers}

-- the first 16 characters of a text, and 0 past its end
abbrev pub front_of : List ℕ → List ℕ
front_of text = map (slice_index text) (range_with_len 0 16)

abbrev pub mapping_value : List ℕ → Mapping
mapping_value text = record { first = front_of text; len = length text; data_chunks = count_by (λ b. b == 68) text }

abbrev pub layer_value : List ℕ → Layer
layer_value text = record { first = front_of text; len = length text }

-- the layers of some texts; if there are more than 16, the first 16
abbrev pub layers_value : List (List ℕ) → Layers
layers_value texts = record {
  count = min (length texts) 16;
  each = map (λ i. layer_value (slice_index_or texts i [])) (range_with_len 0 16);
  few = omega arith;
}
