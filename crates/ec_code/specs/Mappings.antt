-- Mappings and layers, kept without memory. Source: this project.
use Rattle.std.specs.Prelude.{◌≡◌, ◌<◌, ℕ, List, [], length, slice_index, slice_index_or}
use Rattle.ec_code.specs.declared.mapping.Layer.{Layer}

-- the first 16 characters of a text, and 0 past its end
pub record IsFront (text first : List ℕ) : Type 0 where
  pub long : length first ≡ 16
  pub same : (i : ℕ) → i < 16 → slice_index first i ≡ slice_index text i

-- no characters
abbrev pub no_layer : Layer
no_layer = record { first = []; len = 0 }

-- layer i of some layers
abbrev pub layer_at : List Layer → ℕ → Layer
layer_at layers i = slice_index_or layers i no_layer

-- a layer is that of a text
pub record IsLayer (text : List ℕ) (layer : Layer) : Type 0 where
  pub front : IsFront text layer.first
  pub len : layer.len ≡ length text
