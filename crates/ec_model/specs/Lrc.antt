-- Codes made of layers. Source: Ceph's plugin lrc, with its mapping and layers, and the rows of reed_sol_van for each layer.
-- A mapping and a layer are texts with one character for each position: 68 is `D`, 99 is `c`, and 95 is `_`. In a mapping `D`
-- is a data chunk. In a layer `D` is an input and `c` an output, and the layers are taken first to last.
use Rattle.std.specs.Prelude.{◌≡◌, ◌≢◌, ◌⊎◌, ◌==◌, ◌+◌, ◌/◌, ◌%◌, ◌<◌, ◌≤◌, nat_lt, if◌then◌else◌, ℕ, List, [], ◌∷◌, length, take, map, slice_index, slice_index_or}
use Rattle.std.specs.List.{count_by, range_with_len}
use Rattle.ec_model.specs.Field.{field_product}
use Rattle.ec_model.specs.Rows.{sum_below, entry_at, unit_entry}
use Rattle.ec_model.specs.Codes.{CodeRows}
use Rattle.ec_model.specs.ReedSolVan.{IsCodingEntry}

-- position p is a `D` of a text, or a `c`
abbrev pub IsData : List ℕ → ℕ → Type 0
IsData text p = slice_index text p ≡ 68

abbrev pub IsCoding : List ℕ → ℕ → Type 0
IsCoding text p = slice_index text p ≡ 99

-- how often a text has a mark
abbrev pub mark_count : ℕ → List ℕ → ℕ
mark_count mark text = count_by (λ b. b == mark) text

-- the number of position p among those with its mark, from the left: how often the text has the mark before it
abbrev pub mark_number : ℕ → List ℕ → ℕ → ℕ
mark_number mark text p = mark_count mark (take p text)

-- how many `D` a text has, and how many `c`
abbrev pub data_count : List ℕ → ℕ
data_count text = mark_count 68 text

abbrev pub coding_count : List ℕ → ℕ
coding_count text = mark_count 99 text

-- layer i, and no characters past the layers
abbrev pub layer_text : List (List ℕ) → ℕ → List ℕ
layer_text layers i = slice_index_or layers i []

-- position p is made before layer i: it is a data chunk, or an output of an earlier layer
abbrev pub IsMadeBefore : List ℕ → List (List ℕ) → ℕ → ℕ → Type 0
IsMadeBefore mapping layers i p = IsData mapping p ⊎ ((h : ℕ) × (h < i) × IsCoding (layer_text layers h) p)

-- the coefficients, by position, of output r of a layer with k inputs and m outputs: at input j, counted from the left, the
-- entry of coding row r of reed_sol_van at column j, and 0 elsewhere
pub record AreCoefficients (layer : List ℕ) (r : ℕ) (coefficients : List ℕ) : Type 0 where
  pub inputs : (q : ℕ) → IsData layer q
      → IsCodingEntry (data_count layer) (coding_count layer) r (mark_number 68 layer q) (slice_index coefficients q)
  pub others : (q : ℕ) → (IsData layer q → ⊥) → slice_index coefficients q ≡ 0

-- row p, of k bytes, is the sum of the rows at a layer's inputs, each times its coefficient
pub record IsMadeBy (layer : List ℕ) (rows : List (List ℕ)) (k p : ℕ) : Type 0 where
  pub coefficients : List ℕ
  pub are : AreCoefficients layer (mark_number 99 layer p) coefficients
  pub sums : (j : ℕ) → j < k
      → entry_at rows p j ≡ sum_below (length layer) (λ q. field_product (slice_index coefficients q) (entry_at rows q j))

-- The code of a mapping and its layers. Each position is made once, and a layer's inputs are made before its outputs. So this
-- defines every row, and the order in which it is read does not matter.
pub record IsLrc (mapping : List ℕ) (layers : List (List ℕ)) (code : CodeRows) : Type 0 where
  pub data_chunks : code.k ≡ data_count mapping
  pub positions : code.n ≡ length mapping
  pub divisor : code.lead ≡ data_count (layer_text layers 0)
  pub places : (p : ℕ) → IsData mapping p → slice_index code.places (mark_number 68 mapping p) ≡ p
  pub units : (p j : ℕ) → IsData mapping p → j < code.k → entry_at code.rows p j ≡ unit_entry (mark_number 68 mapping p) j
  pub outputs : (i p : ℕ) → IsCoding (layer_text layers i) p → IsMadeBy (layer_text layers i) code.rows code.k p

-- some layer is not as long as the mapping
abbrev pub HasLengthFault : List ℕ → List (List ℕ) → Type 0
HasLengthFault mapping layers = (i : ℕ) × (i < length layers) × (length (layer_text layers i) ≢ length mapping)

-- layer i has fewer than two inputs, or an input that is not made before it
abbrev pub LacksInput : List ℕ → List (List ℕ) → ℕ → Type 0
LacksInput mapping layers i =
    (data_count (layer_text layers i) < 2) ⊎ ((p : ℕ) × IsData (layer_text layers i) p × (IsMadeBefore mapping layers i p → ⊥))

abbrev pub HasInputFault : List ℕ → List (List ℕ) → Type 0
HasInputFault mapping layers = (i : ℕ) × (i < length layers) × LacksInput mapping layers i

-- layer i has no output, or an output that is made before it
abbrev pub LacksOutput : List ℕ → List (List ℕ) → ℕ → Type 0
LacksOutput mapping layers i =
    (coding_count (layer_text layers i) < 1) ⊎ ((p : ℕ) × IsCoding (layer_text layers i) p × IsMadeBefore mapping layers i p)

-- some layer lacks an output, or all layers leave a position out
abbrev pub HasOutputFault : List ℕ → List (List ℕ) → Type 0
HasOutputFault mapping layers = ((i : ℕ) × (i < length layers) × LacksOutput mapping layers i)
    ⊎ ((p : ℕ) × (p < length mapping) × (IsMadeBefore mapping layers (length layers) p → ⊥))

-- Layers from three numbers: k data chunks and m coding chunks stand in g groups. The global layer comes first, and then each group
-- has a local layer. A group has l + 1 positions: k / g data chunks, m / g outputs of the global layer, and at its end the output of
-- its local layer. The inputs of the local layer are the l other positions of the group.

-- the number of groups
abbrev pub group_count : ℕ → ℕ → ℕ → ℕ
group_count k m l = (k + m) / l

-- the number of positions
abbrev pub position_count : ℕ → ℕ → ℕ → ℕ
position_count k m l = k + m + group_count k m l

-- l is 0, or does not divide k + m, or the groups do not share k or m evenly
abbrev pub HasUnevenGroups : ℕ → ℕ → ℕ → Type 0
HasUnevenGroups k m l =
    (l ≡ 0) ⊎ (((k + m) % l ≢ 0) ⊎ ((k % group_count k m l ≢ 0) ⊎ (m % group_count k m l ≢ 0)))

-- too many positions
abbrev pub HasManyPositions : ℕ → ℕ → ℕ → Type 0
HasManyPositions k m l = (0 < l) × (16 < position_count k m l)

-- there is at least one data chunk and one coding chunk, groups of l share them evenly, and there are at most 16 positions
pub record MakesGroups (k m l : ℕ) : Type 0 where
  pub some_data : 1 ≤ k
  pub some_coding : 1 ≤ m
  pub few : HasManyPositions k m l → ⊥
  pub even : HasUnevenGroups k m l → ⊥

-- the mark of position p if each group has l + 1 positions and d data chunks: of the mapping, of the global layer, and of the
-- local layer of group h
abbrev pub mapping_mark : ℕ → ℕ → ℕ → ℕ
mapping_mark d l p = if nat_lt (p % (l + 1)) d then 68 else 95

abbrev pub global_mark : ℕ → ℕ → ℕ → ℕ
global_mark d l p = if nat_lt (p % (l + 1)) d then 68 else if nat_lt (p % (l + 1)) l then 99 else 95

abbrev pub local_mark : ℕ → ℕ → ℕ → ℕ
local_mark h l p = if p / (l + 1) == h then (if nat_lt (p % (l + 1)) l then 68 else 99) else 95

-- the mapping, the global layer, the local layer of group h, and all layers
abbrev pub mapping_of : ℕ → ℕ → ℕ → List ℕ
mapping_of k m l = map (mapping_mark (k / group_count k m l) l) (range_with_len 0 (position_count k m l))

abbrev pub global_layer : ℕ → ℕ → ℕ → List ℕ
global_layer k m l = map (global_mark (k / group_count k m l) l) (range_with_len 0 (position_count k m l))

abbrev pub local_layer : ℕ → ℕ → ℕ → ℕ → List ℕ
local_layer k m l h = map (local_mark h l) (range_with_len 0 (position_count k m l))

abbrev pub layers_of : ℕ → ℕ → ℕ → List (List ℕ)
layers_of k m l = global_layer k m l ∷ map (local_layer k m l) (range_with_len 0 (group_count k m l))
