-- Which profiles of the plugin lrc are refused, and the codes of the others. Source: Ceph's plugin lrc, with its keys.
-- A profile has k, m and l, or a mapping and layers. If one of k, m and l is given, the mapping and the layers do not count.
use Rattle.std.specs.Prelude.{◌≡◌, ◌⊎◌, ◌||◌, ◌<◌, nat_le, if◌then◌else◌, ℕ, Bool, true, false, List, length, map, slice_index, is_some, None}
use Rattle.std.specs.List.{range_with_len}
use Rattle.std.specs.declared.option.Option.{Option}
use Rattle.ec_model.specs.Codes.{CodeRows}
use Rattle.ec_model.specs.Lrc.{IsLrc, data_count, HasLengthFault, HasInputFault, HasOutputFault, HasManyPositions, HasUnevenGroups, mapping_of, layers_of}
use Rattle.ec_code.specs.declared.mapping.Mapping.{Mapping}
use Rattle.ec_code.specs.declared.mapping.Layer.{Layer}
use Rattle.ec_code.specs.declared.mapping.Layers.{Layers}
use Rattle.ec_code.specs.declared.profile.Profile.{Profile}
use Rattle.ec_code.specs.declared.fault.ProfileFault.{ProfileFault}
use Rattle.ec_code.specs.declared.fault.ProfileFault.TheVariants as fault
use Rattle.ec_code.specs.declared.fault.Key.TheVariants as key
use Rattle.ec_code.specs.Bounds.{Given, IsUnit}
use Rattle.ec_code.specs.Mappings.{layer_at}

-- a text of `len` characters, if only the first 16 are kept; 0 stands for each further one
abbrev pub text_of : List ℕ → ℕ → List ℕ
text_of first len = map (λ p. slice_index first p) (range_with_len 0 len)

abbrev pub mapping_text : Mapping → List ℕ
mapping_text m = text_of m.first m.len

abbrev pub text_of_layer : Layer → List ℕ
text_of_layer layer = text_of layer.first layer.len

abbrev pub layer_texts : Layers → List (List ℕ)
layer_texts layers = map (λ i. text_of_layer (layer_at layers.each i)) (range_with_len 0 layers.count)

-- the number of `D` of a mapping; of more than 16 characters it was counted before the others were dropped
abbrev pub data_chunks_of : Mapping → ℕ
data_chunks_of m = if nat_le m.len 16 then data_count (mapping_text m) else m.data_chunks

-- what is wrong with a mapping and its layers, with the bytes of a chunk in a stripe, and with the least number of positions
abbrev pub HasLayoutFault : List ℕ → List (List ℕ) → ℕ → Option ℕ → ProfileFault → Type 0
HasLayoutFault mapping layers unit least fault.LayerLength = HasLengthFault mapping layers
HasLayoutFault mapping layers unit least fault.LayerInput = HasInputFault mapping layers
HasLayoutFault mapping layers unit least fault.LayerOutput = HasOutputFault mapping layers
HasLayoutFault mapping layers unit least fault.Unit = IsUnit unit → ⊥
HasLayoutFault mapping layers unit least fault.MinSize = Given least (λ least. (least < data_count mapping) ⊎ (length mapping < least))
HasLayoutFault mapping layers unit least _ = ⊥

-- k, m and l are given, and the mapping and the layers are
abbrev pub GivenNumbers : Profile → (ℕ → ℕ → ℕ → Type 0) → Type 0
GivenNumbers p P = Given p.k (λ k. Given p.m (λ m. Given p.l (λ l. P k m l)))

abbrev pub GivenTexts : Profile → (List ℕ → List (List ℕ) → Type 0) → Type 0
GivenTexts p P = Given p.mapping (λ mapping. Given p.layers (λ layers. P (mapping_text mapping) (layer_texts layers)))

-- what is wrong with the mapping and the layers that k, m and l make, and with those that are written
abbrev pub HasMadeFault : Profile → ProfileFault → Type 0
HasMadeFault p f = GivenNumbers p (λ k m l. HasLayoutFault (mapping_of k m l) (layers_of k m l) p.stripe_unit p.min_size f)

abbrev pub HasTextFault : Profile → ProfileFault → Type 0
HasTextFault p f = GivenTexts p (λ mapping layers. HasLayoutFault mapping layers p.stripe_unit p.min_size f)

-- what is wrong with a profile that has one of k, m and l
abbrev pub HasNumbersFault : Profile → ProfileFault → Type 0
HasNumbersFault p (fault.Missing key.K) = p.k ≡ None
HasNumbersFault p (fault.Missing key.L) = p.l ≡ None
HasNumbersFault p (fault.Missing key.M) = p.m ≡ None
HasNumbersFault p fault.SmallK = Given p.k (λ k. k < 1)
HasNumbersFault p fault.SmallM = Given p.m (λ m. m < 1)
HasNumbersFault p fault.TooMany = GivenNumbers p HasManyPositions
HasNumbersFault p fault.Divides = GivenNumbers p HasUnevenGroups
HasNumbersFault p fault.LayerLength = HasMadeFault p fault.LayerLength
HasNumbersFault p fault.LayerInput = HasMadeFault p fault.LayerInput
HasNumbersFault p fault.LayerOutput = HasMadeFault p fault.LayerOutput
HasNumbersFault p fault.Unit = IsUnit p.stripe_unit → ⊥
HasNumbersFault p fault.MinSize = HasMadeFault p fault.MinSize
HasNumbersFault p _ = ⊥

-- what is wrong with a profile that has none of them
abbrev pub HasWrittenFault : Profile → ProfileFault → Type 0
HasWrittenFault p (fault.Missing key.Layers) = p.layers ≡ None
HasWrittenFault p (fault.Missing key.Mapping) = p.mapping ≡ None
HasWrittenFault p fault.SmallK = Given p.mapping (λ mapping. data_chunks_of mapping < 1)
HasWrittenFault p fault.SmallM = Given p.mapping (λ mapping. data_chunks_of mapping ≡ mapping.len)
HasWrittenFault p fault.TooMany = Given p.mapping (λ mapping. 16 < mapping.len)
HasWrittenFault p fault.LayerLength = HasTextFault p fault.LayerLength
HasWrittenFault p fault.LayerInput = HasTextFault p fault.LayerInput
HasWrittenFault p fault.LayerOutput = HasTextFault p fault.LayerOutput
HasWrittenFault p fault.Unit = IsUnit p.stripe_unit → ⊥
HasWrittenFault p fault.MinSize = HasTextFault p fault.MinSize
HasWrittenFault p _ = ⊥

-- a profile has one of k, m and l
abbrev pub has_number : Profile → Bool
has_number p = is_some p.k || (is_some p.m || is_some p.l)

-- what is wrong with a profile of the plugin lrc
abbrev pub HasFaultBy : Bool → Profile → ProfileFault → Type 0
HasFaultBy true p f = HasNumbersFault p f
HasFaultBy false p f = HasWrittenFault p f

abbrev pub HasLrcFault : Profile → ProfileFault → Type 0
HasLrcFault p f = HasFaultBy (has_number p) p f

-- a code is that of a profile of the plugin lrc
abbrev pub IsCodeBy : Bool → Profile → CodeRows → Type 0
IsCodeBy true p code = GivenNumbers p (λ k m l. IsLrc (mapping_of k m l) (layers_of k m l) code)
IsCodeBy false p code = GivenTexts p (λ mapping layers. IsLrc mapping layers code)

abbrev pub IsLrcsCode : Profile → CodeRows → Type 0
IsLrcsCode p code = IsCodeBy (has_number p) p code
