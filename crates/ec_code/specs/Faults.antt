-- Why a profile is refused. Source: this project.
use Rattle.std.specs.Prelude.{ℕ, List, codes, Some, None}
use Rattle.std.specs.declared.option.Option.{Option}
use Rattle.ec_code.specs.declared.fault.ProfileFault.{ProfileFault}
use Rattle.ec_code.specs.declared.fault.ProfileFault.TheVariants as fault
use Rattle.ec_code.specs.declared.fault.Key.{Key}
use Rattle.ec_code.specs.declared.fault.Key.TheVariants as key

-- the number of a fault, from 1 to 18
abbrev pub number_of : ProfileFault → ℕ
number_of fault.UnknownPlugin = 1
number_of (fault.UnknownKey name) = 2
number_of (fault.BadValue name) = 3
number_of (fault.Missing name) = 4
number_of fault.Technique = 5
number_of fault.Width = 6
number_of fault.SmallK = 7
number_of fault.SmallM = 8
number_of fault.TooMany = 9
number_of fault.Divides = 10
number_of fault.LayerLength = 11
number_of fault.LayerInput = 12
number_of fault.LayerOutput = 13
number_of fault.Unit = 14
number_of fault.MinSize = 15
number_of fault.Order = 16
number_of fault.Json = 17
number_of fault.Setting = 18

-- the name of a fault, as it is printed
abbrev pub fault_name_of : ProfileFault → List ℕ
fault_name_of fault.UnknownPlugin = codes "UnknownPlugin"
fault_name_of (fault.UnknownKey name) = codes "UnknownKey"
fault_name_of (fault.BadValue name) = codes "BadValue"
fault_name_of (fault.Missing name) = codes "Missing"
fault_name_of fault.Technique = codes "Technique"
fault_name_of fault.Width = codes "Width"
fault_name_of fault.SmallK = codes "SmallK"
fault_name_of fault.SmallM = codes "SmallM"
fault_name_of fault.TooMany = codes "TooMany"
fault_name_of fault.Divides = codes "Divides"
fault_name_of fault.LayerLength = codes "LayerLength"
fault_name_of fault.LayerInput = codes "LayerInput"
fault_name_of fault.LayerOutput = codes "LayerOutput"
fault_name_of fault.Unit = codes "Unit"
fault_name_of fault.MinSize = codes "MinSize"
fault_name_of fault.Order = codes "Order"
fault_name_of fault.Json = codes "Json"
fault_name_of fault.Setting = codes "Setting"

-- the text of a key: `k`, `m`, `c`, `l`, `technique`, `mapping` or `layers`
abbrev pub key_name_of : Key → List ℕ
key_name_of key.K = codes "k"
key_name_of key.M = codes "m"
key_name_of key.C = codes "c"
key_name_of key.L = codes "l"
key_name_of key.Technique = codes "technique"
key_name_of key.Mapping = codes "mapping"
key_name_of key.Layers = codes "layers"

-- the key that a fault carries
abbrev pub carried_key : ProfileFault → Option (List ℕ)
carried_key (fault.UnknownKey name) = Some name
carried_key (fault.BadValue name) = Some name
carried_key (fault.Missing name) = Some (key_name_of name)
carried_key _ = None
