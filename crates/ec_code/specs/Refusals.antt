-- Which profiles are refused, and the codes of the others. Source: this project, with Ceph's keys and bounds.
use Rattle.std.specs.Prelude.{⊤, ◌≡◌, ◌≢◌, ◌⊎◌, ◌+◌, ◌<◌, List, [], ◌∷◌, None}
use Rattle.ec_model.specs.Codes.{CodeRows, AnyKDecideAll}
use Rattle.ec_model.specs.ReedSolVan.{IsReedSolVan}
pub use Rattle.ec_code.specs.Bounds.{Given, IsUnit}
use Rattle.ec_code.specs.LrcFaults.{HasLrcFault, IsLrcsCode}
use Rattle.ec_code.specs.ShecFaults.{HasShecFault, IsShecsCode}
use Rattle.ec_code.specs.declared.profile.Plugin.{Plugin}
use Rattle.ec_code.specs.declared.profile.Plugin.TheVariants as plugin
use Rattle.ec_code.specs.declared.profile.Technique.TheVariants as technique
use Rattle.ec_code.specs.declared.profile.Profile.{Profile}
use Rattle.ec_code.specs.declared.fault.ProfileFault.{ProfileFault}
use Rattle.ec_code.specs.declared.fault.ProfileFault.TheVariants as fault
use Rattle.ec_code.specs.declared.fault.Key.TheVariants as key

-- the faults of a profile in the order in which they are answered; missing keys are in the order of their bytes
abbrev pub fault_order : List ProfileFault
fault_order = fault.UnknownPlugin ∷ fault.Missing key.C ∷ fault.Missing key.K ∷ fault.Missing key.L ∷ fault.Missing key.Layers
    ∷ fault.Missing key.M ∷ fault.Missing key.Mapping ∷ fault.Missing key.Technique ∷ fault.Technique ∷ fault.Width ∷ fault.SmallK
    ∷ fault.SmallM ∷ fault.TooMany ∷ fault.Divides ∷ fault.LayerLength ∷ fault.LayerInput ∷ fault.LayerOutput ∷ fault.Unit
    ∷ fault.MinSize ∷ fault.Order ∷ []

-- what is wrong with a profile of the plugin jerasure
abbrev pub HasJerasureFault : Profile → ProfileFault → Type 0
HasJerasureFault p (fault.Missing key.K) = p.k ≡ None
HasJerasureFault p (fault.Missing key.M) = p.m ≡ None
HasJerasureFault p fault.Technique = Given p.technique (λ t. t ≢ technique.ReedSolVan)
HasJerasureFault p fault.Width = Given p.w (λ w. w ≢ 8)
HasJerasureFault p fault.SmallK = Given p.k (λ k. k < 2)
HasJerasureFault p fault.SmallM = Given p.m (λ m. m < 1)
HasJerasureFault p fault.TooMany = Given p.k (λ k. Given p.m (λ m. 16 < k + m))
HasJerasureFault p fault.Unit = IsUnit p.stripe_unit → ⊥
HasJerasureFault p fault.MinSize = Given p.k (λ k. Given p.m (λ m. Given p.min_size (λ least. (least < k) ⊎ (k + m < least))))
HasJerasureFault p _ = ⊥

-- what is wrong with a profile of a plugin
abbrev pub HasFaultOf : Plugin → Profile → ProfileFault → Type 0
HasFaultOf plugin.Jerasure p f = HasJerasureFault p f
HasFaultOf plugin.Lrc p f = HasLrcFault p f
HasFaultOf plugin.Shec p f = HasShecFault p f

-- what is wrong with a profile
abbrev pub HasFault : Profile → ProfileFault → Type 0
HasFault p f = HasFaultOf p.plugin p f

-- the first of some faults, in their order, that is there
abbrev pub IsFirst : (ProfileFault → Type 0) → List ProfileFault → ProfileFault → Type 0
IsFirst has [] f = ⊥
IsFirst has (g ∷ order) f = (has g × (f ≡ g)) ⊎ ((has g → ⊥) × IsFirst has order f)

-- the fault with which a profile is refused
abbrev pub IsRefusedBy : Profile → ProfileFault → Type 0
IsRefusedBy p f = IsFirst (HasFault p) fault_order f

-- a profile is accepted: nothing is wrong with it
abbrev pub IsAccepted : Profile → Type 0
IsAccepted p = (f : ProfileFault) → HasFault p f → ⊥

-- a code is that of a profile of a plugin
abbrev pub IsPluginsCode : Plugin → Profile → CodeRows → Type 0
IsPluginsCode plugin.Jerasure p code = Given p.k (λ k. Given p.m (λ m. IsReedSolVan k m code))
IsPluginsCode plugin.Lrc p code = IsLrcsCode p code
IsPluginsCode plugin.Shec p code = IsShecsCode p code

-- a code is that of a profile
abbrev pub IsCodeOf : Profile → CodeRows → Type 0
IsCodeOf p code = IsPluginsCode p.plugin p code

-- what a plugin promises for each of its codes; for jerasure: any k positions decide all
abbrev pub KeepsPromise : Plugin → CodeRows → Type 0
KeepsPromise plugin.Jerasure code = AnyKDecideAll code
KeepsPromise _ code = ⊤
