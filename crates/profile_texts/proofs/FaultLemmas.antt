-- What an answer says of a fault.
use Rattle.std.proofs.Common.{◌≡◌, Result, Err}
use Rattle.ec_code.specs.declared.fault.ProfileFault.{ProfileFault}
use Rattle.profile_texts.specs.declared.reading.RegFault.{RegFault}
use Rattle.profile_texts.specs.declared.reading.RegFault.TheVariants as reg

-- a fault of a profile is told by what is answered
pub same_fault : {A : Type 0} (f g : ProfileFault) → ◌≡◌ {A = Result A RegFault} (Err (reg.Profile f)) (Err (reg.Profile g)) → f ≡ g
same_fault {A} f g e = cc
