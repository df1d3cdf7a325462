-- Which profiles of the plugin shec are refused, and the codes of the others. Source: Ceph's plugin shec, with its keys and bounds.
-- Reading fills in k = 4, m = 3 and c = 2 if a text has none of the three. If it has some of them, those left out are missing.
use Rattle.std.specs.Prelude.{◌≡◌, ◌≢◌, ◌⊎◌, ◌+◌, ◌<◌, ℕ, None}
use Rattle.ec_model.specs.Codes.{CodeRows}
use Rattle.ec_model.specs.Shec.{IsShec}
use Rattle.ec_code.specs.declared.profile.Profile.{Profile}
use Rattle.ec_code.specs.declared.profile.Technique.TheVariants as technique
use Rattle.ec_code.specs.declared.fault.ProfileFault.{ProfileFault}
use Rattle.ec_code.specs.declared.fault.ProfileFault.TheVariants as fault
use Rattle.ec_code.specs.declared.fault.Key.TheVariants as key
use Rattle.ec_code.specs.Bounds.{Given, IsUnit}

-- there are more than 12 data chunks, or more than 16 of both kinds
abbrev pub AreMany : ℕ → ℕ → Type 0
AreMany k m = (16 < k + m) ⊎ (12 < k)

-- the least number of positions is below k, or above the number of all positions
abbrev pub IsOutside : ℕ → ℕ → ℕ → Type 0
IsOutside k m least = (least < k) ⊎ (k + m < least)

-- it is not so that c ≤ m ≤ k
abbrev pub AreUnordered : ℕ → ℕ → ℕ → Type 0
AreUnordered k m c = (m < c) ⊎ (k < m)

-- what is wrong with a profile of the plugin shec
abbrev pub HasShecFault : Profile → ProfileFault → Type 0
HasShecFault p (fault.Missing key.C) = p.c ≡ None
HasShecFault p (fault.Missing key.K) = p.k ≡ None
HasShecFault p (fault.Missing key.M) = p.m ≡ None
HasShecFault p (fault.Missing key.Technique) = p.technique ≡ None
HasShecFault p fault.Technique = Given p.technique (λ t. t ≢ technique.Single)
HasShecFault p fault.Width = Given p.w (λ w. w ≢ 8)
HasShecFault p fault.SmallK = Given p.k (λ k. k < 1)
HasShecFault p fault.SmallM = Given p.m (λ m. m < 1) ⊎ Given p.c (λ c. c < 1)
HasShecFault p fault.TooMany = Given p.k (λ k. Given p.m (λ m. AreMany k m))
HasShecFault p fault.Unit = IsUnit p.stripe_unit → ⊥
HasShecFault p fault.MinSize = Given p.k (λ k. Given p.m (λ m. Given p.min_size (λ least. IsOutside k m least)))
HasShecFault p fault.Order = Given p.k (λ k. Given p.m (λ m. Given p.c (λ c. AreUnordered k m c)))
HasShecFault p _ = ⊥

-- a code is that of a profile of the plugin shec
abbrev pub IsShecsCode : Profile → CodeRows → Type 0
IsShecsCode p code = Given p.k (λ k. Given p.m (λ m. Given p.c (λ c. IsShec k m c code)))
