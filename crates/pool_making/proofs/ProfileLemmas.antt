-- The numbers of a new pool, by its profile and its code.
use Rattle.std.proofs.Common.{◌≡◌, ◌≤◌, ⊎_elim, ℕ, Bool, true, false, subst, arith}
use Rattle.std.proofs.lemmas.Bool.{cases_lt}
use Rattle.ec_model.specs.Codes.{CodeRows}
use Rattle.ec_code.specs.Bounds.{IsUnit}
use Rattle.ec_code.specs.LrcFaults.{HasFaultBy, has_number}
use Rattle.ec_code.specs.Refusals.{HasFaultOf, IsAccepted}
use Rattle.ec_code.specs.Shapes.{HasShape}
use Rattle.ec_code.specs.declared.profile.Plugin.{Plugin}
use Rattle.ec_code.specs.declared.profile.Plugin.TheVariants as plugin
use Rattle.ec_code.specs.declared.profile.Profile.{Profile}
use Rattle.ec_code.specs.declared.fault.ProfileFault.{ProfileFault}
use Rattle.ec_code.specs.declared.fault.ProfileFault.TheVariants as fault
use Rattle.pool_moves.specs.Contents.{Layout}

lrc_unit : (b : Bool) (p : Profile) → ((f : ProfileFault) → HasFaultBy b p f → ⊥) → (IsUnit p.stripe_unit → ⊥) → ⊥
lrc_unit true p ok none = ok fault.Unit none
lrc_unit false p ok none = ok fault.Unit none

unit_of_plugin : (q : Plugin) (p : Profile) → ((f : ProfileFault) → HasFaultOf q p f → ⊥) → (IsUnit p.stripe_unit → ⊥) → ⊥
unit_of_plugin plugin.Jerasure p ok none = ok fault.Unit none
unit_of_plugin plugin.Lrc p ok none = lrc_unit (has_number p) p ok none
unit_of_plugin plugin.Shec p ok none = ok fault.Unit none

-- its stripe unit lies in its bounds
pub unit_lies : (p : Profile) → IsAccepted p → (32 ≤ p.stripe_unit) × (p.stripe_unit ≤ 65536)
unit_lies p ok =
    let is = unit_of_plugin p.plugin p ok in (
      ⊎_elim (λ lt. absurd (is (λ u. omega (arith, u.0, lt)))) (λ le. le) (cases_lt p.stripe_unit 32),
      ⊎_elim (λ lt. absurd (is (λ u. omega (arith, u.1, lt)))) (λ le. le) (cases_lt 65536 p.stripe_unit),
    )

-- what holds by a shape's numbers holds by those of its code
pub by_code : (code : CodeRows) (k n lead unit own_k own_unit : ℕ) → HasShape code k n lead → own_k ≡ k → own_unit ≡ unit → (P : Layout → ℕ → Type 0)
    → P (record { geometry = record { k = own_k; unit = own_unit }; n = n }) k → P (record { geometry = record { k = code.k; unit = unit }; n = code.n }) code.k
by_code code k n lead unit own_k own_unit shape same_k same_unit P holds =
    let by_n : P (record { geometry = record { k = own_k; unit = own_unit }; n = code.n }) k
    = subst (λ (m : ℕ). P (record { geometry = record { k = own_k; unit = own_unit }; n = m }) k) shape.same_n holds in
    let by_unit : P (record { geometry = record { k = own_k; unit = unit }; n = code.n }) k
    = subst (λ (u : ℕ). P (record { geometry = record { k = own_k; unit = u }; n = code.n }) k) same_unit by_n in
    let by_own : P (record { geometry = record { k = k; unit = unit }; n = code.n }) k
    = subst (λ (j : ℕ). P (record { geometry = record { k = j; unit = unit }; n = code.n }) k) same_k by_unit in
    subst (λ (j : ℕ). P (record { geometry = record { k = j; unit = unit }; n = code.n }) j) shape.same_k by_own
