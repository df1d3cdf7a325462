-- The numbers of an accepted profile.
use Rattle.std.proofs.Common.{◌≡◌, ◌⊎◌, ◌≤◌, ◌<◌, inl, inr, ⊎_elim, ℕ, Bool, true, false, Some, arith}
use Rattle.std.proofs.lemmas.Bool.{cases_lt}
use Rattle.ec_model.specs.Codes.{CodeRows}
use Rattle.ec_code.specs.Bounds.{IsUnit}
use Rattle.ec_code.specs.LrcFaults.{HasFaultBy, IsCodeBy, has_number}
use Rattle.ec_code.specs.Refusals.{HasFaultOf, IsPluginsCode, IsAccepted, IsCodeOf}
use Rattle.ec_code.specs.declared.profile.Plugin.{Plugin}
use Rattle.ec_code.specs.declared.profile.Plugin.TheVariants as plugin
use Rattle.ec_code.specs.declared.profile.Profile.{Profile}
use Rattle.ec_code.specs.declared.fault.ProfileFault.{ProfileFault}
use Rattle.ec_code.specs.declared.fault.ProfileFault.TheVariants as fault

within : (k n least : ℕ) → ((least < k) ⊎ (n < least) → ⊥) → (k ≤ least) × (least ≤ n)
within k n least inside = (
  ⊎_elim (λ lt. absurd (inside (inl lt))) (λ le. le) (cases_lt least k),
  ⊎_elim (λ lt. absurd (inside (inr lt))) (λ le. le) (cases_lt n least),
)

as_code : (k n least : ℕ) (code : CodeRows) → code.k ≡ k → code.n ≡ n → (k ≤ least) × (least ≤ n) → (code.k ≤ least) × (least ≤ code.n)
as_code k n least code same_k same_n w = (omega (arith, same_k, w.0), omega (arith, same_n, w.1))

lrc_least : (b : Bool) (p : Profile) (code : CodeRows) (least : ℕ) → p.min_size ≡ Some least → ((f : ProfileFault) → HasFaultBy b p f → ⊥) → IsCodeBy b p code
    → (code.k ≤ least) × (least ≤ code.n)
lrc_least true p code least el ok (k, ek, (m, em, (l, e, is))) =
    as_code _ _ least code is.data_chunks is.positions (within _ _ least (λ out. ok fault.MinSize (k, ek, (m, em, (l, e, (least, el, out))))))
lrc_least false p code least el ok (mapping, em, (layers, e, is)) =
    as_code _ _ least code is.data_chunks is.positions (within _ _ least (λ out. ok fault.MinSize (mapping, em, (layers, e, (least, el, out)))))

least_of_plugin : (q : Plugin) (p : Profile) (code : CodeRows) (least : ℕ) → p.min_size ≡ Some least → ((f : ProfileFault) → HasFaultOf q p f → ⊥) → IsPluginsCode q p code
    → (code.k ≤ least) × (least ≤ code.n)
least_of_plugin plugin.Jerasure p code least el ok (k, ek, (m, em, is)) =
    as_code _ _ least code is.data_chunks is.positions (within _ _ least (λ out. ok fault.MinSize (k, ek, (m, em, (least, el, out)))))
least_of_plugin plugin.Lrc p code least el ok is = lrc_least (has_number p) p code least el ok is
least_of_plugin plugin.Shec p code least el ok (k, ek, (m, em, (c, ec, is))) =
    as_code _ _ least code is.data_chunks is.positions (within _ _ least (λ out. ok fault.MinSize (k, ek, (m, em, (least, el, out)))))

-- the least number of positions that a profile asks for lies between k and n
pub least_lies : (p : Profile) (code : CodeRows) (least : ℕ) → p.min_size ≡ Some least → IsAccepted p → IsCodeOf p code → (code.k ≤ least) × (least ≤ code.n)
least_lies p code least el ok is = least_of_plugin p.plugin p code least el ok is

lrc_unit : (b : Bool) (p : Profile) → ((f : ProfileFault) → HasFaultBy b p f → ⊥) → (IsUnit p.stripe_unit → ⊥) → ⊥
lrc_unit true p ok none = ok fault.Unit none
lrc_unit false p ok none = ok fault.Unit none

unit_of_plugin : (q : Plugin) (p : Profile) → ((f : ProfileFault) → HasFaultOf q p f → ⊥) → (IsUnit p.stripe_unit → ⊥) → ⊥
unit_of_plugin plugin.Jerasure p ok none = ok fault.Unit none
unit_of_plugin plugin.Lrc p ok none = lrc_unit (has_number p) p ok none
unit_of_plugin plugin.Shec p ok none = ok fault.Unit none

-- its stripe unit lies in its bounds
pub unit_lies : (p : Profile) → IsAccepted p → (32 ≤ p.stripe_unit) × (p.stripe_unit ≤ 65536)
unit_lies p ok =
    let is = unit_of_plugin p.plugin p ok in (
      ⊎_elim (λ lt. absurd (is (λ u. omega (arith, u.0, lt)))) (λ le. le) (cases_lt p.stripe_unit 32),
      ⊎_elim (λ lt. absurd (is (λ u. omega (arith, u.1, lt)))) (λ le. le) (cases_lt 65536 p.stripe_unit),
    )
