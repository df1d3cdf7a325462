-- The code of an accepted profile has from 1 to 16 positions.
use Rattle.std.proofs.Common.{◌≤◌, ◌+◌, ℕ, Bool, true, false, inl, arith}
use Rattle.ec_model.specs.Codes.{CodeRows}
use Rattle.ec_model.specs.Lrc.{position_count}
use Rattle.ec_code.specs.LrcFaults.{has_number, HasFaultBy, IsCodeBy}
use Rattle.ec_code.specs.Refusals.{HasFaultOf, IsPluginsCode, IsAccepted, IsCodeOf}
use Rattle.ec_code.specs.Shapes.{HasShape}
use Rattle.ec_code.specs.declared.fault.ProfileFault.{ProfileFault}
use Rattle.ec_code.specs.declared.fault.ProfileFault.TheVariants as fault
use Rattle.ec_code.specs.declared.profile.Plugin.{Plugin}
use Rattle.ec_code.specs.declared.profile.Plugin.TheVariants as plugin
use Rattle.ec_code.specs.declared.profile.Profile.{Profile}
use Rattle.ec_code.proofs.LayoutLemmas.{length_of_made, length_of_text}
use Rattle.ec_code.proofs.RefusalLemmas.{some_coding}
use Rattle.ec_code.proofs.ShecAgainLemmas.{up_from}

lrc_few : (b : Bool) (p : Profile) (code : CodeRows) → ((f : ProfileFault) → HasFaultBy b p f → ⊥) → IsCodeBy b p code → code.n ≤ 16
lrc_few true p code ok (k, ek, (m, em, (l, el, is))) =
    let some : 1 ≤ l = up_from l 1 (λ none. ok fault.Divides (k, ek, (m, em, (l, el, inl (omega (arith, none)))))) in
    let few = up_from 16 (position_count k m l) (λ more. ok fault.TooMany (k, ek, (m, em, (l, el, (some, more))))) in
    omega (arith, few, is.positions, length_of_made k m l)
lrc_few false p code ok (mapping, em, (layers, el, is)) =
    let few = up_from 16 mapping.len (λ more. ok fault.TooMany (mapping, em, more)) in
    omega (arith, few, is.positions, length_of_text mapping.first mapping.len)

few_by : (q : Plugin) (p : Profile) (code : CodeRows) → ((f : ProfileFault) → HasFaultOf q p f → ⊥) → IsPluginsCode q p code → code.n ≤ 16
few_by plugin.Jerasure p code ok (k, ek, (m, em, is)) =
    let few = up_from 16 (k + m) (λ more. ok fault.TooMany (k, ek, (m, em, more))) in
    omega (arith, few, is.positions)
few_by plugin.Lrc p code ok is = lrc_few (has_number p) p code ok is
few_by plugin.Shec p code ok (k, ek, (m, em, (c, ec, is))) =
    let few = up_from 16 (k + m) (λ more. ok fault.TooMany (k, ek, (m, em, inl more))) in
    omega (arith, few, is.positions)

pub few_positions : (p : Profile) (code : CodeRows) (k n lead : ℕ) → IsAccepted p → IsCodeOf p code → HasShape code k n lead → n ≤ 16
few_positions p code k n lead ok is shape = omega (arith, few_by p.plugin p code ok is, shape.same_n)

pub some_positions : (p : Profile) (code : CodeRows) (k n lead : ℕ) → IsAccepted p → IsCodeOf p code → HasShape code k n lead → 1 ≤ n
some_positions p code k n lead ok is shape = omega (arith, some_coding p code ok is, shape.same_n)
