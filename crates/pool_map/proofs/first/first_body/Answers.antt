use Rattle.std.proofs.Common.{◌≡◌, ◌≤◌, ℕ, List, length, Err, arith, ap, sym, subst, ◌∙◌}
use Rattle.std.specs.Str.{IsAscii}
use Rattle.ec_code.specs.JsonProfiles.{profile_of_bytes}
use Rattle.plugin_reg.specs.Canonical.{PrintsAgain, canonical_lines}
use Rattle.profile_texts.specs.declared.reading.RegFault.{RegFault}
use Rattle.pool_map.proofs.MakeLemmas.{first_gives, body_short, not_refused}
use Rattle.pool_map.proofs.PlainLemmas.{canonical_plain}
use Rattle.pool_map.proofs.RangeLemmas.{few_positions, some_positions}
use Rattle.pool_map.proofs.first.first_body.Goals as goal

pub body_of-requires-clause-few : goal.body_of-requires-clause-few
body_of-requires-clause-few c = few_positions c.args.profile.now c.requires.shape.0 c.args.shape.k c.args.shape.n c.args.shape.lead c.requires.accepted c.requires.shape.1 c.requires.shape.2

pub body_of-requires-clause-short : goal.body_of-requires-clause-short
body_of-requires-clause-short c =
    let short = (canonical_plain c.args.profile.now c.requires.shape.0 c.args.shape.k c.args.shape.n c.args.shape.lead c.requires.accepted c.requires.writable c.requires.shape.1 c.requires.shape.2).short in
    omega (arith, short, ap length c.as_slice-in-Ok.ensures.value, ap length c.in_ok-lines.ensures.value)

pub returns-in-Ok-clause-ok : goal.returns-in-Ok-clause-ok
returns-in-Ok-clause-ok c =
    let p = c.args.profile.now in
    let shape = c.args.shape in
    let code = c.requires.shape.0 in
    let lines = c.as_slice-in-Ok.result.now in
    let same = c.as_slice-in-Ok.ensures.value in
    let plain = canonical_plain p code shape.k shape.n shape.lead c.requires.accepted c.requires.writable c.requires.shape.1 c.requires.shape.2 in
    let short : length lines ≤ 4000 = omega (arith, plain.short, ap length same, ap length c.in_ok-lines.ensures.value) in
    first_gives p c.in-Ok.own shape.k shape.n shape.lead lines c.in_ok-body-in-Ok.body
    (some_positions p code shape.k shape.n shape.lead c.requires.accepted c.requires.shape.1 c.requires.shape.2)
    (few_positions p code shape.k shape.n shape.lead c.requires.accepted c.requires.shape.1 c.requires.shape.2)
    short (same ∙ c.in_ok-lines.ensures.value) (subst (λ (t : List ℕ). PrintsAgain t shape.k shape.n shape.lead) (sym same) (c.in_ok-lines.ensures.again c.requires.writable))
    (ap profile_of_bytes (same ∙ sym c.as_slice.ensures.value) ∙ c.in-Ok.ensures.value) c.in_ok-body-in-Ok.ensures

pub returns-in-Ok-clause-short : goal.returns-in-Ok-clause-short
returns-in-Ok-clause-short c =
    let plain = canonical_plain c.args.profile.now c.requires.shape.0 c.args.shape.k c.args.shape.n c.args.shape.lead c.requires.accepted c.requires.writable c.requires.shape.1 c.requires.shape.2 in
    let short : length c.as_slice-in-Ok.result.now ≤ 4000 = omega (arith, plain.short, ap length c.as_slice-in-Ok.ensures.value, ap length c.in_ok-lines.ensures.value) in
    body_short c.args.shape.n c.as_slice-in-Ok.result.now c.in_ok-body-in-Ok.body short c.in_ok-body-in-Ok.ensures

pub returns-in-Ok-clause-few : goal.returns-in-Ok-clause-few
returns-in-Ok-clause-few c = few_positions c.args.profile.now c.requires.shape.0 c.args.shape.k c.args.shape.n c.args.shape.lead c.requires.accepted c.requires.shape.1 c.requires.shape.2

pub unreachable-requires : goal.unreachable-requires
unreachable-requires c =
    let p = c.args.profile.now in
    let shape = c.args.shape in
    let lines = c.as_slice.result.now in
    let is : lines ≡ canonical_lines p shape.k shape.n = c.as_slice.ensures.value ∙ c.in_ok-lines.ensures.value in
    let plain = canonical_plain p c.requires.shape.0 shape.k shape.n shape.lead c.requires.accepted c.requires.writable c.requires.shape.1 c.requires.shape.2 in
    not_refused p shape.k shape.n shape.lead lines c.in-Err-Profile.field-0-0 is (subst IsAscii (sym is) plain.ascii)
    (subst (λ (t : List ℕ). PrintsAgain t shape.k shape.n shape.lead) (sym c.as_slice.ensures.value) (c.in_ok-lines.ensures.again c.requires.writable))
    (c.read_any.ensures.refused c.in-Err-Profile.field-0-0 (c.in-Err-Profile.is ∙ ap (λ (f : RegFault). Err f) c.in-Err-Profile.field-0-is))
