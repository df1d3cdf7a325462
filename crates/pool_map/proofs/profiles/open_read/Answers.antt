use Rattle.std.proofs.Common.{subst}
use Rattle.ec_code.specs.JsonProfiles.{profile_of_bytes}
use Rattle.ec_code.specs.Refusals.{IsAccepted}
use Rattle.ec_code.proofs.GivenLemmas.{not_both, same_profile}
use Rattle.pool_map.proofs.profiles.open_read.Goals as goal

pub returns-clause-bad : goal.returns-clause-bad
returns-clause-bad g c = λ e p is.
    let same = same_profile p c.args.profile (profile_of_bytes c.args.lines.now) is.read c.requires.read in
    not_both c.args.profile c.in-Err.field-0 (subst IsAccepted same is.accepted) (c.in-Err.ensures.refused (c.requires.boxes c.args.profile.plugin))
