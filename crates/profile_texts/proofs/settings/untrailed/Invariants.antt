use Rattle.std.proofs.Common.{◌≡◌, ◌≤◌, length, take}
use Rattle.ec_code.specs.Settings.{untrailed}
use Rattle.profile_texts.proofs.settings.untrailed.Given as goal

abbrev pub invariant-loop-end : goal.invariant-loop-end
invariant-loop-end l = (l.end ≤ length l.text) × (untrailed (take l.end l.text) ≡ untrailed l.text)

abbrev pub decreases-loop-end : goal.decreases-loop-end
decreases-loop-end l = l.end
