use Rattle.std.proofs.Common.{◌≡◌, drop, map}
use Rattle.std.specs.List.{AllByRecursion}
use Rattle.shard_state.specs.Places.{inside}
use Rattle.shard_state.specs.Records.{recorded}
use Rattle.shard_state.specs.Sound.{HasPlace}
use Rattle.shard_state.proofs.place_steps.sweep_front.Given as goal

-- what lies in the places stays, and so do the places of the later entries
abbrev pub invariant-loop-i : goal.invariant-loop-i
invariant-loop-i l = (inside l.places ≡ inside l.fn.places)
    × (AllByRecursion (λ r. HasPlace l.fn.places r.logged.name) (map recorded (drop l.cut l.log.items)) → AllByRecursion (λ r. HasPlace l.places r.logged.name) (map recorded (drop l.cut l.log.items)))
