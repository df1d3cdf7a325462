use Rattle.std.proofs.Common.{◌≡◌, drop}
use Rattle.pool_map.specs.Meanings.{state_of}
use Rattle.pool_map.proofs.StateLemmas.{AreTold}
use Rattle.pool_map.proofs.state.State.add_bodies.Given as goal

-- the bodies that are left lead on from here
abbrev pub invariant-loop-i : goal.invariant-loop-i
invariant-loop-i l = (l.self.n ≡ l.initial.self.n) × AreTold l.initial.self.n (state_of l.initial.self) l.bodies (state_of l.self) (drop l.i l.bodies)
