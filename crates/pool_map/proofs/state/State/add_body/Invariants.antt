use Rattle.std.proofs.Common.{◌≡◌, length}
use Rattle.pool_map.specs.Meanings.{state_of}
use Rattle.pool_map.proofs.StateLemmas.{IsTold}
use Rattle.pool_map.proofs.state.State.add_body.Given as goal

-- what is left leads on from here
abbrev pub invariant-loop-reader : goal.invariant-loop-reader
invariant-loop-reader l = (l.self.n ≡ l.initial.self.n) × IsTold l.initial.self.n (state_of l.initial.self) l.body (state_of l.self) l.reader

abbrev pub decreases-loop-reader : goal.decreases-loop-reader
decreases-loop-reader l = length l.reader
