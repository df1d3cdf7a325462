use Rattle.std.proofs.Common.{◌≢◌, ◌<◌, ℕ, slice_index_or}
use Rattle.plugin_reg.proofs.picks.first_named.Given as goal

abbrev pub invariant-loop-i : goal.invariant-loop-i
invariant-loop-i g l = (j : ℕ) (d : _) → j < l.i → (goal.Code-dyn g ((slice_index_or l.codes j d).vtable, (slice_index_or l.codes j d).value)).plugin_name (slice_index_or l.codes j d).value ≢ l.name
