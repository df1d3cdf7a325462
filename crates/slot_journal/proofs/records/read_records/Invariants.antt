use Rattle.std.proofs.Common.{◌≡◌, ◌≤◌, ◌-◌, ℕ, List, length, Some}
use Rattle.slot_journal.specs.Reading.{OnlyReadsArea, IsPiece, IsReadUpTo}
use Rattle.slot_journal.proofs.records.read_records.Given as goal

abbrev pub invariant-loop-at : goal.invariant-loop-at
invariant-loop-at g l = record {
  above : l.piece.start ≤ l.at;
  within : l.at ≤ l.len;
  here : g.R.Rig.is_here l.rig l.slot;
  quiet : g.R.Rig.faults l.rig l.slot ≡ g.R.Rig.faults l.fn.rig l.slot;
  kept : OnlyReadsArea g.R.Rig.is_here g.R.Rig.reads g.R.Rig.said g.R.Rig.clock g.R.Rig.images g.R.Rig.faults g.R.Rig.syncs g.R.Rig.bytes_written g.R.Rig.bytes_read l.slot 0 l.fn.rig l.rig;
  len : (there : List ℕ) → g.R.Rig.reads l.fn.rig l.slot 0 ≡ Some there → l.len ≡ length there;
  is_piece : (there : List ℕ) → g.R.Rig.reads l.fn.rig l.slot 0 ≡ Some there → IsPiece there l.piece.start l.piece.bytes.items;
  read : (there : List ℕ) → g.R.Rig.reads l.fn.rig l.slot 0 ≡ Some there → IsReadUpTo there l.bodies.items l.at;
}

abbrev pub decreases-loop-at : goal.decreases-loop-at
decreases-loop-at g l = l.len - l.at
