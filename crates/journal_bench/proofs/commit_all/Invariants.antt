use Rattle.std.proofs.Common.{◌≡◌, false}
use Rattle.slot_journal.specs.Journal.{slot_of, is_spent, IsSettledWhereTold}
use Rattle.journal_bench.proofs.commit_all.Given as goal

abbrev pub invariant-loop : goal.invariant-loop
invariant-loop g l = record {
  here : g.R.Rig.is_here l.rig (slot_of l.journal);
  settled : is_spent l.journal ≡ false → IsSettledWhereTold (g.R.Rig.reads l.rig) (g.R.Rig.images l.rig (g.R.Rig.clock l.rig)) l.journal;
}
