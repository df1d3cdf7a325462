use Rattle.std.proofs.Common.{rules, ap, subst, ◌∙◌}
use Rattle.rig_disk.specs.Disk.{on_told}
use Rattle.slot_journal.specs.InUse.{open_text}
use Rattle.slot_journal.specs.Journal.{Holds}
use Rattle.slot_journal.proofs.CallerLemmas.{ok_not_err}
use Rattle.pool_map.proofs.TextLemmas.{open_told, text_front, bad_slot_of, no_text}
use Rattle.pool_map.proofs.text.load_text.Goals as goal

pub returns-in_err-journal-clause-refused : goal.returns-in_err-journal-clause-refused
returns-in_err-journal-clause-refused g c =
    let told_first = ap (on_told open_text) (c.in_ok-read_front.ensures.kept.reads ok_not_err) in record {
      bad = λ e text told.
          let saw = open_told (g.R.Rig.reads c.args.rig.now 16 0) text c.read_front.new.front told (c.in_ok-read_front.ensures.some (search rules)) in
          let at = bad_slot_of c.load.result c.from_residual-in_err-journal.result c.in_err-journal.field-0.0 c.in_err-journal.was c.from_residual-in_err-journal.ensures.1 e in (
            saw.0,
            λ k n unit bodies place word is.
                no_text c.map_head-head.result text k n unit c.numbers_of-numbers.result.k c.numbers_of-numbers.result.n c.numbers_of-numbers.result.unit at.0 bodies place
                c.bad_texts_have_one_place.ensures (c.load.ensures.bad_slot at.0 at.1 text (told_first ∙ told)) c.map_head-head.ensures
                (c.numbers_of-numbers.ensures k n unit word (saw.1 ∙ text_front k n unit bodies place text is)) is,
          );
      bad_durable = λ e text told.
          let at = bad_slot_of c.load.result c.from_residual-in_err-journal.result c.in_err-journal.field-0.0 c.in_err-journal.was c.from_residual-in_err-journal.ensures.1 e in
          c.load.ensures.bad_durable at.0 at.1 text (told_first ∙ told);
      no_pool = search rules;
      no_memory = λ e text told.
          (open_told (g.R.Rig.reads c.args.rig.now 16 0) text c.read_front.new.front told (c.in_ok-read_front.ensures.some (search rules))).0;
      plain = search rules;
    }

pub returns-clause-ok : goal.returns-clause-ok
returns-clause-ok g c =
    let told_first = ap (on_told open_text) (c.in_ok-read_front.ensures.kept.reads ok_not_err) in record {
      held = λ text told.
          subst (λ h. Holds (g.R.Rig.reads c.load.new.rig) (g.R.Rig.images c.load.new.rig (g.R.Rig.clock c.load.new.rig)) c.in_ok-journal.journal h c.in_ok-journal.bodies text)
          c.map_head-head.ensures (c.in_ok-journal.ensures.ok text (told_first ∙ told));
      numbers = λ text told k n unit bodies place word is.
          let saw = open_told (g.R.Rig.reads c.args.rig.now 16 0) text c.read_front.new.front told (c.in_ok-read_front.ensures.some (search rules)) in
          c.numbers_of-numbers.ensures k n unit word (saw.1 ∙ text_front k n unit bodies place text is);
      long = λ text told.
          (open_told (g.R.Rig.reads c.args.rig.now 16 0) text c.read_front.new.front told (c.in_ok-read_front.ensures.some (search rules))).0;
      settled = search rules;
      fresh = search rules;
    }
