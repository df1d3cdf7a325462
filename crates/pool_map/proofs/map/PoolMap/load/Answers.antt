use Rattle.std.proofs.Common.{rules, ℕ, List, ap, sym, subst, ◌∙◌, Err}
use Rattle.slot_journal.specs.InUse.{text_in_use}
use Rattle.slot_journal.specs.Journal.{Holds, gate_of}
use Rattle.pool_map.specs.Maps.{map_head, IsMapOf, map_format}
use Rattle.pool_map.specs.Meanings.{image_of}
use Rattle.pool_map.specs.declared.fault.MapFault.TheVariants.{BadMap}
use Rattle.pool_map.proofs.FaultLemmas.{err_by}
use Rattle.pool_map.proofs.SoundLemmas.{map_sound}
use Rattle.pool_map.proofs.TextLemmas.{text_gives, gives_own}
use Rattle.pool_map.proofs.map.PoolMap.load.Goals as goal

pub returns-in_err-text-clause-refused : goal.returns-in_err-text-clause-refused
returns-in_err-text-clause-refused g c = record {
  bad_map = λ e text told.
      let bad = c.in_err-text.ensures.refused.bad (ap Err (err_by c.from_residual.result c.in_err-text.field-0.0 BadMap c.from_residual.ensures.1 e)) text told in
      (bad.0, λ m is. bad.1 is.k m.n is.unit is.bodies is.place is.word is.is_text);
  bad_durable = λ e.
      c.in_err-text.ensures.refused.bad_durable (ap Err (err_by c.from_residual.result c.in_err-text.field-0.0 BadMap c.from_residual.ensures.1 e));
  no_pool = search rules;
  nowhere = search rules;
  short = search rules;
  plain = search rules;
}

pub returns-in_err-state-clause-refused : goal.returns-in_err-state-clause-refused
returns-in_err-state-clause-refused g c =
    let read = c.in_ok-text.text in
    let own = c.in_ok-text.ensures.ok in record {
      bad_map = λ e text told. (
        own.long text told,
        λ m is.
            let same = own.numbers text told is.k m.n is.unit is.bodies is.place is.word is.is_text in
            let holds = own.held text told in
            let bodies = (c.texts_have_one_reading.ensures text (map_head read.numbers.k read.numbers.n read.numbers.unit) (map_head is.k m.n is.unit) read.bodies is.bodies (gate_of read.journal) is.place holds.is_text is.is_text).0 in
            c.in_err-state.ensures.bad (ap Err (err_by c.from_residual-in_err-state.result c.in_err-state.field-0.0 BadMap c.from_residual-in_err-state.ensures.1 e)) m same.1.0
            (subst (λ (k : ℕ). IsMapOf k read.numbers.unit map_format c.as_slice.result.now m) same.0
            (subst (λ (u : ℕ). IsMapOf is.k u map_format c.as_slice.result.now m) same.1.1
            (subst (λ (bs : List (List ℕ)). IsMapOf is.k is.unit map_format bs m) (sym (c.as_slice.ensures ∙ bodies)) (gives_own is.k m.n is.unit is.bodies is.place text is.is_text m is.gives)))),
      );
      bad_durable = λ e text told image said now.
          ap (λ s. text_in_use s (image s)) (sym own.fresh.slot_is) ∙ (own.held text told).durable image said now;
      no_pool = search rules;
      nowhere = search rules;
      short = search rules;
      plain = search rules;
    }

pub returns-clause-ok : goal.returns-clause-ok
returns-clause-ok g c =
    let read = c.in_ok-text.text in
    let own = c.in_ok-text.ensures.ok in
    let image = image_of c.in_ok-state.opened.profile c.in_ok-state.state in record {
      held = λ text told.
          let holds = subst (λ (n : ℕ). Holds (g.R.Rig.reads c.load_text.new.rig) (g.R.Rig.images c.load_text.new.rig (g.R.Rig.clock c.load_text.new.rig)) read.journal
          (map_head read.numbers.k n read.numbers.unit) read.bodies text) (sym c.in_ok-state.ensures.n) (own.held text told) in record {
            k = read.numbers.k;
            unit = read.numbers.unit;
            word = search rules;
            bodies = read.bodies;
            holds = holds;
            gives = text_gives read.numbers.k image.n read.numbers.unit read.bodies (gate_of read.journal) text holds.is_text image
                (subst (λ (bs : List (List ℕ)). IsMapOf read.numbers.k read.numbers.unit map_format bs image) c.as_slice.ensures c.in_ok-state.ensures.ok);
          };
      long = own.long;
      accepted = c.in_ok-state.ensures.ok.canonical.accepted;
      settled = own.settled;
      unspent = own.fresh.unspent;
      unbegun = search rules;
    }

pub invariant_of-map-clause-sound : goal.invariant_of-map-clause-sound
invariant_of-map-clause-sound g c =
    let numbers = c.in_ok-text.text.numbers in
    map_sound numbers.k numbers.unit map_format c.as_slice.result.now (image_of c.in_ok-state.opened.profile c.in_ok-state.state) c.in_ok-state.ensures.ok

pub returns-clause-opened : goal.returns-clause-opened
returns-clause-opened g c = record {
  picked = c.in_ok-state.ensures.opened.picked;
  positions = λ d. c.in_ok-state.ensures.opened.positions d ∙ sym c.in_ok-state.ensures.n;
}
