use Rattle.std.proofs.Common.{rules, refl, ◌≡◌, ◌≤◌, ◌∙◌, ◌∷◌, ◌++◌, [], length, sym, ap, subst, arith}
use Rattle.slot_journal.specs.Journal.{slot_of, gate_of, Holds}
use Rattle.shard_store.specs.Stories.{AreSpelled, shard_head}
use Rattle.shard_store.specs.Stored.{head_in, gate_behind}
use Rattle.shard_store.specs.Told.{Told, IsTold}
use Rattle.shard_store.proofs.StoreLemmas.{some_length, gate_moved, pending_alone, body_more, told_flushed, nothing_more, flush_moments, rests}
use Rattle.shard_store.proofs.store.Store.flush.Goals as goal

pub commit-requires-clause-some : goal.commit-requires-clause-some
commit-requires-clause-some g c =
    let t = c.args.self.now.story in
    let some : t.pending ≡ [] → ⊥ = search rules in
    omega (arith, ap length c.body.ensures, ap length (pending_alone t c.requires.accepted), some_length t.pending some)

pub commit-requires-clause-room : goal.commit-requires-clause-room
commit-requires-clause-room g c =
    let t = c.args.self.now.story in
    let some : t.pending ≡ [] → ⊥ = search rules in
    omega (arith, ap length c.body.ensures, ap length (pending_alone t c.requires.accepted), some_length t.pending some, c.args.self.now.room)

pub returns-in-Ok-clause-ok : goal.returns-in-Ok-clause-ok
returns-in-Ok-clause-ok g c text flushed pending stored =
    let store = c.args.self.now in
    let t = store.story in
    let reads = g.R.Rig.reads c.commit.new.rig in
    let done = c.in-Ok.ensures.ok.holds (head_in store) stored.bodies text stored.holds in
    let slot : slot_of c.commit.new.self ≡ slot_of store.journal = c.commit.ensures.after.slot_is in
    let head : head_in store ≡ shard_head (slot_of c.commit.new.self) c.flushed.new.self.geometry store.n =
    ap (λ x. shard_head x t.geometry store.n) (sym slot) ∙ ap (λ (x : Told). shard_head (slot_of c.commit.new.self) x.geometry store.n) (sym c.flushed.ensures) in (
      done.0,
      record {
        bodies = stored.bodies ++ c.body.result.now ∷ [];
        holds = subst (λ h. Holds reads (g.R.Rig.images c.commit.new.rig (g.R.Rig.clock c.commit.new.rig)) c.commit.new.self h (stored.bodies ++ c.body.result.now ∷ []) done.0) head done.1;
        spelled = subst (λ b. AreSpelled (stored.bodies ++ b ∷ []) (flushed ++ pending)) (sym c.body.ensures)
            (body_more t stored.bodies flushed pending c.requires.accepted stored.told stored.spelled);
        told = subst (λ (x : Told). IsTold x (flushed ++ pending) []) (sym c.flushed.ensures) (told_flushed t flushed pending stored.told);
      },
    )

pub returns-in-Ok-clause-any_moment : goal.returns-in-Ok-clause-any_moment
returns-in-Ok-clause-any_moment g c =
    flush_moments g.R.Rig.clock g.R.Rig.images c.args.rig.now c.commit.new.rig (g.R.Rig.reads c.args.rig.now) c.args.self.now
    c.requires.accepted c.body.result.now c.body.ensures c.commit.ensures.any_moment

pub returns-in-Err-Failed-clause-any_moment : goal.returns-in-Err-Failed-clause-any_moment
returns-in-Err-Failed-clause-any_moment g c =
    flush_moments g.R.Rig.clock g.R.Rig.images c.args.rig.now c.commit.new.rig (g.R.Rig.reads c.args.rig.now) c.args.self.now
    c.requires.accepted c.body.result.now c.body.ensures c.commit.ensures.any_moment

pub returns-in-Err-Spent-clause-any_moment : goal.returns-in-Err-Spent-clause-any_moment
returns-in-Err-Spent-clause-any_moment g c =
    flush_moments g.R.Rig.clock g.R.Rig.images c.args.rig.now c.commit.new.rig (g.R.Rig.reads c.args.rig.now) c.args.self.now
    c.requires.accepted c.body.result.now c.body.ensures c.commit.ensures.any_moment

pub returns-then-is_flushed-clause-ok : goal.returns-then-is_flushed-clause-ok
returns-then-is_flushed-clause-ok g c text flushed pending stored =
    let store = c.args.self.now in
    let empty : store.story.pending ≡ [] = search rules in
    let more = nothing_more (g.R.Rig.reads c.args.rig.now) (g.R.Rig.images c.args.rig.now (g.R.Rig.clock c.args.rig.now)) store text flushed pending empty stored in
    (text, record { bodies = more.bodies; holds = more.holds; spelled = more.spelled; told = more.told })

pub returns-then-is_flushed-clause-any_moment : goal.returns-then-is_flushed-clause-any_moment
returns-then-is_flushed-clause-any_moment g c = rests g.R.Rig.clock g.R.Rig.images c.args.rig.now (g.R.Rig.reads c.args.rig.now) c.args.self.now

pub returns-in-Ok-clause-kept : goal.returns-in-Ok-clause-kept
returns-in-Ok-clause-kept g c = c.commit.ensures.kept.on_slot.kept

pub returns-in-Err-Failed-clause-kept : goal.returns-in-Err-Failed-clause-kept
returns-in-Err-Failed-clause-kept g c = c.commit.ensures.kept.on_slot.kept

pub returns-in-Err-Spent-clause-kept : goal.returns-in-Err-Spent-clause-kept
returns-in-Err-Spent-clause-kept g c = c.commit.ensures.kept.on_slot.kept

pub returns-in-Ok-clause-after : goal.returns-in-Ok-clause-after
returns-in-Ok-clause-after g c =
    let t = c.args.self.now.story in
    let some : t.pending ≡ [] → ⊥ = search rules in
    record {
      slot_is = c.commit.ensures.after.slot_is;
      area_is = c.commit.ensures.after.area_is;
      n = refl;
      flushed = c.flushed.ensures;
      gate_is = gate_moved (gate_of c.args.self.now.journal) (gate_of c.commit.new.self) c.body.result.now t.pending some
          (c.body.ensures ∙ pending_alone t c.requires.accepted) c.in-Ok.ensures.after.gate_is;
      unspent = λ free. c.in-Ok.ensures.after.unspent;
      kept = tt;
      same_gate = tt;
      spent = tt;
    }

pub returns-then-is_flushed-clause-after : goal.returns-then-is_flushed-clause-after
returns-then-is_flushed-clause-after g c =
    let t = c.args.self.now.story in
    let empty : t.pending ≡ [] = search rules in
    record {
      slot_is = refl;
      area_is = refl;
      n = refl;
      flushed = search rules;
      gate_is = sym (ap (λ l. gate_behind (gate_of c.args.self.now.journal) l) empty);
      unspent = λ free. free;
      kept = tt;
      same_gate = tt;
      spent = tt;
    }
