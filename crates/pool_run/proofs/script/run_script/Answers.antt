use Rattle.std.proofs.Common.{refl, subst, sym, ap, ◌∙◌, arith, List, ℕ}
use Rattle.pool_run.proofs.RunLemmas.{Answered, nothing_answered, one_answered, part_answered, whole_answered, stopped, shown, shown_more, shown_at, shown_all}
use Rattle.pool_run.proofs.script.run_script.Goals as goal

pub loop-line-init : goal.loop-line-init
loop-line-init g c = record {
  answered = nothing_answered _ _ _ _ _ c.new-session.ensures.objects c.new-session.ensures.all_done;
  quiet = refl;
  slots = λ slot other. refl;
}

pub loop-line-preserved : goal.loop-line-preserved
loop-line-preserved g c = record {
  answered =
      subst (λ (ls : List (List ℕ)). Answered ((goal.Code-dyn g c.args.code.now).meaning c.args.code.now.1) c.args.unit ls c.serve.new.self.objects c.serve.new.self.all_done (g.R.Rig.said c.args.rig.now) (g.R.Rig.said c.serve.new.rig)) (sym (shown_more c.deref-line-items.result.now c.loop-line.line-index _ c.loop-line-test.true))
      (one_answered _ _ _ _ _ _ _ _ _ _ _ _ c.args.script.now
      (sym c.in-Ok.ensures ∙ ap shown (sym c.deref-line-items.ensures.value) ∙ shown_at c.deref-line-items.result.now c.loop-line.line-index _ c.loop-line-test.true)
      c.loop-line.invariant.answered c.in-Ok-serve.ensures.after c.in-Ok-serve.ensures.done c.in-Ok-serve.ensures.said);
  quiet = c.in-Ok-serve.ensures.quiet ∙ c.loop-line.invariant.quiet;
  slots = λ slot other. c.in-Ok-serve.ensures.slots slot other ∙ c.loop-line.invariant.slots slot other;
}

pub returns-clause-run : goal.returns-clause-run
returns-clause-run g c =
    whole_answered _ _ _ _ _ _ _ _ _ c.loop-line.invariant.answered
    (shown_all c.deref-line-items.result.now c.loop-line.line-index (omega (arith, c.loop-line-test.false)) ∙ ap shown c.deref-line-items.ensures.value ∙ c.in-Ok.ensures)
    c.status.ensures

pub returns-in-Err-Voice-clause-run : goal.returns-in-Err-Voice-clause-run
returns-in-Err-Voice-clause-run g c =
    stopped _ 9 _ _ (omega arith)
    (part_answered _ _ _ _ _ _ _ _ _ _ c.args.script.now c.loop-line.invariant.answered
    (sym c.in-Ok.ensures ∙ ap shown (sym c.deref-line-items.ensures.value) ∙ shown_at c.deref-line-items.result.now c.loop-line.line-index _ c.loop-line-test.true)
    c.in-Err-Voice.ensures.front)

pub returns-in-Err-NoMemory-clause-run : goal.returns-in-Err-NoMemory-clause-run
returns-in-Err-NoMemory-clause-run g c =
    stopped _ 13 _ _ (omega arith)
    (part_answered _ _ _ _ _ _ _ _ _ _ c.args.script.now c.loop-line.invariant.answered
    (sym c.in-Ok.ensures ∙ ap shown (sym c.deref-line-items.ensures.value) ∙ shown_at c.deref-line-items.result.now c.loop-line.line-index _ c.loop-line-test.true)
    c.in-Err-NoMemory.ensures.front)
