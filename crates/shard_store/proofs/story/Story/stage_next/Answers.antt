use Rattle.std.proofs.Common.{◌≡◌, ◌∙◌, ◌∷◌, ◌++◌, [], ap, sym, subst, length, map, take, List, arith, true, length-append}
use Rattle.std.specs.List.{AllByRecursion}
use Rattle.std.proofs.lemmas.List.{map-append, take-append-le}
use Rattle.shard_model.specs.Shards.{Shard, stepped}
use Rattle.shard_model.specs.States.{fits}
use Rattle.shard_model.specs.StepBytes.{step_bytes, steps_bytes, IsWritable}
use Rattle.shard_model.specs.Steps.{Step}
use Rattle.shard_steps.specs.StepMeanings.{step_of}
use Rattle.shard_store.specs.Inner.{staged_of, geometry_of}
use Rattle.shard_store.specs.Seconds.{IsSecond}
use Rattle.shard_store.specs.Stories.{shard_after, AreFitting}
use Rattle.shard_store.specs.Told.{Told, staged_shard, with_step}
use Rattle.shard_store.proofs.ShortLemmas.{short_lists}
use Rattle.shard_store.proofs.StoryLemmas.{level_second, after_one, fitting_one, bytes_one, all_append}
use Rattle.shard_store.proofs.story.Story.stage_next.Goals as goal

pub text_of-requires : goal.text_of-requires
text_of-requires c =
    let s = staged_shard c.args.self.now in
    short_lists s.geometry s.state (step_of c.args.step) c.requires.fit c.requires.short

pub invariant_of-self-2 : goal.invariant_of-self-2
invariant_of-self-2 c =
    let s = c.self.inside in
    let step = step_of c.args.step in
    let olds = staged_of s in
    let items = c.in-Ok-push.ensures.items ∙ ap (λ l. l ++ c.args.step ∷ []) c.in_ok-reserve.ensures.items in
    let more : map step_of c.push.new.self.items ≡ olds ++ step ∷ [] =
    ap (map step_of) items ∙ map-append step_of s.staged.items (c.args.step ∷ []) in
    let seen : map step_of c.deref-2.result.now ≡ olds = ap (map step_of) (c.deref-2.ensures.value ∙ c.in_ok-reserve.ensures.items) in
    let level : c.in_ok-ahead.ahead ≡ shard_after s.state olds = c.in_ok-ahead.ensures.ok ∙ ap (shard_after s.state) seen in
    let fit = subst (λ (t : Told). fits (staged_shard t).geometry (staged_shard t).state step ≡ true) (sym c.self.view_is) c.requires.fit in
    let next : c.apply-done.new.self ≡ shard_after s.state (olds ++ step ∷ []) =
    c.in-Ok.ensures.ok ∙ ap (λ (t : Shard). stepped t step) level ∙ sym (after_one s.state olds step) in
    let none : map step_of c.clear.new.self.items ≡ [] = ap (map step_of) c.clear.ensures.items in
    let bytes : c.as_slice-2.result.now ≡ step_bytes step = c.as_slice-2.ensures.value ∙ c.in_ok-text.ensures.bytes in
    let all : c.extend_from_slice.new.self.items ≡ s.body.items ++ c.as_slice-2.result.now =
    c.in-Ok-extend_from_slice.ensures.items ∙ ap (λ l. l ++ c.as_slice-2.result.now) c.in_ok-reserve-2.ensures.items in
    let front : take s.body_len c.extend_from_slice.new.self.items ≡ take s.body_len s.body.items =
    ap (take s.body_len) all ∙ take-append-le s.body_len s.body.items c.as_slice-2.result.now c.self.invariant.within in
    record {
      replayed = c.self.invariant.replayed;
      fitting = subst (AreFitting s.state) (sym more) (fitting_one s.state olds step c.self.invariant.fitting fit);
      writable = subst (AllByRecursion IsWritable) (sym more) (all_append IsWritable olds (step ∷ []) c.self.invariant.writable (c.in_ok-text.ensures.writable, tt));
      ahead = subst (λ (l : List Step). IsSecond s.state c.apply-done.new.self l (map step_of c.push.new.self.items)) (sym none)
          (subst (IsSecond s.state c.apply-done.new.self []) (sym more) (level_second s.state c.apply-done.new.self (olds ++ step ∷ []) next));
      within = omega (arith, c.self.invariant.within, ap length all, length-append s.body.items c.as_slice-2.result.now);
      body = all ∙ bytes_one (take s.body_len s.body.items) s.body.items c.as_slice-2.result.now olds step c.self.invariant.body bytes
          ∙ (λ i. sym front i ++ steps_bytes (sym more i));
    }

pub returns-clause-ok : goal.returns-clause-ok
returns-clause-ok c =
    let s = c.self.inside in
    let step = step_of c.args.step in
    let olds = staged_of s in
    let items = c.in-Ok-push.ensures.items ∙ ap (λ l. l ++ c.args.step ∷ []) c.in_ok-reserve.ensures.items in
    let more : map step_of c.push.new.self.items ≡ olds ++ step ∷ [] =
    ap (map step_of) items ∙ map-append step_of s.staged.items (c.args.step ∷ []) in
    let all : c.extend_from_slice.new.self.items ≡ s.body.items ++ c.as_slice-2.result.now =
    c.in-Ok-extend_from_slice.ensures.items ∙ ap (λ l. l ++ c.as_slice-2.result.now) c.in_ok-reserve-2.ensures.items in
    let front : take s.body_len c.extend_from_slice.new.self.items ≡ take s.body_len s.body.items =
    ap (take s.body_len) all ∙ take-append-le s.body_len s.body.items c.as_slice-2.result.now c.self.invariant.within in
    (λ i. record { geometry = geometry_of s; shard = s.state; pending = front i; staged = more i }) ∙ ap (λ (t : Told). with_step t step) c.self.view_is
