use Rattle.std.proofs.Common.{rules, ◌≡◌, ◌∙◌, ◌++◌, [], ap, sym, subst, length, map, take, List, Option, arith}
use Rattle.std.specs.List.{AllByRecursion}
use Rattle.std.proofs.lemmas.List.{take_all, append-nil}
use Rattle.shard_model.specs.Shards.{Shard}
use Rattle.shard_model.specs.StepBytes.{steps_bytes, IsWritable}
use Rattle.shard_model.specs.Steps.{Step}
use Rattle.shard_steps.specs.StepMeanings.{step_of}
use Rattle.shard_store.specs.Inner.{staged_of, geometry_of}
use Rattle.shard_store.specs.Seconds.{IsSecond, IsAhead}
use Rattle.shard_store.specs.Stories.{AreFitting}
use Rattle.shard_store.proofs.StoryLemmas.{swapped, none_behind, led_on, replayed_on, some_staged}
use Rattle.shard_store.proofs.story.Story.accept.Goals as goal

pub invariant_of-self : goal.invariant_of-self
invariant_of-self c =
    let s = c.self.inside in
    let staged = staged_of s in
    let behind = map step_of s.behind.items in
    let ahead = c.in-Some.ahead in
    let second : IsSecond s.state ahead behind staged = subst (λ (o : Option Shard). IsAhead s.state o behind staged) (sym c.take.ensures.value ∙ c.in-Some.is) c.self.invariant.ahead in
    let some : length s.staged.items ≡ 0 → ⊥ = search rules in
    let none : behind ≡ [] = none_behind s.state ahead behind staged second (some_staged s.staged.items some) in
    let new : map step_of c.swap.new.y.items ≡ [] = ap (λ v. map step_of v.items) c.swap.ensures.y_after ∙ none in
    let old : map step_of c.swap.new.x.items ≡ staged = ap (λ v. map step_of v.items) c.swap.ensures.x_after in
    let whole : c.len-self-inside.result ≡ length s.body.items = search rules in
    let all : take c.len-self-inside.result s.body.items ≡ s.body.items = take_all c.len-self-inside.result s.body.items (omega (arith, whole)) in
    let at : c.replace.new.dest ≡ ahead = c.replace.ensures.after in
    record {
      replayed = replayed_on (geometry_of s) s.state c.replace.new.dest staged c.self.invariant.replayed c.self.invariant.fitting (at ∙ led_on s.state ahead behind staged second none);
      fitting = subst (AreFitting c.replace.new.dest) (sym new) tt;
      writable = subst (AllByRecursion IsWritable) (sym new) tt;
      ahead = subst (λ (l : List Step). IsSecond c.replace.new.dest c.replace.result l (map step_of c.swap.new.y.items)) (sym old)
          (subst (IsSecond c.replace.new.dest c.replace.result staged) (none ∙ sym new)
          (subst (λ (t : Shard). IsSecond t c.replace.result staged behind) (sym at)
          (subst (λ (t : Shard). IsSecond ahead t staged behind) (sym c.replace.ensures.value) (swapped s.state ahead behind staged second c.self.invariant.fitting))));
      within = omega (arith, whole);
      body = sym all ∙ sym (ap (λ (l : List Step). take c.len-self-inside.result s.body.items ++ steps_bytes l) new ∙ append-nil (take c.len-self-inside.result s.body.items));
    }
