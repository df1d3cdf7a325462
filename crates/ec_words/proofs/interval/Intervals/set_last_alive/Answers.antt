use Rattle.std.proofs.Common.{rules, ◌≡◌, ◌∙◌, ◌-◌, refl, ap, length, slice_set}
use Rattle.std.proofs.lemmas.Bool.{false≢true}
use Rattle.std.specs.Vec.{vec_len}
use Rattle.ec_words.specs.Intervals.{went_alive}
use Rattle.ec_words.proofs.IntervalLemmas.{last_is_changed, none_is_set}
use Rattle.ec_words.proofs.interval.Intervals.set_last_alive.Goals as goal
use Rattle.ec_words.proofs.interval.Intervals.set_last_alive.Goals.{in-Some, in-None}

pub returns : goal.returns
returns c =
    elim c.match-last_mut.branch [
      | in-Some w ↦
          let items = c.self.inside.list.items in
          let count = vec_len c.self.inside.list in
          let long : count ≡ length items = search rules in
          rw w.self-inside-is rw (← c.self.view_is)
          (ap (λ i. slice_set items (count - 1) (went_alive c.args.joined.0 c.args.base i)) w.last.view_is
          ∙ last_is_changed c.args.joined.0 c.args.base items w.in-Some.last.now count long (w.in-Some.ensures.variant.0 refl) w.in-Some.ensures.value)
      | in-None w ↦
          let items = c.self.inside.list.items in
          let long : vec_len c.self.inside.list ≡ length items = search rules in
          rw w.self-inside-is rw (← c.self.view_is)
          (none_is_set c.args.joined.0 c.args.base items (λ some. false≢true (w.in-None.ensures.variant.1 (rw long some))))
    ]
