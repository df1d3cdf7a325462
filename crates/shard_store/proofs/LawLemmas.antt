-- A shard by steps is a shard by a replay.
use Rattle.std.proofs.Common.{◌≡◌, ◌<◌, ◌*◌, ◌∙◌, List, [], ◌∷◌, ◌++◌, Some, None, true, cond, ap, sym, subst, refl}
use Rattle.shard_model.specs.Objects.{Geometry}
use Rattle.shard_model.specs.Replays.{Replay, replay_of, replay_from, replay_after, fresh_replay, state_of}
use Rattle.shard_model.specs.Shards.{Shard}
use Rattle.shard_model.specs.States.{State, fits}
use Rattle.shard_model.specs.Steps.{Step}
use Rattle.shard_model.proofs.PastLemmas.{goes_on}
use Rattle.shard_model.proofs.StepLemmas.{one_more, whole_replay}
use Rattle.shard_store.specs.Stories.{fresh_shard, shard_after, AreFitting}

module _ (g : Geometry) (positive : 0 < g.k * g.unit) where
  abbrev with_state : State → Shard
  with_state s = record { geometry = g; state = s }

  one_step : (r : Replay) (x : Step) (xs : List Step) → fits g (state_of g r) x ≡ true → replay_from g r (x ∷ xs) ≡ replay_from g (replay_after g r x) xs
  one_step r x xs fit = ap (λ b. cond b (replay_from g (replay_after g r x) xs) None) fit

  replayed_on : (front steps : List Step) (r : Replay) → replay_of g front ≡ Some r → AreFitting (with_state (state_of g r)) steps
      → (t : Replay) × (replay_from g r steps ≡ Some t) × (shard_after (with_state (state_of g r)) steps ≡ with_state (state_of g t))
  replayed_on front [] r led fitting = (r, refl, refl)
  replayed_on front (x ∷ xs) r led fitting =
      let same = one_more g positive r x (whole_replay g positive front r led) fitting.0 in
      let on = goes_on g front (x ∷ []) fresh_replay r led ∙ one_step r x [] fitting.0 in
      let next = replayed_on (front ++ x ∷ []) xs (replay_after g r x) on (subst (λ s. AreFitting (with_state s) xs) (sym same) fitting.1) in
      (next.0, one_step r x xs fitting.0 ∙ next.1, ap (λ s. shard_after (with_state s) xs) (sym same) ∙ next.2)

  pub shard_is_replay : (steps : List Step) → AreFitting (fresh_shard g) steps
      → (r : Replay) × (replay_of g steps ≡ Some r) × (shard_after (fresh_shard g) steps ≡ with_state (state_of g r))
  shard_is_replay steps fitting = replayed_on [] steps fresh_replay refl fitting
