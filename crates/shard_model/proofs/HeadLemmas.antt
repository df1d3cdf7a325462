-- A shard that is not being filled holds its head.
use Rattle.std.proofs.Common.{◌≡◌, ◌⊎◌, inl, inr, ◌*◌, ◌<◌, Bool, true, false, cond, ◌&&◌, List, [], ◌∷◌, ◌++◌, refl, sym, subst, ◌∙◌, arith}
use Rattle.std.specs.List.{list_any}
use Rattle.std.proofs.lemmas.Grind.{common_steps}
use Rattle.std.proofs.lemmas.Bool.{true≢false, and_from, or_cases, or_left, or_right}
use Rattle.std.proofs.lemmas.List.Folds.{list_any-append}
use Rattle.ec_model.specs.Versions.{Version, is_up_to, is_same}
use Rattle.shard_model.specs.Fronts.{after}
use Rattle.shard_model.specs.Objects.{ShardObjects, Geometry}
use Rattle.shard_model.specs.Steps.{Entry}
use Rattle.shard_model.specs.States.{Logged, version_of, effect, is_known, holds}
use Rattle.shard_model.specs.Replays.{Replay, last_version, head, logged_all, log, state_of, IsWhole}
use Rattle.shard_model.proofs.VersionLemmas.{is_same-version}

abbrev is_at : Version → Logged → Bool
is_at v n = is_same n.version v

same_as_itself : (v : Version) → is_same v v ≡ true
same_as_itself v = grind (arith, common_steps)

both_ways : (a b : Version) → is_up_to a b ≡ true → is_up_to b a ≡ true → is_same a b ≡ true
both_ways a b p q = grind (arith, common_steps)

-- what is above t stays if the part up to t is left out
stays_after : (t v : Version) (ns : List Logged) → is_up_to v t ≡ false → list_any (is_at v) ns ≡ true → list_any (is_at v) (after version_of t ns) ≡ true
stays_after t v [] above any = any
stays_after t v (n ∷ ns) above any =
    elim (is_up_to n.version t) as (λ b. is_up_to n.version t ≡ b → list_any (is_at v) (cond b (after version_of t ns) (n ∷ ns)) ≡ true) [
      | true ↦ λ low. elim (or_cases (is_same n.version v) (list_any (is_at v) ns) any) [
        | inl same ↦ absurd (true≢false (sym low ∙ subst (λ w. is_up_to w t ≡ false) (sym (is_same-version n.version v same)) above))
        | inr more ↦ stays_after t v ns above more
      ]
      | false ↦ λ high. any
    ] refl

-- the last entry is logged
last_logged : (g : Geometry) (firm low : Version) (m : ShardObjects) (e : Entry) (es : List Entry)
    → list_any (is_at (last_version low (e ∷ es))) (logged_all g firm m (e ∷ es)) ≡ true
last_logged g firm low m e [] = or_left (is_same e.version e.version) false (same_as_itself e.version)
last_logged g firm low m e (d ∷ es) =
    or_right (is_same e.version (last_version low (e ∷ d ∷ es))) (list_any (is_at (last_version low (e ∷ d ∷ es))) (logged_all g firm (effect g m e) (d ∷ es)))
    (last_logged g firm e.version (effect g m e) d es)

module _ (g : Geometry) (positive : 0 < g.k * g.unit) (s : Replay) (whole : IsWhole g s) where
  -- the head is not above the tail, or is logged before the log was cut
  high_or_logged : s.partial ≡ false → (is_up_to (head s) s.tail ≡ true) ⊎ (list_any (is_at (head s)) (s.past ++ logged_all g s.firm s.base s.entries) ≡ true)
  high_or_logged running =
      elim s.entries as (λ es. (is_up_to (last_version s.base_version es) s.tail ≡ true) ⊎ (list_any (is_at (last_version s.base_version es)) (s.past ++ logged_all g s.firm s.base es) ≡ true)) [
        | [] ↦ elim (whole.base_known running) [
          | inl low ↦ inl low
          | inr past ↦ inr (list_any-append (is_at s.base_version) s.past [] ∙ or_left (list_any (is_at s.base_version) s.past) false past)
        ]
        | e ∷ es ↦ inr (list_any-append (is_at (last_version s.base_version (e ∷ es))) s.past (logged_all g s.firm s.base (e ∷ es))
            ∙ or_right (list_any (is_at (last_version s.base_version (e ∷ es))) s.past) (list_any (is_at (last_version s.base_version (e ∷ es))) (logged_all g s.firm s.base (e ∷ es)))
            (last_logged g s.firm s.base_version s.base e es))
      ]

  known_head : s.partial ≡ false → is_known (state_of g s) (head s) ≡ true
  known_head running =
      let rest = is_up_to s.tail (head s) && list_any (is_at (head s)) (log g s) in
      elim (is_up_to (head s) s.tail) as (λ b. is_up_to (head s) s.tail ≡ b → is_known (state_of g s) (head s) ≡ true) [
        | true ↦ λ low. or_left (is_same s.tail (head s)) rest (both_ways s.tail (head s) whole.tail_low low)
        | false ↦ λ above. elim (high_or_logged running) [
          | inl low ↦ absurd (true≢false (sym low ∙ above))
          | inr any ↦ or_right (is_same s.tail (head s)) rest
              (and_from (is_up_to s.tail (head s)) (list_any (is_at (head s)) (log g s)) whole.tail_low
              (stays_after s.tail (head s) (s.past ++ logged_all g s.firm s.base s.entries) above any))
        ]
      ] refl

  pub head_held : s.partial ≡ false → holds (state_of g s) (head s) ≡ true
  head_held running = and_from (is_known (state_of g s) (head s)) (is_up_to s.firm (head s)) (known_head running) whole.firm_low
