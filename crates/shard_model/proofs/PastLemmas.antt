-- What is held after a step.
use Rattle.std.proofs.Common.{◌≡◌, ◌⊎◌, inl, inr, ◌*◌, ◌<◌, Bool, true, false, cond, not, ◌&&◌, List, [], ◌∷◌, ◌++◌, refl, sym, ap, subst, ◌∙◌, Some, None}
use Rattle.std.specs.List.{list_any}
use Rattle.std.proofs.lemmas.Bool.{false≢true, cond-true, and_parts, and_from, or_cases, or_left, or_right, not-true}
use Rattle.std.proofs.lemmas.List.Folds.{list_any-append}
use Rattle.ec_model.specs.Versions.{Version, is_up_to, is_same}
use Rattle.shard_model.specs.Fronts.{up_to}
use Rattle.shard_model.specs.Objects.{Geometry}
use Rattle.shard_model.specs.Steps.{Entry, Back, Step, Log, Control}
use Rattle.shard_model.specs.States.{State, Logged, version_of, logged, is_known, holds, fits, follows, state_after}
use Rattle.shard_model.specs.Replays.{Replay, entry_version, last_version, head, replayed, state_of, objects_at, replay_after, replay_from, AreRising, IsWhole}
use Rattle.shard_model.specs.Laws.{KeepsHeld}
use Rattle.shard_model.proofs.VersionLemmas.{above-trans, is_same-version, same-up_to}
use Rattle.shard_model.proofs.StepLemmas as steps

abbrev is_at : Version → Logged → Bool
is_at v n = is_same n.version v

pub goes_on : (g : Geometry) (first more : List Step) (s t : Replay) → replay_from g s first ≡ Some t → replay_from g s (first ++ more) ≡ replay_from g t more
goes_on g [] more s t is = ap (λ r. replay_from g r more) (steps.some_is s t is)
goes_on g (step ∷ first) more s t is =
    elim (fits g (state_of g s) step) as (λ b. cond b (replay_from g (replay_after g s step) first) None ≡ Some t
    → cond b (replay_from g (replay_after g s step) (first ++ more)) None ≡ replay_from g t more) [
      | true ↦ λ e. goes_on g first more (replay_after g s step) t e
      | false ↦ λ e. absurd (steps.none_some t e)
    ] is

-- the first of the steps that lead on fits, and the others lead on from the state that it leads to
pub first_step : (g : Geometry) (s : Replay) (step : Step) (more : List Step) (t : Replay) → replay_from g s (step ∷ more) ≡ Some t
    → (fits g (state_of g s) step ≡ true) × (replay_from g (replay_after g s step) more ≡ Some t)
first_step g s step more t is =
    elim (fits g (state_of g s) step) as (λ b. cond b (replay_from g (replay_after g s step) more) None ≡ Some t
    → (b ≡ true) × (replay_from g (replay_after g s step) more ≡ Some t)) [
      | true ↦ λ e. (refl, e)
      | false ↦ λ e. absurd (steps.none_some t e)
    ] is

-- all entries are up to the last one's version
pub all_up_to : (low : Version) (es : List Entry) → AreRising low es → up_to entry_version (last_version low es) es ≡ es
all_up_to low [] rising = refl
all_up_to low (e ∷ es) rising =
    cond-true (is_up_to e.version (last_version e.version es)) _ [] (steps.last_low e.version es rising.1)
    ∙ ap (λ ds. e ∷ ds) (all_up_to e.version es rising.1)

held_on : (g : Geometry) (t : State) (e : Entry) (v : Version) → holds t v ≡ true → holds (state_after g t (Log e)) v ≡ true
held_on g t e v held =
    let parts = and_parts (is_known t v) (is_up_to t.firm v) held in
    let n = logged t.objects e in
    and_from (is_known (state_after g t (Log e)) v) (is_up_to t.firm v)
    (elim (or_cases (is_same t.tail v) (is_up_to t.tail v && list_any (is_at v) t.log) parts.0) [
      | inl same ↦ or_left (is_same t.tail v) (is_up_to t.tail v && list_any (is_at v) (t.log ++ n ∷ [])) same
      | inr more ↦
          let later = and_parts (is_up_to t.tail v) (list_any (is_at v) t.log) more in
          or_right (is_same t.tail v) (is_up_to t.tail v && list_any (is_at v) (t.log ++ n ∷ []))
          (and_from (is_up_to t.tail v) (list_any (is_at v) (t.log ++ n ∷ [])) later.0
          (list_any-append (is_at v) t.log (n ∷ []) ∙ or_left (list_any (is_at v) t.log) (list_any (is_at v) (n ∷ [])) later.1))
    ])
    parts.1

held_before : (g : Geometry) (t : State) (e : Entry) (v : Version) → holds (state_after g t (Log e)) v ≡ true → (holds t v ≡ true) ⊎ (e.version ≡ v)
held_before g t e v held =
    let n = logged t.objects e in
    let parts = and_parts (is_known (state_after g t (Log e)) v) (is_up_to t.firm v) held in
    elim (or_cases (is_same t.tail v) (is_up_to t.tail v && list_any (is_at v) (t.log ++ n ∷ [])) parts.0) [
      | inl same ↦ inl (and_from (is_known t v) (is_up_to t.firm v) (or_left (is_same t.tail v) (is_up_to t.tail v && list_any (is_at v) t.log) same) parts.1)
      | inr more ↦
          let later = and_parts (is_up_to t.tail v) (list_any (is_at v) (t.log ++ n ∷ [])) more in
          elim (or_cases (list_any (is_at v) t.log) (list_any (is_at v) (n ∷ [])) (sym (list_any-append (is_at v) t.log (n ∷ [])) ∙ later.1)) [
            | inl old ↦ inl (and_from (is_known t v) (is_up_to t.firm v)
                (or_right (is_same t.tail v) (is_up_to t.tail v && list_any (is_at v) t.log) (and_from (is_up_to t.tail v) (list_any (is_at v) t.log) later.0 old)) parts.1)
            | inr new ↦
                elim (or_cases (is_same e.version v) false new) [
                  | inl same ↦ inr (is_same-version e.version v same)
                  | inr none ↦ absurd (false≢true none)
                ]
          ]
    ]

-- what is in the front of a list is in the list, and up to its version
any_front : (w v : Version) (ns : List Logged) → list_any (is_at v) (up_to version_of w ns) ≡ true → (list_any (is_at v) ns ≡ true) × (is_up_to v w ≡ true)
any_front w v [] h = absurd (false≢true h)
any_front w v (n ∷ ns) h =
    elim (is_up_to n.version w) as (λ b. is_up_to n.version w ≡ b → list_any (is_at v) (cond b (n ∷ up_to version_of w ns) []) ≡ true
    → (list_any (is_at v) (n ∷ ns) ≡ true) × (is_up_to v w ≡ true)) [
      | true ↦ λ low k. elim (or_cases (is_same n.version v) (list_any (is_at v) (up_to version_of w ns)) k) [
        | inl same ↦ (or_left (is_same n.version v) (list_any (is_at v) ns) same, subst (λ u. is_up_to u w ≡ true) (is_same-version n.version v same) low)
        | inr more ↦ (or_right (is_same n.version v) (list_any (is_at v) ns) (any_front w v ns more).0, (any_front w v ns more).1)
      ]
      | false ↦ λ above k. absurd (false≢true k)
    ] refl h

held_after_back : (g : Geometry) (t : State) (w v : Version) → holds t w ≡ true → holds (state_after g t (Control (Back w))) v ≡ true → (holds t v ≡ true) × (is_up_to v w ≡ true)
held_after_back g t w v can held =
    let parts = and_parts (is_known (state_after g t (Control (Back w))) v) (is_up_to t.firm v) held in
    let known_w = (and_parts (is_known t w) (is_up_to t.firm w) can).0 in
    let tail_low : is_up_to t.tail w ≡ true =
    elim (or_cases (is_same t.tail w) (is_up_to t.tail w && list_any (is_at w) t.log) known_w) [
      | inl same ↦ same-up_to t.tail w same
      | inr more ↦ (and_parts (is_up_to t.tail w) (list_any (is_at w) t.log) more).0
    ] in
    elim (or_cases (is_same t.tail v) (is_up_to t.tail v && list_any (is_at v) (up_to version_of w t.log)) parts.0) [
      | inl same ↦ (
        and_from (is_known t v) (is_up_to t.firm v) (or_left (is_same t.tail v) (is_up_to t.tail v && list_any (is_at v) t.log) same) parts.1,
        subst (λ u. is_up_to u w ≡ true) (is_same-version t.tail v same) tail_low,
      )
      | inr more ↦
          let later = and_parts (is_up_to t.tail v) (list_any (is_at v) (up_to version_of w t.log)) more in
          let front = any_front w v t.log later.1 in (
            and_from (is_known t v) (is_up_to t.firm v)
                (or_right (is_same t.tail v) (is_up_to t.tail v && list_any (is_at v) t.log) (and_from (is_up_to t.tail v) (list_any (is_at v) t.log) later.0 front.0)) parts.1,
            front.1,
          )
    ]

module _ (g : Geometry) (positive : 0 < g.k * g.unit) (s : Replay) (whole : IsWhole g s) where
  pub present : objects_at g s (head s) ≡ (state_of g s).objects
  present = ap (replayed g s.base) (all_up_to s.base_version s.entries whole.rising)

  pub keeps_held : (e : Entry) → fits g (state_of g s) (Log e) ≡ true → KeepsHeld g s e
  keeps_held e fit =
      let law = steps.one_more g positive s (Log e) whole fit in
      let running = not-true s.partial (and_parts (not s.partial) _ (and_parts (follows (state_of g s) e) _ fit).0).0 in
      let above = steps.above_head g positive s e (and_parts (follows (state_of g s) e) _ fit).0 in
      record {
        stay = λ v held. subst (λ t. holds t v ≡ true) (sym law) (held_on g (state_of g s) e v held);
        only = λ v held. held_before g (state_of g s) e v (subst (λ t. holds t v ≡ true) law held);
        objects = λ v held.
            let low = steps.held_low g positive s v (steps.held_last g positive s v whole running held) whole in
            ap (replayed g s.base) (steps.cut-append g positive v s.entries e (above-trans e.version (head s) v above low));
      }

  pub past_given : (v : Version) → fits g (state_of g s) (Control (Back v)) ≡ true
      → ((state_after g (state_of g s) (Control (Back v))).objects ≡ objects_at g s v) × (head (replay_after g s (Control (Back v))) ≡ v)
  past_given v fit =
      let parts = and_parts (not s.partial) (holds (state_of g s) v) fit in (
        sym (ap (λ t. t.objects) (steps.one_more g positive s (Control (Back v)) whole fit)),
        steps.held_last g positive s v whole (not-true s.partial parts.0) parts.1,
      )

  pub past_kept : (w v : Version) → fits g (state_of g s) (Control (Back w)) ≡ true → holds (state_of g (replay_after g s (Control (Back w)))) v ≡ true
      → (holds (state_of g s) v ≡ true) × (objects_at g (replay_after g s (Control (Back w))) v ≡ objects_at g s v)
  past_kept w v fit held =
      let law = steps.one_more g positive s (Control (Back w)) whole fit in
      let can = (and_parts (not s.partial) (holds (state_of g s) w) fit).1 in
      let both = held_after_back g (state_of g s) w v can (subst (λ t. holds t v ≡ true) law held) in
      (both.0, ap (replayed g s.base) (steps.cut-cut g positive v w s.entries both.1))
