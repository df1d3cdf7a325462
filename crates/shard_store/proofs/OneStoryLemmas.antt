-- A text has one list of steps, and what is no shard's has no such list.
use Rattle.std.proofs.Common.{◌≡◌, inl, inr, ℕ, List, [], ◌∷◌, ◌++◌, sym, ap, subst, ◌∙◌, refl, append_assoc}
use Rattle.shard_model.specs.Objects.{Geometry}
use Rattle.shard_model.specs.Steps.{Step}
use Rattle.shard_model.specs.StepBytes.{AreSteps}
use Rattle.slot_journal.specs.Laws.{TextsHaveOneReading, BadTextsHaveOnePlace}
use Rattle.shard_store.specs.Laws.{TextsHaveOneStory, BadTextsHaveNoStory}
use Rattle.shard_store.specs.Stories.{fresh_shard, shard_after, AreFitting, AreSpelled, IsBadBody}
use Rattle.shard_store.proofs.ReadingLemmas.{one_reading, no_bad}
use Rattle.shard_store.proofs.StoryLemmas.{fitting_front, fitting_back}

-- bodies are steps in one way
spelled_once : (bodies : List (List ℕ)) (xs ys : List Step) → AreSpelled bodies xs → AreSpelled bodies ys → xs ≡ ys
spelled_once [] xs ys p q = p ∙ sym q
spelled_once (b ∷ bodies) xs ys (front, rest, first, parts, then) (other, left, second, those, after) =
    parts ∙ ap (λ l. l ++ rest) (one_reading b front other first second) ∙ ap (λ l. other ++ l) (spelled_once bodies rest left then after) ∙ sym those

-- the steps of bodies in two parts
pub record AreSplit (front back : List (List ℕ)) (steps : List Step) : Type 0 where
  pub before : List Step
  pub after : List Step
  pub first : AreSpelled front before
  pub second : AreSpelled back after
  pub parts : steps ≡ before ++ after

split : (front back : List (List ℕ)) (steps : List Step) → AreSpelled (front ++ back) steps → AreSplit front back steps
split [] back steps p = record { before = []; after = steps; first = refl; second = p; parts = refl }
split (b ∷ front) back steps (some, rest, is, parts, then) =
    let s = split front back rest then in record {
      before = some ++ s.before;
      after = s.after;
      first = (some, s.before, is, refl, s.first);
      second = s.second;
      parts = parts ∙ ap (λ l. some ++ l) s.parts ∙ sym (append_assoc some s.before s.after);
    }

pub one_story : TextsHaveOneReading → TextsHaveOneStory
one_story law one other text head wanted steps those a b =
    let same = (law text head wanted a.bodies b.bodies a.place b.place a.is_text b.is_text).0 in
    spelled_once b.bodies steps those (subst (λ (bs : List (List ℕ)). AreSpelled bs steps) same a.spelled) b.spelled

-- a record that adds nothing is not among the bodies of steps that fit
no_bad_body : (g : Geometry) (front : List (List ℕ)) (body : List ℕ) (back : List (List ℕ)) (before steps : List Step)
    → AreSpelled front before → IsBadBody (shard_after (fresh_shard g) before) body
    → AreSpelled (front ++ body ∷ back) steps → AreFitting (fresh_shard g) steps → ⊥
no_bad_body g front body back before steps spelled bad all fitting =
    let s = split front (body ∷ back) steps all in
    let own = s.second in
    let same : s.before ≡ before = spelled_once front s.before before s.first spelled in
    let parts : steps ≡ before ++ (own.0 ++ own.1) = s.parts ∙ ap (λ l. l ++ s.after) same ∙ ap (λ l. before ++ l) own.3 in
    let fits = fitting_front (shard_after (fresh_shard g) before) own.0 own.1
    (fitting_back (fresh_shard g) before (own.0 ++ own.1) (subst (AreFitting (fresh_shard g)) parts fitting)) in
    never own.0 own.2 fits bad
  where
    never : (steps : List Step) → AreSteps body steps → AreFitting (shard_after (fresh_shard g) before) steps → IsBadBody (shard_after (fresh_shard g) before) body → ⊥
    never steps are fits (inl (at, first)) = no_bad body steps at are first
    never steps are fits (inr (those, is, misfit)) = misfit (subst (AreFitting (shard_after (fresh_shard g) before)) (one_reading body steps those are is) fits)

pub no_story : TextsHaveOneReading → BadTextsHaveOnePlace → BadTextsHaveNoStory
no_story law places g head text at (inl bad) steps has = (places text head at bad).0 has.bodies has.place has.is_text
no_story law places g head text at (inr bad) steps has =
    let same = (law text head head has.bodies (bad.front ++ bad.body ∷ bad.back) has.place bad.place has.is_text bad.is_text).0 in
    no_bad_body g bad.front bad.body bad.back bad.steps steps bad.spelled bad.bad
    (subst (λ (bs : List (List ℕ)). AreSpelled bs steps) same has.spelled) has.fitting
