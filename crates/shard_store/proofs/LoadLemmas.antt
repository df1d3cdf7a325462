-- Steps that stand in records are done one after another.
use Rattle.std.proofs.Common.{◌≡◌, ◌+◌, ◌-◌, ◌^◌, min, ℕ, List, [], ◌∷◌, ◌++◌, length, sym, ap, subst, ◌∙◌, refl, true, arith, append_assoc, length-append}
use Rattle.byteorder.specs.Endian.{big_bytes}
use Rattle.shard_model.specs.Objects.{Geometry}
use Rattle.shard_model.specs.Shards.{Shard, stepped}
use Rattle.shard_model.specs.States.{fits}
use Rattle.shard_model.specs.Steps.{Step}
use Rattle.shard_model.specs.StepBytes.{AreSteps}
use Rattle.slot_journal.specs.Header.{open_gate}
use Rattle.slot_journal.specs.Text.{record_bytes, records}
use Rattle.shard_store.specs.Stories.{fresh_shard, shard_after, AreFitting, AreTold, IsBadAmong, IsBadBody}
use Rattle.shard_store.proofs.StoryLemmas.{after_append, fitting_append}
use Rattle.shard_store.proofs.StoreLemmas.{spelled_more}

-- what holds between two steps: the rest leads where all lead from the first, and fits exactly where all fit
pub record IsDoing (state first : Shard) (rest all : List Step) : Type 0 where
  pub whole : shard_after state rest ≡ shard_after first all
  pub onward : AreFitting state rest → AreFitting first all
  pub back : AreFitting first all → AreFitting state rest

pub does_on : (state new first : Shard) (x : Step) (rest left all : List Step) → IsDoing state first rest all → rest ≡ x ∷ left → new ≡ stepped state x
    → fits state.geometry state.state x ≡ true → IsDoing new first left all
does_on state new first x rest left all doing is then fit = subst (λ n. IsDoing n first left all) (sym then) (record {
  whole = ap (shard_after state) (sym is) ∙ doing.whole;
  onward = λ fitting. doing.onward (subst (AreFitting state) (sym is) (fit, fitting));
  back = λ fitting. (subst (AreFitting state) is (doing.back fitting)).1;
})

-- the steps of these bodies are done
pub record IsDoneUpTo (g : Geometry) (state : Shard) (bodies : List (List ℕ)) (at : ℕ) : Type 0 where
  pub steps : List Step
  pub told : AreTold g bodies steps
  pub is : state ≡ shard_after (fresh_shard g) steps
  pub at_is : at ≡ min (24 + length (records bodies)) (2 ^ 64 - 1)

-- of all bodies these are done, and the rest is left
pub record IsReplaying (g : Geometry) (state : Shard) (rest all : List (List ℕ)) (at : ℕ) : Type 0 where
  pub front : List (List ℕ)
  pub parts : front ++ rest ≡ all
  pub done : IsDoneUpTo g state front at

length-records : (bodies : List (List ℕ)) (body : List ℕ) → length (records (bodies ++ body ∷ [])) ≡ length (records bodies) + (5 + length body)
length-records [] body = omega (arith, length-append (record_bytes body) [], length-append (open_gate ∷ big_bytes 4 (length body)) body)
length-records (b ∷ bodies) body =
    omega (arith, length-append (record_bytes b) (records (bodies ++ body ∷ [])), length-append (record_bytes b) (records bodies), length-records bodies body)

body_done : (g : Geometry) (old new : Shard) (bodies : List (List ℕ)) (body : List ℕ) (at then : ℕ) → IsDoneUpTo g old bodies at
    → (more : List Step) × AreSteps body more × AreFitting old more × (new ≡ shard_after old more)
    → then ≡ min (at + (5 + length body)) (2 ^ 64 - 1) → IsDoneUpTo g new (bodies ++ body ∷ []) then
body_done g old new bodies body at then so (more, is, fitting, next) place = record {
  steps = so.steps ++ more;
  told = record {
    spelled = spelled_more bodies so.steps body more so.told.spelled is;
    fitting = fitting_append (fresh_shard g) so.steps more so.told.fitting (subst (λ s. AreFitting s more) so.is fitting);
  };
  is = next ∙ ap (λ s. shard_after s more) so.is ∙ sym (after_append (fresh_shard g) so.steps more);
  at_is = omega (arith, place, so.at_is, length-records bodies body);
}

pub replays_on : (g : Geometry) (old new : Shard) (body : List ℕ) (rest left all : List (List ℕ)) (at then : ℕ) → IsReplaying g old rest all at → rest ≡ body ∷ left
    → (more : List Step) × AreSteps body more × AreFitting old more × (new ≡ shard_after old more)
    → then ≡ min (at + (5 + length body)) (2 ^ 64 - 1) → IsReplaying g new left all then
replays_on g old new body rest left all at then so is more place = record {
  front = so.front ++ body ∷ [];
  parts = append_assoc so.front (body ∷ []) left ∙ ap (λ l. so.front ++ l) (sym is) ∙ so.parts;
  done = body_done g old new so.front body at then so.done more place;
}

pub bad_among : (g : Geometry) (state : Shard) (body : List ℕ) (rest left all : List (List ℕ)) (at : ℕ) → IsReplaying g state rest all at → rest ≡ body ∷ left
    → IsBadBody state body → IsBadAmong g all at
bad_among g state body rest left all at so is bad = record {
  front = so.front;
  body = body;
  back = left;
  steps = so.done.steps;
  parts = sym so.parts ∙ ap (λ l. so.front ++ l) is;
  told = so.done.told;
  at_is = so.done.at_is;
  bad = subst (λ s. IsBadBody s body) so.done.is bad;
}

pub none_done : (g : Geometry) (state : Shard) (all : List (List ℕ)) (at : ℕ) → state ≡ fresh_shard g → at ≡ 24 → IsReplaying g state all all at
none_done g state all at is place = record {
  front = [];
  parts = refl;
  done = record { steps = []; told = record { spelled = refl; fitting = tt }; is = is; at_is = omega (arith, place) };
}

-- nothing is left
pub all_done : (g : Geometry) (state : Shard) (rest all : List (List ℕ)) (at : ℕ) → IsReplaying g state rest all at → length rest ≡ 0
    → (steps : List Step) × AreTold g all steps × (state ≡ shard_after (fresh_shard g) steps)
all_done g state rest all at so none =
    let whole : so.front ≡ all = sym (append_none so.front) ∙ ap (λ (l : List (List ℕ)). so.front ++ l) (sym (no_items rest none)) ∙ so.parts in
    (so.done.steps, subst (λ bs. AreTold g bs so.done.steps) whole so.done.told, so.done.is)
  where
    no_items : (xs : List (List ℕ)) → length xs ≡ 0 → xs ≡ []
    no_items [] e = refl
    no_items (x ∷ xs) e = absurd (omega (arith, e))

    append_none : (xs : List (List ℕ)) → xs ++ [] ≡ xs
    append_none [] = refl
    append_none (x ∷ xs) = ap (λ l. x ∷ l) (append_none xs)
