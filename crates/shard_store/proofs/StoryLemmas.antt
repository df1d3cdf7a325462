-- What steps come to, in parts.
use Rattle.std.proofs.Common.{◌≡◌, inl, inr, ℕ, List, [], ◌∷◌, ◌++◌, sym, ap, subst, ◌∙◌, refl, Bool, true, false, append_assoc, length, map, nat_eq, IsTrue, arith}
use Rattle.std.specs.List.{AllByRecursion}
use Rattle.std.proofs.lemmas.Bool.{eqb-true}
use Rattle.std.proofs.lemmas.List.{append-nil}
use Rattle.std.proofs.lemmas.Grind.{flat_map-append}
use Rattle.shard_model.specs.Objects.{Geometry}
use Rattle.shard_model.specs.Shards.{Shard, stepped}
use Rattle.shard_model.specs.States.{fits}
use Rattle.shard_model.specs.Steps.{Step}
use Rattle.shard_model.specs.StepBytes.{step_bytes, steps_bytes}
use Rattle.shard_steps.specs.declared.step.Step as plain
use Rattle.shard_steps.specs.StepMeanings.{step_of}
use Rattle.shard_store.specs.Seconds.{IsSecond}
use Rattle.shard_store.specs.Stories.{fresh_shard, shard_after, AreFitting}
use Rattle.shard_store.specs.Told.{IsReplayed}

pub after_append : (s : Shard) (xs ys : List Step) → shard_after s (xs ++ ys) ≡ shard_after (shard_after s xs) ys
after_append s [] ys = refl
after_append s (x ∷ xs) ys = after_append (stepped s x) xs ys

pub fitting_append : (s : Shard) (xs ys : List Step) → AreFitting s xs → AreFitting (shard_after s xs) ys → AreFitting s (xs ++ ys)
fitting_append s [] ys p q = q
fitting_append s (x ∷ xs) ys p q = (p.0, fitting_append (stepped s x) xs ys p.1 q)

pub fitting_front : (s : Shard) (xs ys : List Step) → AreFitting s (xs ++ ys) → AreFitting s xs
fitting_front s [] ys p = tt
fitting_front s (x ∷ xs) ys p = (p.0, fitting_front (stepped s x) xs ys p.1)

pub fitting_back : (s : Shard) (xs ys : List Step) → AreFitting s (xs ++ ys) → AreFitting (shard_after s xs) ys
fitting_back s [] ys p = p
fitting_back s (x ∷ xs) ys p = fitting_back (stepped s x) xs ys p.1

pub all_append : {X : Type 0} (P : X → Type 0) (xs ys : List X) → AllByRecursion P xs → AllByRecursion P ys → AllByRecursion P (xs ++ ys)
all_append P [] ys p q = q
all_append P (x ∷ xs) ys p q = (p.0, all_append P xs ys p.1 q)

pub all_front : {X : Type 0} (P : X → Type 0) (xs ys : List X) → AllByRecursion P (xs ++ ys) → AllByRecursion P xs
all_front P [] ys p = tt
all_front P (x ∷ xs) ys p = (p.0, all_front P xs ys p.1)

pub all_back : {X : Type 0} (P : X → Type 0) (xs ys : List X) → AllByRecursion P (xs ++ ys) → AllByRecursion P ys
all_back P [] ys p = p
all_back P (x ∷ xs) ys p = all_back P xs ys p.1

pub bytes_append : (xs ys : List Step) → steps_bytes (xs ++ ys) ≡ steps_bytes xs ++ steps_bytes ys
bytes_append xs ys = flat_map-append step_bytes xs ys

-- a shard that is level with the staged steps lacks no step
pub level_second : (state level : Shard) (staged : List Step) → level ≡ shard_after state staged → IsSecond state level [] staged
level_second state level staged is = record { fitting = tt; meets = is; either = inl refl }

-- the two states change places
pub swapped : (state ahead : Shard) (behind staged : List Step) → IsSecond state ahead behind staged → AreFitting state staged → IsSecond ahead state staged behind
swapped state ahead behind staged k fitting = record {
  fitting = fitting;
  meets = sym k.meets;
  either = elim k.either [ inl none ↦ inr none | inr none ↦ inl none ];
}

-- if a step is staged, the second state lacks no step
pub none_behind : (state ahead : Shard) (behind staged : List Step) → IsSecond state ahead behind staged → (staged ≡ [] → ⊥) → behind ≡ []
none_behind state ahead behind staged k some = elim k.either [ inl none ↦ none | inr none ↦ absurd (some none) ]

-- some steps mean some
pub some_staged : (items : List plain.Step) → (length items ≡ 0 → ⊥) → map step_of items ≡ [] → ⊥
some_staged [] some none = some refl
some_staged (x ∷ items) some none = absurd (omega (arith, ap length none))

pub led_on : (state ahead : Shard) (behind staged : List Step) → IsSecond state ahead behind staged → behind ≡ [] → ahead ≡ shard_after state staged
led_on state ahead behind staged k none = ap (shard_after ahead) (sym none) ∙ k.meets

-- steps more lead on
pub replayed_on : (g : Geometry) (state next : Shard) (more : List Step) → IsReplayed g state → AreFitting state more → next ≡ shard_after state more → IsReplayed g next
replayed_on g state next more r fitting is = record {
  steps = r.steps ++ more;
  fitting = fitting_append (fresh_shard g) r.steps more r.fitting (subst (λ s. AreFitting s more) r.led fitting);
  led = is ∙ ap (λ s. shard_after s more) r.led ∙ sym (after_append (fresh_shard g) r.steps more);
}

pub after_one : (s : Shard) (steps : List Step) (step : Step) → shard_after s (steps ++ step ∷ []) ≡ stepped (shard_after s steps) step
after_one s steps step = after_append s steps (step ∷ [])

pub fitting_one : (s : Shard) (steps : List Step) (step : Step) → AreFitting s steps → fits (shard_after s steps).geometry (shard_after s steps).state step ≡ true → AreFitting s (steps ++ step ∷ [])
fitting_one s steps step all fit = fitting_append s steps (step ∷ []) all (fit, tt)

-- one step more has its bytes behind the others
pub bytes_one : (front body bytes : List ℕ) (steps : List Step) (step : Step) → body ≡ front ++ steps_bytes steps → bytes ≡ step_bytes step
    → body ++ bytes ≡ front ++ steps_bytes (steps ++ step ∷ [])
bytes_one front body bytes steps step is own =
    ap (λ l. l ++ bytes) is ∙ append_assoc front (steps_bytes steps) bytes
    ∙ ap (λ l. front ++ l) (ap (λ l. steps_bytes steps ++ l) (own ∙ sym (append-nil (step_bytes step))) ∙ sym (bytes_append steps (step ∷ [])))

pub true_unless : (b : Bool) → (b ≡ false → ⊥) → b ≡ true
true_unless true never = refl
true_unless false never = absurd (never refl)

-- a list is empty exactly if its length is 0
pub empty_length : (n : ℕ) (bytes : List ℕ) → n ≡ length bytes → (IsTrue (nat_eq n 0) → bytes ≡ []) × (bytes ≡ [] → IsTrue (nat_eq n 0))
empty_length n [] e = (λ zero. refl, λ none. ap (λ m. nat_eq m 0) e)
empty_length n (b ∷ bytes) e = (λ zero. absurd (omega (arith, eqb-true n 0 zero, e)), λ none. absurd (omega (arith, ap length none)))
