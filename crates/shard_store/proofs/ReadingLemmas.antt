-- A text is steps in one way.
use Rattle.std.proofs.Common.{◌≡◌, ℕ, List, [], ◌∷◌, ◌++◌, length, sym, ap, ◌∙◌, refl, Some, arith, append_assoc}
use Rattle.std.specs.List.{AllByRecursion}
use Rattle.shard_model.specs.Steps.{Step}
use Rattle.shard_model.specs.StepBytes.{step_bytes, steps_bytes, IsWritable, AreSteps, IsFirstBad}
use Rattle.shard_model.specs.StepReading.{read_step}
use Rattle.shard_model.proofs.ReadingLemmas.{not_read, same_read}
use Rattle.shard_model.proofs.StepReadingLemmas.{step_reading}

read_front : (x : Step) (rest : List ℕ) → IsWritable x → read_step (step_bytes x ++ rest) ≡ Some (x, rest)
read_front x rest has = step_reading.spelled x rest has

pub same_steps : (xs ys : List Step) → AllByRecursion IsWritable xs → AllByRecursion IsWritable ys → steps_bytes xs ≡ steps_bytes ys → xs ≡ ys
same_steps [] [] p q e = refl
same_steps [] (y ∷ ys) p q e = absurd (not_read y (steps_bytes ys) (ap read_step e ∙ read_front y (steps_bytes ys) q.0))
same_steps (x ∷ xs) [] p q e = absurd (not_read x (steps_bytes xs) (ap read_step (sym e) ∙ read_front x (steps_bytes xs) p.0))
same_steps (x ∷ xs) (y ∷ ys) p q e =
    let both = sym (read_front x (steps_bytes xs) p.0) ∙ ap read_step e ∙ read_front y (steps_bytes ys) q.0 in
    let same = same_read x y (steps_bytes xs) (steps_bytes ys) both in
    ap (λ z. z ∷ xs) same.0 ∙ ap (λ zs. y ∷ zs) (same_steps xs ys p.1 q.1 same.1)

pub one_reading : (text : List ℕ) (xs ys : List Step) → AreSteps text xs → AreSteps text ys → xs ≡ ys
one_reading text xs ys p q = same_steps xs ys p.0 q.0 (sym p.1 ∙ q.1)

-- bytes of steps have no place where no step is spelled
pub no_bad : (text : List ℕ) (steps : List Step) (at : ℕ) → AreSteps text steps → IsFirstBad text at → ⊥
no_bad text steps at are bad = nowhere bad.front steps bad.spelled are.0 (sym bad.parts ∙ are.1)
  where
    nowhere : (front steps : List Step) → AllByRecursion IsWritable front → AllByRecursion IsWritable steps → steps_bytes front ++ bad.rest ≡ steps_bytes steps → ⊥
    nowhere [] [] p q e = absurd (omega (arith, ap length e, bad.more))
    nowhere [] (y ∷ ys) p q e = bad.none y (steps_bytes ys) (q.0, e)
    nowhere (x ∷ xs) [] p q e = not_read x (steps_bytes xs ++ bad.rest) (ap read_step (sym e ∙ append_assoc (step_bytes x) (steps_bytes xs) bad.rest) ∙ read_front x (steps_bytes xs ++ bad.rest) p.0)
    nowhere (x ∷ xs) (y ∷ ys) p q e =
        let both = sym (read_front x (steps_bytes xs ++ bad.rest) p.0) ∙ ap read_step (sym (append_assoc (step_bytes x) (steps_bytes xs) bad.rest) ∙ e) ∙ read_front y (steps_bytes ys) q.0 in
        nowhere xs ys p.1 q.1 (same_read x y (steps_bytes xs ++ bad.rest) (steps_bytes ys) both).1
