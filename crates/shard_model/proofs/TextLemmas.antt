-- Bytes are one list of steps, or have one first place at which no step is spelled.
use Rattle.std.proofs.Common.{◌≡◌, ◌⊎◌, inl, inr, ◌≤◌, ℕ, zero, suc, List, [], ◌∷◌, ◌++◌, length, length-append, sym, ap, subst, ◌∙◌, refl, Some, None, arith, append_assoc}
use Rattle.std.specs.List.{AllByRecursion}
use Rattle.shard_model.specs.Steps.{Back, Firm, Trim, Started, Partial, Put, Drop, Clear, Reset, Step, Log, Control, Recover}
use Rattle.shard_model.specs.StepBytes.{step_bytes, steps_bytes, IsWritable, BeginsWith, AreSteps, IsFirstBad}
use Rattle.shard_model.specs.StepReading.{AreBytes, read_step}
use Rattle.shard_model.specs.Laws.{IsReadOneWay}
use Rattle.shard_model.proofs.ReadingLemmas.{not_read, same_read, rest_bytes}
use Rattle.shard_model.proofs.StepReadingLemmas.{step_reading}

read_front : (x : Step) (rest : List ℕ) → IsWritable x → read_step (step_bytes x ++ rest) ≡ Some (x, rest)
read_front x rest has = step_reading.spelled x rest has

pub same_steps : (xs ys : List Step) → AllByRecursion IsWritable xs → AllByRecursion IsWritable ys → steps_bytes xs ≡ steps_bytes ys → xs ≡ ys
same_steps [] [] p q e = refl
same_steps [] (y ∷ ys) p q e = absurd (not_read y (steps_bytes ys) (ap read_step e ∙ read_front y (steps_bytes ys) q.0))
same_steps (x ∷ xs) [] p q e = absurd (not_read x (steps_bytes xs) (ap read_step (sym e) ∙ read_front x (steps_bytes xs) p.0))
same_steps (x ∷ xs) (y ∷ ys) p q e =
    let both = sym (read_front x (steps_bytes xs) p.0) ∙ ap read_step e ∙ read_front y (steps_bytes ys) q.0 in
    let same = same_read x y (steps_bytes xs) (steps_bytes ys) both in
    ap (λ z. z ∷ xs) same.0 ∙ ap (λ zs. y ∷ zs) (same_steps xs ys p.1 q.1 same.1)

-- a text is steps in one way
pub one_reading : (text : List ℕ) (xs ys : List Step) → AreSteps text xs → AreSteps text ys → xs ≡ ys
one_reading text xs ys p q = same_steps xs ys p.0 q.0 (sym p.1 ∙ q.1)

-- after steps, a rest that begins with none, or is at its end
abbrev StopsAt : List ℕ → Type 0
StopsAt rest = (step : Step) (after : List ℕ) → BeginsWith rest step after → ⊥

-- two texts that stop are the same if they stand behind steps with the same bytes
same_stop : (xs ys : List Step) (r s : List ℕ) → AllByRecursion IsWritable xs → AllByRecursion IsWritable ys → StopsAt r → StopsAt s
    → steps_bytes xs ++ r ≡ steps_bytes ys ++ s → (xs ≡ ys) × (r ≡ s)
same_stop [] [] r s p q one two e = (refl, e)
same_stop [] (y ∷ ys) r s p q one two e = absurd (one y (steps_bytes ys ++ s) (q.0, e ∙ append_assoc (step_bytes y) (steps_bytes ys) s))
same_stop (x ∷ xs) [] r s p q one two e = absurd (two x (steps_bytes xs ++ r) (p.0, sym e ∙ append_assoc (step_bytes x) (steps_bytes xs) r))
same_stop (x ∷ xs) (y ∷ ys) r s p q one two e =
    let both = sym (ap read_step (append_assoc (step_bytes x) (steps_bytes xs) r) ∙ read_front x (steps_bytes xs ++ r) p.0)
    ∙ ap read_step e ∙ (ap read_step (append_assoc (step_bytes y) (steps_bytes ys) s) ∙ read_front y (steps_bytes ys ++ s) q.0) in
    let same = same_read x y (steps_bytes xs ++ r) (steps_bytes ys ++ s) both in
    let more = same_stop xs ys r s p.1 q.1 one two same.1 in
    (ap (λ z. z ∷ xs) same.0 ∙ ap (λ zs. y ∷ zs) more.0, more.1)

empty_stops : StopsAt []
empty_stops step after begins = not_read step after (ap read_step begins.1 ∙ read_front step after begins.0)

append-none : (xs : List ℕ) → xs ++ [] ≡ xs
append-none [] = refl
append-none (x ∷ xs) = ap (λ ys. x ∷ ys) (append-none xs)

-- bytes of steps have no place at which no step is spelled
pub no_bad : (text : List ℕ) (steps : List Step) (at : ℕ) → AreSteps text steps → IsFirstBad text at → ⊥
no_bad text steps at are bad =
    let same = same_stop bad.front steps bad.rest [] bad.spelled are.0 bad.none empty_stops (sym bad.parts ∙ are.1 ∙ sym (append-none (steps_bytes steps))) in
    omega (arith, bad.more, ap length same.1)

-- a text has one first bad place
pub one_bad : (text : List ℕ) (a b : ℕ) → IsFirstBad text a → IsFirstBad text b → a ≡ b
one_bad text a b one two =
    let same = same_stop one.front two.front one.rest two.rest one.spelled two.spelled one.none two.none (sym one.parts ∙ two.parts) in
    one.place ∙ ap (λ steps. length (steps_bytes steps)) same.0 ∙ sym two.place

-- each step has a byte at least, its kind
step_has_kind : (step : Step) → 1 ≤ length (step_bytes step)
step_has_kind (Log e) = omega arith
step_has_kind (Control (Back v)) = omega arith
step_has_kind (Control (Started epoch)) = omega arith
step_has_kind (Control (Firm v)) = omega arith
step_has_kind (Control (Trim v)) = omega arith
step_has_kind (Control Partial) = omega arith
step_has_kind (Recover (Put name size bytes attrs)) = omega arith
step_has_kind (Recover (Drop name)) = omega arith
step_has_kind (Recover Clear) = omega arith
step_has_kind (Recover (Reset v epoch)) = omega arith

-- what one_way says of a text first
abbrev Either : List ℕ → Type 0
Either text = ((steps : List Step) × AreSteps text steps) ⊎ ((at : ℕ) × IsFirstBad text at)

-- a step in front of what was read
in_front : (text : List ℕ) (step : Step) (rest : List ℕ) → IsWritable step → text ≡ step_bytes step ++ rest → Either rest → Either text
in_front text step rest has is (inl read) = inl (step ∷ read.0, ((has, read.1.0), is ∙ ap (λ t. step_bytes step ++ t) read.1.1))
in_front text step rest has is (inr bad) =
    let b = bad.1 in
    inr (
      length (steps_bytes (step ∷ b.front)),
      record {
        front = step ∷ b.front;
        rest = b.rest;
        spelled = (has, b.spelled);
        parts = is ∙ ap (λ t. step_bytes step ++ t) b.parts ∙ sym (append_assoc (step_bytes step) (steps_bytes b.front) b.rest);
        place = refl;
        more = b.more;
        none = b.none;
      },
    )

bad_here : (b : ℕ) (text : List ℕ) → read_step (b ∷ text) ≡ None → Either (b ∷ text)
bad_here b text none =
    inr (
      0,
      record {
        front = [];
        rest = b ∷ text;
        spelled = tt;
        parts = refl;
        place = refl;
        more = omega arith;
        none = λ step after begins. not_read step after (sym none ∙ ap read_step begins.1 ∙ read_front step after begins.0);
      },
    )

-- bytes are read from the front, a step after another, as far as they go
read_all : (n : ℕ) (text : List ℕ) → length text ≤ n → AreBytes text → Either text
read_all n [] long all = inl ([], (tt, refl))
read_all zero (b ∷ text) long all = absurd (omega (arith, long))
read_all (suc n) (b ∷ text) long all =
    elim (read_step (b ∷ text)) as (λ o. read_step (b ∷ text) ≡ o → Either (b ∷ text)) [
      | None ↦ λ none. bad_here b text none
      | Some p ↦ λ is.
          let one = step_reading.reads (b ∷ text) p.0 p.1 all is in
          let less : length p.1 ≤ n = omega (arith, ap length one.1, length-append (step_bytes p.0) p.1, step_has_kind p.0, long) in
          in_front (b ∷ text) p.0 p.1 one.0 one.1 (read_all n p.1 less (rest_bytes (step_bytes p.0) p.1 (subst AreBytes one.1 all)))
    ] refl

pub one_way : (text : List ℕ) → AreBytes text → IsReadOneWay text
one_way text all = record {
  either = read_all (length text) text (omega arith) all;
  one_list = one_reading text;
  one_place = one_bad text;
  never_both = no_bad text;
}
