-- Steps that are read one after another.
use Rattle.std.proofs.Common.{◌≡◌, ℕ, ◌+◌, ◌-◌, ◌<◌, List, [], ◌∷◌, ◌++◌, map, length, sym, ap, subst, ◌∙◌, Some, None, arith}
use Rattle.std.specs.List.{AllByRecursion}
use Rattle.std.proofs.lemmas.List.{append_assoc, append-nil, map-append, length-append}
use Rattle.std.proofs.lemmas.Grind.{flat_map-append}
use Rattle.shard_model.specs.Steps.{Step as Meant, Log, Control, Recover, Back, Firm, Trim, Started, Partial, Put, Drop, Clear, Reset}
use Rattle.shard_model.specs.StepBytes.{step_bytes, steps_bytes, IsWritable, IsFirstBad}
use Rattle.shard_model.specs.StepReading.{AreBytes, read_step}
use Rattle.shard_model.proofs.ReadingLemmas.{rest_bytes, not_read}
use Rattle.shard_model.proofs.StepReadingLemmas.{step_reading}
use Rattle.shard_steps.specs.StepMeanings.{step_of}
use Rattle.shard_steps.specs.declared.step.Step.{Step}

all_pushed : {X : Type 0} (P : X → Type 0) (xs : List X) (x : X) → AllByRecursion P xs → P x → AllByRecursion P (xs ++ x ∷ [])
all_pushed P [] x all p = (p, tt)
all_pushed P (y ∷ xs) x all p = (all.0, all_pushed P xs x all.1 p)

-- the steps so far and what is left are the text
pub record IsReadTo (text : List ℕ) (list : List Step) (left : List ℕ) : Type 0 where
  pub parts : text ≡ steps_bytes (map step_of list) ++ left
  pub writable : AllByRecursion IsWritable (map step_of list)
  pub bytes : AreBytes left

-- one step more is read
pub read_on : (text : List ℕ) (list more : List Step) (left rest : List ℕ) (step : Step) → IsReadTo text list left → read_step left ≡ Some (step_of step, rest)
    → more ≡ list ++ step ∷ [] → IsReadTo text more rest
read_on text list more left rest step to read is =
    let spelled = step_reading.reads left (step_of step) rest to.bytes read in
    let steps : map step_of more ≡ map step_of list ++ step_of step ∷ [] = ap (map step_of) is ∙ map-append step_of list (step ∷ []) in
    let front = steps_bytes (map step_of list) in
    record {
      parts =
          to.parts ∙ ap (λ t. front ++ t) spelled.1 ∙ sym (append_assoc front (step_bytes (step_of step)) rest)
          ∙ ap (λ b. (front ++ b) ++ rest) (sym (append-nil (step_bytes (step_of step))))
          ∙ ap (λ b. b ++ rest) (sym (ap steps_bytes steps ∙ flat_map-append step_bytes (map step_of list) (step_of step ∷ [])));
      writable = subst (AllByRecursion IsWritable) (sym steps) (all_pushed IsWritable (map step_of list) (step_of step) to.writable spelled.0);
      bytes = rest_bytes (step_bytes (step_of step)) rest (subst AreBytes spelled.1 to.bytes);
    }

behind : (n k : ℕ) → 0 < n → k < n + k
behind n k some = omega (arith, some)

longer : (xs ys : List ℕ) → 0 < length xs → length ys < length (xs ++ ys)
longer xs ys some = subst (λ n. length ys < n) (sym (length-append xs ys)) (behind (length xs) (length ys) some)

has_kind : (s : Meant) → 0 < length (step_bytes s)
has_kind (Log e) = omega arith
has_kind (Control (Back v)) = omega arith
has_kind (Control (Firm v)) = omega arith
has_kind (Control (Trim v)) = omega arith
has_kind (Control (Started epoch)) = omega arith
has_kind (Control Partial) = omega arith
has_kind (Recover (Put name size bytes attrs)) = omega arith
has_kind (Recover (Drop name)) = omega arith
has_kind (Recover Clear) = omega arith
has_kind (Recover (Reset v epoch)) = omega arith

place_is : (text front left : List ℕ) → text ≡ front ++ left → length text - length left ≡ length front
place_is text front left is = omega (arith, ap length is, length-append front left)

one_byte : (s : Meant) (rest : List ℕ) → length rest < length (step_bytes s ++ rest)
one_byte s rest = longer (step_bytes s) rest (has_kind s)

-- what is left is shorter after a step
pub read_less : (left rest : List ℕ) (step : Step) → AreBytes left → read_step left ≡ Some (step_of step, rest) → length rest < length left
read_less left rest step bytes read =
    subst (λ t. length rest < length t) (sym (step_reading.reads left (step_of step) rest bytes read).1) (one_byte (step_of step) rest)

-- no step is read, so none is spelled
pub first_bad : (text : List ℕ) (list : List Step) (left : List ℕ) (at : ℕ) → IsReadTo text list left → read_step left ≡ None → 0 < length left
    → at ≡ length text - length left → IsFirstBad text at
first_bad text list left at to none some is = record {
  front = map step_of list;
  rest = left;
  spelled = to.writable;
  parts = to.parts;
  place = is ∙ place_is text (steps_bytes (map step_of list)) left to.parts;
  more = some;
  none = λ step after begins. not_read step after (sym none ∙ ap read_step begins.1 ∙ step_reading.spelled step after begins.0);
}
