-- States that steps lead to.
use Rattle.std.proofs.Common.{◌≡◌, ℕ, ◌+◌, ◌<◌, true, false, List, [], ◌∷◌, ◌++◌, length, refl, sym, ap, subst, ◌∙◌, Some, None, arith}
use Rattle.std.specs.List.{AllByRecursion}
use Rattle.std.proofs.lemmas.Bool.{false≢true}
use Rattle.std.proofs.lemmas.List.{length-append}
use Rattle.ec_words.specs.Readers.{AreBytes}
use Rattle.ec_words.proofs.ReaderLemmas.{rest_bytes, not_read, same_read}
use Rattle.map_model.specs.States.{MapState, fits, state_after, replay}
use Rattle.pool_map.specs.Maps.{Leads, LeadAll}
use Rattle.map_model.specs.Steps.{MapStep, Profile, Begin, Alive, Mark}
use Rattle.pool_map.specs.Steps.{step_bytes, steps_bytes, IsWritable}
use Rattle.pool_map.specs.StepReading.{read_step}
use Rattle.map_model.proofs.ReplayLemmas.{replay_step, step_replayed, replayed_none}
use Rattle.pool_map.proofs.ReadingLemmas.{step_reading}

has_kind : (s : MapStep) → 0 < length (step_bytes s)
has_kind (Profile lines) = omega arith
has_kind (Begin epoch up) = omega arith
has_kind (Alive epoch joined base) = omega arith
has_kind (Mark slot down) = omega arith

behind : (n k : ℕ) → 0 < n → k < n + k
behind n k some = omega (arith, some)

pub one_byte : (s : MapStep) (rest : List ℕ) → length rest < length (step_bytes s ++ rest)
one_byte s rest = subst (λ n. length rest < n) (sym (length-append (step_bytes s) rest)) (behind (length (step_bytes s)) (length rest) (has_kind s))

-- no step is no byte
pub no_bytes : (s : MapStep) (rest : List ℕ) → step_bytes s ++ rest ≡ [] → ⊥
no_bytes s rest e = omega (arith, one_byte s rest, ap length e)

-- a body and its first step
module _ (n : ℕ) (state later : MapState) where
  -- a step read off the front of a body: what the rest leads to, the body does
  pub leads_on : (left rest : List ℕ) (s : MapStep) → AreBytes left → read_step left ≡ Some (s, rest) → fits n state s ≡ true
      → Leads n (state_after state s) rest later → Leads n state left later
  leads_on left rest s all read fit leads =
      let is = step_reading.reads left s rest all read in
      record {
        steps = s ∷ leads.steps;
        writable = (is.0, leads.writable);
        bytes = is.1 ∙ ap (λ t. step_bytes s ++ t) leads.bytes;
        done = replay_step n state later s leads.steps fit leads.done;
      }

  -- and the other way about
  pub led_on : (left rest : List ℕ) (s : MapStep) → AreBytes left → read_step left ≡ Some (s, rest) → Leads n state left later
      → (fits n state s ≡ true) × Leads n (state_after state s) rest later
  led_on left rest s all read leads =
      elim leads.steps as (λ steps. AllByRecursion IsWritable steps → left ≡ steps_bytes steps → replay n steps state ≡ Some later
      → (fits n state s ≡ true) × Leads n (state_after state s) rest later) [
        | [] ↦ λ writable bytes done. absurd (no_bytes s rest (sym (step_reading.reads left s rest all read).1 ∙ bytes))
        | x ∷ steps ↦ λ writable bytes done.
            let same = same_read x s (steps_bytes steps) rest (sym (step_reading.spelled x (steps_bytes steps) writable.0) ∙ ap read_step (sym bytes) ∙ read) in
            let both = step_replayed n state later x steps done in (
              subst (λ y. fits n state y ≡ true) same.0 both.0,
              record {
                steps = steps;
                writable = writable.1;
                bytes = sym same.1;
                done = subst (λ y. replay n steps (state_after state y) ≡ Some later) same.0 both.1;
              },
            )
      ] leads.writable leads.bytes leads.done

  -- if no step is read, and something is left, the body leads nowhere
  pub led_nowhere : (left : List ℕ) → 0 < length left → read_step left ≡ None → Leads n state left later → ⊥
  led_nowhere left some read leads =
      elim leads.steps as (λ steps. AllByRecursion IsWritable steps → left ≡ steps_bytes steps → ⊥) [
        | [] ↦ λ writable bytes. omega (arith, some, ap length bytes)
        | x ∷ steps ↦ λ writable bytes. not_read x (steps_bytes steps) (sym read ∙ ap read_step bytes ∙ step_reading.spelled x (steps_bytes steps) writable.0)
      ] leads.writable leads.bytes

-- no bytes lead to where they began, and nowhere else
pub leads_here : (n : ℕ) (state : MapState) → Leads n state [] state
unfolding replay
leads_here n state = record { steps = []; writable = tt; bytes = refl; done = refl }

pub led_here : (n : ℕ) (state later : MapState) → Leads n state [] later → later ≡ state
led_here n state later leads =
    elim leads.steps as (λ steps. [] ≡ steps_bytes steps → replay n steps state ≡ Some later → later ≡ state) [
      | [] ↦ λ bytes done. sym (replayed_none n state later done)
      | x ∷ steps ↦ λ bytes done. absurd (no_bytes x (steps_bytes steps) (sym bytes))
    ] leads.bytes leads.done

-- what is left of a body leads from here to where the body leads from its start
pub record IsTold (n : ℕ) (first : MapState) (body : List ℕ) (here : MapState) (left : List ℕ) : Type 0 where
  pub forth : (later : MapState) → Leads n here left later → Leads n first body later
  pub back : (later : MapState) → Leads n first body later → Leads n here left later
  pub bytes : AreBytes left

pub told_first : (n : ℕ) (first : MapState) (body : List ℕ) → AreBytes body → IsTold n first body first body
told_first n first body all = record { forth = λ later leads. leads; back = λ later leads. leads; bytes = all }

pub told_on : (n : ℕ) (first : MapState) (body : List ℕ) (here next : MapState) (left rest : List ℕ) (s : MapStep) → IsTold n first body here left
    → read_step left ≡ Some (s, rest) → fits n here s ≡ true → next ≡ state_after here s → IsTold n first body next rest
told_on n first body here next left rest s told read fit is = record {
  forth = λ later leads. told.forth later (leads_on n here later left rest s told.bytes read fit (subst (λ x. Leads n x rest later) is leads));
  back = λ later leads. subst (λ x. Leads n x rest later) (sym is) (led_on n here later left rest s told.bytes read (told.back later leads)).1;
  bytes = rest_bytes (step_bytes s) rest (subst AreBytes (step_reading.reads left s rest told.bytes read).1 told.bytes);
}

pub read_less : (left rest : List ℕ) (s : MapStep) → AreBytes left → read_step left ≡ Some (s, rest) → length rest < length left
read_less left rest s bytes read = subst (λ t. length rest < length t) (sym (step_reading.reads left s rest bytes read).1) (one_byte s rest)

no_more : {A : Type 0} (xs : List A) → length xs ≡ 0 → xs ≡ []
no_more {A} [] none = refl
no_more {A} (x ∷ xs) none = absurd (omega (arith, none))

pub told_end : (n : ℕ) (first : MapState) (body : List ℕ) (here : MapState) (left : List ℕ) → IsTold n first body here left → length left ≡ 0 → Leads n first body here
told_end n first body here left told none = told.forth here (subst (λ t. Leads n here t here) (sym (no_more left none)) (leads_here n here))

pub told_only : (n : ℕ) (first : MapState) (body : List ℕ) (here : MapState) (left : List ℕ) → IsTold n first body here left → length left ≡ 0
    → (later : MapState) → Leads n first body later → later ≡ here
told_only n first body here left told none later leads = led_here n here later (subst (λ t. Leads n here t later) (no_more left none) (told.back later leads))

pub told_bad : (n : ℕ) (first : MapState) (body : List ℕ) (here : MapState) (left : List ℕ) → IsTold n first body here left → 0 < length left → read_step left ≡ None
    → (later : MapState) → Leads n first body later → ⊥
told_bad n first body here left told some none later leads = led_nowhere n here later left some none (told.back later leads)

pub told_misfit : (n : ℕ) (first : MapState) (body : List ℕ) (here : MapState) (left rest : List ℕ) (s : MapStep) → IsTold n first body here left
    → read_step left ≡ Some (s, rest) → fits n here s ≡ false → (later : MapState) → Leads n first body later → ⊥
told_misfit n first body here left rest s told read misfit later leads =
    false≢true (sym misfit ∙ (led_on n here later left rest s told.bytes read (told.back later leads)).0)

-- the bodies from one on lead from here to where all lead from the start
pub record AreTold (n : ℕ) (first : MapState) (bodies : List (List ℕ)) (here : MapState) (left : List (List ℕ)) : Type 0 where
  pub forth : (later : MapState) → LeadAll n here left later → LeadAll n first bodies later
  pub back : (later : MapState) → LeadAll n first bodies later → LeadAll n here left later

pub all_first : (n : ℕ) (first : MapState) (bodies : List (List ℕ)) → AreTold n first bodies first bodies
all_first n first bodies = record { forth = λ later leads. leads; back = λ later leads. leads }

pub all_on : (n : ℕ) (first : MapState) (bodies : List (List ℕ)) (here next : MapState) (body : List ℕ) (left rest : List (List ℕ)) → AreTold n first bodies here left
    → left ≡ body ∷ rest → Leads n here body next → ((other : MapState) → Leads n here body other → other ≡ next) → AreTold n first bodies next rest
all_on n first bodies here next body left rest told is leads only = record {
  forth = λ later more. told.forth later (subst (λ l. LeadAll n here l later) (sym is) (next, (leads, more)));
  back = λ later all.
      let two : LeadAll n here (body ∷ rest) later = subst (λ l. LeadAll n here l later) is (told.back later all) in
      subst (λ s. LeadAll n s rest later) (only two.0 two.1.0) two.1.1;
}

pub all_end : (n : ℕ) (first : MapState) (bodies : List (List ℕ)) (here : MapState) (left : List (List ℕ)) → AreTold n first bodies here left → length left ≡ 0
    → LeadAll n first bodies here
all_end n first bodies here left told none = told.forth here (subst (λ l. LeadAll n here l here) (sym (no_more left none)) refl)

pub all_only : (n : ℕ) (first : MapState) (bodies : List (List ℕ)) (here : MapState) (left : List (List ℕ)) → AreTold n first bodies here left → length left ≡ 0
    → (later : MapState) → LeadAll n first bodies later → later ≡ here
all_only n first bodies here left told none later leads =
    let is : LeadAll n here [] later = subst (λ l. LeadAll n here l later) (no_more left none) (told.back later leads) in
    sym is

pub all_bad : (n : ℕ) (first : MapState) (bodies : List (List ℕ)) (here : MapState) (body : List ℕ) (left rest : List (List ℕ)) → AreTold n first bodies here left
    → left ≡ body ∷ rest → ((other : MapState) → Leads n here body other → ⊥) → (later : MapState) → LeadAll n first bodies later → ⊥
all_bad n first bodies here body left rest told is bad later leads =
    let two : LeadAll n here (body ∷ rest) later = subst (λ l. LeadAll n here l later) is (told.back later leads) in
    bad two.0 two.1.0

-- one body leads on, and the others nowhere
pub state_bad : (n own next : ℕ) (new first one : MapState) (rest : List ℕ) (more : List (List ℕ)) → own ≡ n → next ≡ n → first ≡ new
    → ((other : MapState) → Leads own first rest other → other ≡ one) → ((other : MapState) → LeadAll next one more other → ⊥)
    → (other : MapState) → LeadAll n new (rest ∷ more) other → ⊥
state_bad n own next new first one rest more same_own same_next same only bad other leads =
    let mid = only leads.0 (subst (λ (x : ℕ). Leads x first rest leads.0) (sym same_own) (subst (λ (s : MapState). Leads n s rest leads.0) (sym same) leads.1.0)) in
    bad other (subst (λ (x : ℕ). LeadAll x one more other) (sym same_next) (subst (λ (s : MapState). LeadAll n s more other) mid leads.1.1))
