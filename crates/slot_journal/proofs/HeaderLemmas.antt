-- A text's header, looked at in its first bytes.
use Rattle.std.proofs.Common.{◌≡◌, ◌≢◌, ◌≤◌, ◌<◌, ◌+◌, min, inl, inr, ⊎_elim, ℕ, List, [], ◌∷◌, ◌++◌, length, get_or, take, drop, sym, ◌∙◌, ap, subst, arith, take-append-drop}
use Rattle.std.proofs.lemmas.List.{get_or-take, length-take, length-take-le, drop_more}
use Rattle.std.proofs.lemmas.Bool.{cases_lt, cases_eq}
use Rattle.std.proofs.lemmas.Bool.Decides.{nat_tests}
use Rattle.slot_journal.specs.Header.{open_gate}
use Rattle.slot_journal.specs.InUse.{open_text}
use Rattle.slot_journal.specs.Text.{Serves, FitsAt, IsHeader, records, IsText, FailsAt, IsBadHeader, IsBadText}
use Rattle.slot_journal.specs.Reading.{IsPiece, IsReadUpTo, StopsAt, BreaksAt}

-- an area that begins with an open gate is its own text
pub open_is_text : (there : List ℕ) → get_or there 0 0 ≡ open_gate → open_text there ≡ there
open_is_text there is_open = grind (arith, nat_tests)

pub shut_is_none : (there : List ℕ) → get_or there 0 0 ≢ open_gate → open_text there ≡ []
shut_is_none there shut = grind (arith, nat_tests)

module _ (head there front : List ℕ) (piece : IsPiece there 0 front) (enough : min 24 (length there) ≤ length front) where
  byte_of : (place : ℕ) → place < length front → get_or front place 0 ≡ get_or there place 0
  byte_of place inside = ap (λ (l : List ℕ). get_or l place 0) piece ∙ get_or-take (length front) there place 0 inside

  shorter : length front ≤ length there
  shorter = omega (arith, ap length piece, length-take (length front) there)

  pub fits_front : (place : ℕ) → place < 24 → FitsAt head there place → FitsAt head front place
  fits_front place early fits =
      let inside : place < length front = omega (arith, enough, fits.0, early) in
      (inside, subst (λ b. Serves place (get_or (open_gate ∷ head) place 0) b) (sym (byte_of place inside)) fits.1)

  pub fits_there : (place : ℕ) → FitsAt head front place → FitsAt head there place
  fits_there place fits = (omega (arith, fits.0, shorter), subst (λ b. Serves place (get_or (open_gate ∷ head) place 0) b) (byte_of place fits.0) fits.1)

  pub bad_there : (at : ℕ) → IsBadHeader head front at → IsBadHeader head there at
  bad_there at bad = record {
    within = bad.within;
    before = λ place early. fits_there place (bad.before place early);
    differs = λ fits. bad.differs (fits_front at bad.within fits);
  }

-- if byte 0 serves, the gate is open
pub gate_is_open : (head there : List ℕ) → FitsAt head there 0 → get_or there 0 0 ≡ open_gate
gate_is_open head there fits = ⊎_elim (λ same. same) (λ format. absurd (omega (arith, format.0))) fits.1

pub bad_open : (head there : List ℕ) (at : ℕ) → IsBadHeader head there at → IsBadText head (open_text there) at
bad_open head there at bad = ⊎_elim yes no (cases_eq (get_or there 0 0) open_gate)
  where
    yes : get_or there 0 0 ≡ open_gate → IsBadText head (open_text there) at
    yes is_open = subst (λ (l : List ℕ). IsBadText head l at) (sym (open_is_text there is_open)) (inl bad)

    first : get_or there 0 0 ≢ open_gate → at ≡ 0
    first shut = ⊎_elim (λ (before : at < 1). omega (arith, before)) (λ (after : 1 ≤ at). absurd (shut (gate_is_open head there (bad.before 0 (omega (arith, after)))))) (cases_lt at 1)

    none : IsBadHeader head [] 0
    none = record {
      within = omega arith;
      before = λ place early. absurd (omega (arith, early));
      differs = λ fits. omega (arith, fits.0);
    }

    no : get_or there 0 0 ≢ open_gate → IsBadText head (open_text there) at
    no shut = subst (λ n. IsBadText head (open_text there) n) (sym (first shut)) (subst (λ (l : List ℕ). IsBadText head l 0) (sym (shut_is_none there shut)) (inl none))

module _ (head there : List ℕ) (good : (place : ℕ) → place < 24 → FitsAt head there place) where
  long : 24 ≤ length there
  long = omega (arith, (good 23 (omega arith)).0)

  is_header : IsHeader head (take 24 there)
  is_header = record {
    long = length-take-le 24 there long;
    fits = λ place early. (
      omega (arith, early, length-take-le 24 there long),
      subst (λ b. Serves place (get_or (open_gate ∷ head) place 0) b) (sym (get_or-take 24 there place 0 early)) (good place early).1,
    );
  }

  place_is : (bodies : List (List ℕ)) (place : ℕ) → IsReadUpTo there bodies place → place ≡ length (take 24 there ++ records bodies)
  place_is bodies place read = sym (length-take-le place there read.within) ∙ ap length read.split

  pub text_read : (bodies : List (List ℕ)) (place : ℕ) → StopsAt there bodies place → IsText head bodies place (open_text there)
  text_read bodies place stops = subst (λ (l : List ℕ). IsText head bodies place l) (sym (open_is_text there (gate_is_open head there (good 0 (omega arith))))) (record {
    header = take 24 there;
    gate = get_or there place 0;
    rest = drop (place + 1) there;
    is_header = is_header;
    sized = stops.read.sized;
    closed = stops.closed;
    at = place_is bodies place stops.read;
    bytes = sym (take-append-drop place there) ∙ ap (λ (l : List ℕ). l ++ drop place there) stops.read.split
        ∙ ap (λ (l : List ℕ). take 24 there ++ records bodies ++ l) (drop_more there place 0 stops.within);
  })

  pub text_breaks : (at : ℕ) → BreaksAt there at → IsBadText head (open_text there) at
  text_breaks at breaks = subst (λ (l : List ℕ). IsBadText head l at) (sym (open_is_text there (gate_is_open head there (good 0 (omega arith))))) (inr (record {
    header = take 24 there;
    bodies = breaks.bodies;
    rest = drop breaks.place there;
    is_header = is_header;
    sized = breaks.read.sized;
    bytes = sym (take-append-drop breaks.place there) ∙ ap (λ (l : List ℕ). l ++ drop breaks.place there) breaks.read.split;
    fails = subst (λ n. FailsAt (drop breaks.place there) n at) (place_is breaks.bodies breaks.place breaks.read) breaks.fails;
  }))
