-- Bodies that are no map, by the first thing that fails.
use Rattle.std.proofs.Common.{rules, Fits, w8, slice_index_or, suc, take, drop, ◌-◌, ◌<◌, ◌≡◌, ℕ, List, [], ◌∷◌, ◌++◌, length, sym, ap, subst, ◌∙◌, arith}
use Rattle.std.proofs.lemmas.List.{take_all, length-drop}
use Rattle.ec_code.specs.declared.profile.Profile.{Profile as Plain}
use Rattle.ec_words.specs.Readers.{IsCounted}
use Rattle.ec_words.specs.Readers.{AreBytes}
use Rattle.ec_words.proofs.ReaderLemmas.{same_read, not_read}
use Rattle.std.proofs.Common.{Some, None}
use Rattle.map_model.specs.States.{MapState, new_state}
use Rattle.pool_map.specs.Maps.{PoolImage, LeadAll, IsMapOf, IsCanonical, map_format}
use Rattle.map_model.specs.Steps.{MapStep, Profile}
use Rattle.pool_map.specs.Steps.{step_bytes}
use Rattle.pool_map.specs.StepReading.{read_step}
use Rattle.pool_map.proofs.ReadingLemmas.{step_reading}

same_lines : (a b : List ℕ) → Profile a ≡ Profile b → a ≡ b
same_lines a b e = cc

same_bodies : (a b : List ℕ) (more rest : List (List ℕ)) → ◌≡◌ {A = List (List ℕ)} (a ∷ more) (b ∷ rest) → (a ≡ b) × (more ≡ rest)
same_bodies a b more rest e = (cc, cc)

no_bodies : (b : List ℕ) (bs : List (List ℕ)) → ◌≡◌ {A = List (List ℕ)} [] (b ∷ bs) → ⊥
no_bodies b bs e = cc

-- lines that are read off a body stand at its front, and no others do
module _ (body : List ℕ) (rest : List ℕ) (all : AreBytes body) where
  pub first_counted : (lines : List ℕ) → read_step body ≡ Some (Profile lines, rest) → IsCounted lines
  first_counted lines read = (step_reading.reads body (Profile lines) rest all read).0

  pub first_bytes : (lines : List ℕ) → read_step body ≡ Some (Profile lines, rest) → body ≡ step_bytes (Profile lines) ++ rest
  first_bytes lines read = (step_reading.reads body (Profile lines) rest all read).1

pub first_only : (body rest lines : List ℕ) → read_step body ≡ Some (Profile lines, rest)
    → (ls more : List ℕ) → IsCounted ls → body ≡ step_bytes (Profile ls) ++ more → (ls ≡ lines) × (more ≡ rest)
first_only body rest lines read ls more counted is =
    let same = same_read (Profile ls) (Profile lines) more rest (sym (step_reading.spelled (Profile ls) more counted) ∙ ap read_step (sym is) ∙ read) in
    (same_lines ls lines same.0, same.1)

pub first_none : (body : List ℕ) → read_step body ≡ None → (lines rest : List ℕ) → IsCounted lines → body ≡ step_bytes (Profile lines) ++ rest → ⊥
first_none body read lines rest counted is = not_read (Profile lines) rest (sym read ∙ ap read_step is ∙ step_reading.spelled (Profile lines) rest counted)

-- another step is read
pub first_other : (body rest : List ℕ) (s : MapStep) → read_step body ≡ Some (s, rest) → ((ls : List ℕ) → Profile ls ≡ s → ⊥)
    → (lines more : List ℕ) → IsCounted lines → body ≡ step_bytes (Profile lines) ++ more → ⊥
first_other body rest s read other lines more counted is =
    other lines (same_read (Profile lines) s more rest (sym (step_reading.spelled (Profile lines) more counted) ∙ ap read_step (sym is) ∙ read)).0

module _ (k unit n : ℕ) (bodies : List (List ℕ)) (m : PoolImage) (same_n : m.n ≡ n) (is : IsMapOf k unit map_format bodies m) where
  pub not_none : length bodies ≡ 0 → ⊥
  not_none none = omega (arith, none, ap length is.bytes)

  module _ (first : List ℕ) (more : List (List ℕ)) (split : bodies ≡ first ∷ more) where
    abbrev parts : (first ≡ step_bytes (Profile is.lines) ++ is.rest) × (more ≡ is.more)
    parts = same_bodies first (step_bytes (Profile is.lines) ++ is.rest) more is.more (sym split ∙ is.bytes)

    pub not_first : ((lines rest : List ℕ) → IsCounted lines → first ≡ step_bytes (Profile lines) ++ rest → ⊥) → ⊥
    not_first none = none is.lines is.rest is.counted parts.0

    module _ (lines rest : List ℕ) (only : (ls r : List ℕ) → IsCounted ls → first ≡ step_bytes (Profile ls) ++ r → (ls ≡ lines) × (r ≡ rest)) where
      pub not_lines : ((p : Plain) → IsCanonical lines p k n unit → ⊥) → ⊥
      not_lines none =
          none m.profile (subst (λ (l : List ℕ). IsCanonical l m.profile k n unit) (only is.lines is.rest is.counted parts.0).0
          (subst (λ (x : ℕ). IsCanonical is.lines m.profile k x unit) same_n is.canonical))

      pub not_state : ((other : MapState) → LeadAll n (new_state map_format) (rest ∷ more) other → ⊥) → ⊥
      not_state none =
          none m.state (subst (λ (bs : List (List ℕ)). LeadAll n (new_state map_format) (rest ∷ bs) m.state) (sym parts.1)
          (subst (λ (r : List ℕ). LeadAll n (new_state map_format) (r ∷ is.more) m.state) (only is.lines is.rest is.counted parts.0).1
          (subst (λ (x : ℕ). LeadAll x (new_state map_format) (is.rest ∷ is.more) m.state) same_n is.lead)))

-- bytes of a slice are bytes
fits_byte : (x : ℕ) → Fits w8 x → x < 256
fits_byte x fits = search rules

pub all_bytes : (xs : List ℕ) → ((i : ℕ) → Fits w8 (slice_index_or xs i 0)) → AreBytes xs
all_bytes [] fits = tt
all_bytes (x ∷ xs) fits = (fits_byte x (fits 0), all_bytes xs (λ i. fits (suc i)))

pub behind_first : (bodies : List (List ℕ)) (first : List ℕ) → 0 < length bodies → bodies ≡ first ∷ drop 1 bodies → bodies ≡ first ∷ take (length bodies - 1) (drop 1 bodies)
behind_first bodies first some is =
    is ∙ ap (λ rest. first ∷ rest) (sym (take_all (length bodies - 1) (drop 1 bodies) (omega (arith, length-drop 1 bodies, some))))
