-- A text has one map.
use Rattle.std.proofs.Common.{◌≡◌, ℕ, List, [], ◌∷◌, ◌++◌, drop, get_or, Option, Some, Result, Ok, refl, sym, ap, subst, ◌∙◌, arith}
use Rattle.std.specs.List.{AllByRecursion}
use Rattle.byteorder.specs.Endian.{big_bytes, big_number}
use Rattle.byteorder.specs.Numbers.{big_number-reads_back}
use Rattle.ec_code.specs.declared.fault.ProfileFault.{ProfileFault}
use Rattle.ec_code.specs.declared.profile.Profile.{Profile as Plain}
use Rattle.ec_code.specs.JsonProfiles.{profile_of_bytes}
use Rattle.ec_words.specs.Readers.{IsWord}
use Rattle.ec_words.proofs.ReaderLemmas.{same_read}
use Rattle.slot_journal.specs.Laws.{TextsHaveOneReading}
use Rattle.map_model.specs.States.{MapState, new_state, replay}
use Rattle.pool_map.specs.Maps.{PoolImage, Leads, LeadAll, map_head, format_in, IsMapOf, IsMapText}
use Rattle.map_model.specs.Steps.{MapStep, Profile}
use Rattle.pool_map.specs.Steps.{step_bytes, steps_bytes, IsWritable}
use Rattle.pool_map.specs.StepReading.{read_step}
use Rattle.pool_map.proofs.BodyLemmas.{first_only}
use Rattle.pool_map.proofs.ReadingLemmas.{step_reading}
use Rattle.pool_map.proofs.StateLemmas.{no_bytes}
use Rattle.pool_map.proofs.TextLemmas.{text_front}

-- bytes are those of one list of steps
pub one_list : (steps others : List MapStep) → AllByRecursion IsWritable steps → AllByRecursion IsWritable others → steps_bytes steps ≡ steps_bytes others → steps ≡ others
one_list [] [] first second same = refl
one_list [] (s ∷ others) first second same = absurd (no_bytes s (steps_bytes others) (sym same))
one_list (s ∷ steps) [] first second same = absurd (no_bytes s (steps_bytes steps) same)
one_list (s ∷ steps) (t ∷ others) first second same =
    let read = same_read s t (steps_bytes steps) (steps_bytes others)
    (sym (step_reading.spelled s (steps_bytes steps) first.0) ∙ ap read_step same ∙ step_reading.spelled t (steps_bytes others) second.0) in
    let rest = one_list steps others first.1 second.1 read.1 in
    (λ i. read.0 i ∷ rest i)

some_same : (a b : MapState) → ◌≡◌ {A = Option MapState} (Some a) (Some b) → a ≡ b
some_same a b e = cc

-- a body leads to one state, and bodies do
one_after : (n : ℕ) (state one other : MapState) (body : List ℕ) → Leads n state body one → Leads n state body other → one ≡ other
one_after n state one other body first second =
    let same = one_list first.steps second.steps first.writable second.writable (sym first.bytes ∙ second.bytes) in
    some_same one other (sym first.done ∙ ap (λ (steps : List MapStep). replay n steps state) same ∙ second.done)

pub one_state : (n : ℕ) (state one other : MapState) (bodies : List (List ℕ)) → LeadAll n state bodies one → LeadAll n state bodies other → one ≡ other
one_state n state one other [] first second = sym first ∙ second
one_state n state one other (body ∷ bodies) first second =
    let mid = one_after n state first.0 second.0 body first.1.0 second.1.0 in
    one_state n second.0 one other bodies (subst (λ (s : MapState). LeadAll n s bodies one) mid first.1.1) second.1.1

ok_same : (p q : Plain) → ◌≡◌ {A = Result Plain ProfileFault} (Ok p) (Ok q) → p ≡ q
ok_same p q e = cc

same_bodies : (a b : List ℕ) (more rest : List (List ℕ)) → ◌≡◌ {A = List (List ℕ)} (a ∷ more) (b ∷ rest) → (a ≡ b) × (more ≡ rest)
same_bodies a b more rest e = (cc, cc)

-- maps of the same parts are one
same_image : (m o : PoolImage) → m.profile ≡ o.profile → m.n ≡ o.n → m.state ≡ o.state → m ≡ o
same_image m o profile n state = λ i. record { profile = profile i; n = n i; state = state i }

-- the records of a text are one map
pub one_map : (k unit format : ℕ) (bodies : List (List ℕ)) (one other : PoolImage) → one.n ≡ other.n → IsMapOf k unit format bodies one → IsMapOf k unit format bodies other → one ≡ other
one_map k unit format bodies one other same first second =
    let split = same_bodies (step_bytes (Profile first.lines) ++ first.rest) (step_bytes (Profile second.lines) ++ second.rest) first.more second.more (sym first.bytes ∙ second.bytes) in
    let lines = first_only (step_bytes (Profile second.lines) ++ second.rest) second.rest second.lines (step_reading.spelled (Profile second.lines) second.rest second.counted)
    first.lines first.rest first.counted (sym split.0) in
    let profile = ok_same one.profile other.profile (sym first.canonical.read ∙ ap profile_of_bytes lines.0 ∙ second.canonical.read) in
    let lead = subst (λ (more : List (List ℕ)). LeadAll other.n (new_state format) (second.rest ∷ more) one.state) split.1
    (subst (λ (rest : List ℕ). LeadAll other.n (new_state format) (rest ∷ first.more) one.state) lines.1
    (subst (λ (n : ℕ). LeadAll n (new_state format) (first.rest ∷ first.more) one.state) same first.lead)) in
    same_image one other profile same
    (one_state other.n (new_state format) one.state other.state (second.rest ∷ second.more) lead second.lead)

-- a head has one set of numbers
heads_same : (k n unit own_k own_n own_unit : ℕ) → IsWord unit → IsWord own_unit → map_head k n unit ≡ map_head own_k own_n own_unit
    → (k ≡ own_k) × ((n ≡ own_n) × (unit ≡ own_unit))
heads_same k n unit own_k own_n own_unit word own_word same = (
  ap (λ (h : List ℕ). get_or h 9 0) same,
  (
    ap (λ (h : List ℕ). get_or h 10 0) same,
    sym (big_number-reads_back 4 unit (big_bytes 8 0) (omega (arith, word))) ∙ ap (λ (h : List ℕ). big_number 4 (drop 11 h)) same
        ∙ big_number-reads_back 4 own_unit (big_bytes 8 0) (omega (arith, own_word)),
  ),
)

-- a text has one map
pub one_text_map : TextsHaveOneReading → (text : List ℕ) (one other : PoolImage) → IsMapText text one → IsMapText text other → one ≡ other
one_text_map law text one other first second =
    let front = sym (text_front first.k one.n first.unit first.bodies first.place text first.is_text) ∙ text_front second.k other.n second.unit second.bodies second.place text second.is_text in
    let numbers = heads_same first.k one.n first.unit second.k other.n second.unit first.word second.word (ap (λ (t : List ℕ). drop 1 t) front) in
    let bodies = (law text (map_head first.k one.n first.unit) (map_head second.k other.n second.unit) first.bodies second.bodies first.place second.place first.is_text second.is_text).0 in
    one_map second.k second.unit (format_in text) second.bodies one other numbers.1.0
    (subst (λ (k : ℕ). IsMapOf k second.unit (format_in text) second.bodies one) numbers.0
    (subst (λ (unit : ℕ). IsMapOf first.k unit (format_in text) second.bodies one) numbers.1.1
    (subst (λ (bs : List (List ℕ)). IsMapOf first.k first.unit (format_in text) bs one) bodies first.gives)))
    second.gives
