-- What the commands come to.
use Rattle.std.proofs.Common.{◌≡◌, ℕ, ◌+◌, ◌<◌, ◌≤◌, Bool, true, false, not, ◌&&◌, nat_lt, nat_le, is_none, is_some, List, [], ◌∷◌, ◌++◌, length, refl, sym, ap, ◌∙◌, arith, Option, Some, None}
use Rattle.std.specs.Option.{option_map}
use Rattle.std.specs.List.{sum_by}
use Rattle.std.specs.Ordering.{nat_cmp}
use Rattle.std.specs.Cmp.Lexicographic.{slice_cmp}
use Rattle.std.specs.FinMap as map
use Rattle.std.proofs.lemmas.Bool.{lt-ltb}
use Rattle.std.proofs.lemmas.Grind.{common_steps}
use Rattle.shard_model.specs.Listings.{attr_usage}
use Rattle.shard_model.specs.Objects.{Named}
use Rattle.shard_model.specs.Limits.{max_size}
use Rattle.ec_positions.specs.Objects.{Object, Objects, attrs_in, bytes_in, max_objects, max_usage, object_usage, usage}
use Rattle.ec_positions.specs.Updates.{Update, Append, WriteAt, Full, Delete, after, overlaid}
use Rattle.ec_positions.specs.Refusals.{Refusal, Absent, NoAttr, TooLarge, TooManyObjects, TooFull, TooManyAttrs, first_of, refusal_of}
use Rattle.ec_positions.specs.Commands.{Reply, Done, Refused, Updates, apply_command, reply_to, unless_refused}
use Rattle.ec_positions.proofs.CallerLemmas.{refusal_is, usage_after}
use Rattle.ec_positions.proofs.TallyLemmas.{load, sum_after}
use Rattle.pool_run.specs.Stored.{or_zero, size_at}
use Rattle.pool_run.proofs.KeptLemmas.{size_or_zero}
use Rattle.pool_run.proofs.OverlayLemmas.{reaches}

-- ---- a refusal by its causes

last_two : (a b c : Bool) → a ≡ false → first_of ((a, TooLarge) ∷ (b, TooManyObjects) ∷ (c, TooFull) ∷ []) ≡ first_of ((b, TooManyObjects) ∷ (c, TooFull) ∷ [])
last_two false b c e = refl
last_two true b c e = absurd (cc)

first_one : (a b c : Bool) → a ≡ true → first_of ((a, TooLarge) ∷ (b, TooManyObjects) ∷ (c, TooFull) ∷ []) ≡ Some TooLarge
first_one true b c e = refl
first_one false b c e = absurd (cc)

third_of : (a b c : Bool) → first_of ((a, TooLarge) ∷ (b, TooManyObjects) ∷ (c, TooFull) ∷ []) ≡ None → (a ≡ false) × (c ≡ false)
third_of true b c e = absurd (cc)
third_of false true c e = absurd (cc)
third_of false false true e = absurd (cc)
third_of false false false e = (refl, refl)

not_less : (a b : ℕ) → b ≤ a → nat_lt a b ≡ false
not_less a b le = grind (arith, common_steps)

at_most : (a b : ℕ) → nat_lt a b ≡ false → b ≤ a
at_most a b e = grind (arith, common_steps)

-- ---- bytes that become those of an object

pub too_large : (objects : Objects) (name bytes : List ℕ) → max_size < length bytes → refusal_of objects (Full name bytes) ≡ Some TooLarge
too_large objects name bytes large = refusal_is objects (Full name bytes) refl ∙ first_one _ _ _ (lt-ltb max_size (length bytes) large)

-- a test of an option
pub is_none_by : (o : Option ℕ) (none : Bool) → is_some o ≡ not none → none ≡ is_none o
is_none_by None true e = refl
is_none_by None false e = absurd (cc)
is_none_by (Some n) true e = absurd (cc)
is_none_by (Some n) false e = refl

missing : (object : Option Object) → is_none (option_map (λ o. length o.bytes) object) ≡ is_none object
missing None = refl
missing (Some object) = refl

pub by_limits : (objects : Objects) (name bytes : List ℕ) (new : Bool) (count taken : ℕ) → length bytes ≤ max_size → new ≡ is_none (size_at objects name) → count ≡ map.len objects
    → taken + or_zero (size_at objects name) ≡ usage objects + length bytes
    → first_of ((new && nat_le max_objects count, TooManyObjects) ∷ (nat_lt max_usage taken, TooFull) ∷ []) ≡ refusal_of objects (Full name bytes)
by_limits objects name bytes new count taken short is_new counts takes =
    let same : taken ≡ usage (after objects (Full name bytes)) = omega (arith, takes, size_or_zero (map.get objects name), usage_after objects (Full name bytes) refl) in
    ap (λ (b : Bool). first_of ((b && nat_le max_objects count, TooManyObjects) ∷ (nat_lt max_usage taken, TooFull) ∷ [])) (is_new ∙ missing (map.get objects name))
    ∙ ap (λ n. first_of ((is_none (map.get objects name) && nat_le max_objects n, TooManyObjects) ∷ (nat_lt max_usage taken, TooFull) ∷ [])) counts
    ∙ ap (λ n. first_of ((is_none (map.get objects name) && nat_le max_objects (map.len objects), TooManyObjects) ∷ (nat_lt max_usage n, TooFull) ∷ [])) same
    ∙ sym (refusal_is objects (Full name bytes) refl ∙ last_two _ _ _ (not_less max_size (length bytes) short))

-- what is not refused is short, and leaves no more than the objects may take
pub not_refused : (objects : Objects) (name bytes : List ℕ) → refusal_of objects (Full name bytes) ≡ None
    → (length bytes ≤ max_size) × (usage (after objects (Full name bytes)) ≤ max_usage)
not_refused objects name bytes none =
    let parts = third_of _ _ _ (sym (refusal_is objects (Full name bytes) refl) ∙ none) in
    (at_most max_size (length bytes) parts.0, at_most max_usage (usage (after objects (Full name bytes))) parts.1)

pub none_shown : (why : Option Refusal) → ◌≡◌ {A = Option Reply} None (option_map (λ r. Refused r) why) → why ≡ None
none_shown None e = refl
none_shown (Some r) e = absurd (cc)

refused_by : (reply accepted : Reply) (why : Option Refusal) → ◌≡◌ {A = Option Reply} (Some reply) (option_map (λ r. Refused r) why)
    → reply ≡ unless_refused why accepted (λ r. Refused r)
refused_by reply accepted None e = absurd (cc)
refused_by reply accepted (Some r) e = cc

stays_by : (reply : Reply) (objects other : Objects) (why : Option Refusal) → ◌≡◌ {A = Option Reply} (Some reply) (option_map (λ r. Refused r) why)
    → unless_refused why other (λ _. objects) ≡ objects
stays_by reply objects other None e = absurd (cc)
stays_by reply objects other (Some r) e = refl

-- a refused one has the refusal as its reply, and the objects stay
pub full_refused : (objects : Objects) (name bytes : List ℕ) (reply : Reply) → ◌≡◌ {A = Option Reply} (Some reply) (option_map (λ r. Refused r) (refusal_of objects (Full name bytes)))
    → (reply ≡ reply_to objects (Updates (Full name bytes))) × (apply_command objects (Updates (Full name bytes)) ≡ objects)
full_refused objects name bytes reply e = (
  refused_by reply (Done [] []) (refusal_of objects (Full name bytes)) e,
  stays_by reply objects (after objects (Full name bytes)) (refusal_of objects (Full name bytes)) e,
)

pub full_accepted : (objects : Objects) (name bytes : List ℕ) → refusal_of objects (Full name bytes) ≡ None
    → (Done [] [] ≡ reply_to objects (Updates (Full name bytes))) × (apply_command objects (Updates (Full name bytes)) ≡ after objects (Full name bytes))
full_accepted objects name bytes none = (
  sym (ap (λ why. unless_refused why (Done [] []) (λ r. Refused r)) none),
  ap (λ why. unless_refused why (after objects (Full name bytes)) (λ _. objects)) none,
)

-- ---- updates that put bytes

-- an update after which the object of its name has some bytes is as the one that makes them its bytes
abbrev pub IsAsFull : Objects → Update → List ℕ → List ℕ → Type 0
IsAsFull objects update name bytes =
    (reply_to objects (Updates (Full name bytes)) ≡ reply_to objects (Updates update))
    × (apply_command objects (Updates (Full name bytes)) ≡ apply_command objects (Updates update))

pub append_as_full : (objects : Objects) (name bytes all : List ℕ) → all ≡ bytes_in (map.get objects name) ++ bytes
    → IsAsFull objects (Append name bytes) name all
append_as_full objects name bytes all is =
    let why = refusal_is objects (Full name all) refl
    ∙ ap (λ (b : List ℕ). first_of ((nat_lt max_size (length b), TooLarge) ∷ (is_none (map.get objects name) && nat_le max_objects (map.len objects), TooManyObjects) ∷ (nat_lt max_usage (usage (after objects (Full name b))), TooFull) ∷ [])) is
    ∙ sym (refusal_is objects (Append name bytes) refl) in (
      ap (λ w. unless_refused w (Done [] []) (λ r. Refused r)) why,
      ap (λ w. unless_refused w (after objects (Full name all)) (λ _. objects)) why
          ∙ ap (λ (b : List ℕ). unless_refused (refusal_of objects (Append name bytes)) (after objects (Full name b)) (λ _. objects)) is,
    )

pub write_as_full : (objects : Objects) (name : List ℕ) (off : ℕ) (bytes all : List ℕ) → all ≡ overlaid off bytes (bytes_in (map.get objects name))
    → IsAsFull objects (WriteAt name off bytes) name all
write_as_full objects name off bytes all is =
    let why = refusal_is objects (Full name all) refl
    ∙ ap (λ (b : List ℕ). first_of ((nat_lt max_size (length b), TooLarge) ∷ (is_none (map.get objects name) && nat_le max_objects (map.len objects), TooManyObjects) ∷ (nat_lt max_usage (usage (after objects (Full name b))), TooFull) ∷ [])) is
    ∙ sym (refusal_is objects (WriteAt name off bytes) refl) in (
      ap (λ w. unless_refused w (Done [] []) (λ r. Refused r)) why,
      ap (λ w. unless_refused w (after objects (Full name all)) (λ _. objects)) why
          ∙ ap (λ (b : List ℕ). unless_refused (refusal_of objects (WriteAt name off bytes)) (after objects (Full name b)) (λ _. objects)) is,
    )

pub write_too_large : (objects : Objects) (name : List ℕ) (off : ℕ) (bytes : List ℕ) → 1 ≤ length bytes → max_size < off
    → (Refused TooLarge ≡ reply_to objects (Updates (WriteAt name off bytes))) × (apply_command objects (Updates (WriteAt name off bytes)) ≡ objects)
write_too_large objects name off bytes some far =
    let long : max_size < length (overlaid off bytes (bytes_in (map.get objects name))) = omega (arith, far, reaches off bytes (bytes_in (map.get objects name)) some) in
    let why : refusal_of objects (WriteAt name off bytes) ≡ Some TooLarge = refusal_is objects (WriteAt name off bytes) refl ∙ first_one _ _ _ (lt-ltb max_size (length (overlaid off bytes (bytes_in (map.get objects name)))) long) in (
      sym (ap (λ w. unless_refused w (Done [] []) (λ r. Refused r)) why),
      ap (λ w. unless_refused w (after objects (WriteAt name off bytes)) (λ _. objects)) why,
    )

-- ---- an object that goes

no_some : (object : Option Object) → is_some object ≡ false → is_none object ≡ true
no_some None e = refl
no_some (Some o) e = absurd (cc)

no_none : (object : Option Object) → is_some object ≡ true → is_none object ≡ false
no_none (Some o) e = refl
no_none None e = absurd (cc)

first_absent : (a : Bool) (causes : List (Bool × Refusal)) → a ≡ true → first_of ((a, Absent) ∷ causes) ≡ Some Absent
first_absent true causes e = refl
first_absent false causes e = absurd (cc)

none_holds : (a m c : Bool) → a ≡ false → c ≡ false
    → first_of ((a, Absent) ∷ (false, NoAttr) ∷ (false, TooLarge) ∷ ((a && false) && m, TooManyObjects) ∷ (c, TooFull) ∷ (false, TooManyAttrs) ∷ []) ≡ None
none_holds false m false ea ec = refl
none_holds false m true ea ec = absurd (cc)
none_holds true m c ea ec = absurd (cc)

-- why else a name that goes would be refused
abbrev other_causes : Objects → List ℕ → List (Bool × Refusal)
other_causes objects name =
    (false, NoAttr) ∷ (nat_lt max_size 0, TooLarge) ∷ ((is_none (map.get objects name) && false) && nat_le max_objects (map.len objects), TooManyObjects)
    ∷ (nat_lt max_usage (usage (after objects (Delete name))), TooFull) ∷ (false, TooManyAttrs) ∷ []

pub delete_absent : (objects : Objects) (name : List ℕ) → is_some (map.get objects name) ≡ false
    → (Refused Absent ≡ reply_to objects (Updates (Delete name))) × (apply_command objects (Updates (Delete name)) ≡ objects)
delete_absent objects name none =
    let why : refusal_of objects (Delete name) ≡ Some Absent = first_absent (is_none (map.get objects name)) (other_causes objects name) (no_some (map.get objects name) none) in (
      sym (ap (λ w. unless_refused w (Done [] []) (λ r. Refused r)) why),
      ap (λ w. unless_refused w (after objects (Delete name)) (λ _. objects)) why,
    )

pub delete_there : (objects : Objects) (name : List ℕ) → is_some (map.get objects name) ≡ true → usage (after objects (Delete name)) ≤ max_usage
    → (Done [] [] ≡ reply_to objects (Updates (Delete name))) × (apply_command objects (Updates (Delete name)) ≡ after objects (Delete name))
delete_there objects name there light =
    let why : refusal_of objects (Delete name) ≡ None =
    none_holds (is_none (map.get objects name)) (nat_le max_objects (map.len objects)) (nat_lt max_usage (usage (after objects (Delete name))))
    (no_none (map.get objects name) there) (not_less max_usage (usage (after objects (Delete name))) light) in (
      sym (ap (λ w. unless_refused w (Done [] []) (λ r. Refused r)) why),
      ap (λ w. unless_refused w (after objects (Delete name)) (λ _. objects)) why,
    )

no_entries : {X : Type 0} (es : List X) → length es ≡ 0 → es ≡ []
no_entries [] e = refl
no_entries (x ∷ es) e = absurd (omega (arith, e))

empty_takes_none : sum_by attr_usage (map.entries (map.empty {K = List ℕ} {X = List ℕ} {R = slice_cmp nat_cmp})) ≡ 0
empty_takes_none = ap (sum_by attr_usage) (no_entries _ (sym (map.len-entries map.empty) ∙ map.len-empty (slice_cmp nat_cmp) (List ℕ)))

takes : (object : Option Object) → attrs_in object ≡ map.empty → load object_usage object ≡ or_zero (option_map (λ o. length o.bytes) object)
takes None none = refl
takes (Some o) none = ap (λ n. length o.bytes + n) (ap (λ (attrs : Named (List ℕ)). sum_by attr_usage (map.entries attrs)) none ∙ empty_takes_none) ∙ omega arith

-- what the others take
pub usage_without : (objects : Objects) (name : List ℕ) → attrs_in (map.get objects name) ≡ map.empty
    → usage (after objects (Delete name)) + or_zero (size_at objects name) ≡ usage objects
usage_without objects name none =
    let rest : usage (after objects (Delete name)) + load object_usage (map.get objects name) ≡ usage objects + 0 = sum_after object_usage objects name None in
    omega (arith, rest, takes (map.get objects name) none)
