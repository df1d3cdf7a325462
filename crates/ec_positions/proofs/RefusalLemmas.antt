-- When bytes that are put into an object are refused.
use Rattle.std.proofs.Common.{◌≡◌, ℕ, ◌+◌, ◌<◌, ◌≤◌, Bool, cond, true, false, ◌&&◌, nat_lt, nat_le, is_none, List, [], ◌∷◌, length, map, refl, subst, sym, ap, ◌∙◌, arith, Option, Some, None}
use Rattle.std.specs.FinMap as fin
use Rattle.std.specs.Ordering.{nat_cmp}
use Rattle.std.specs.Cmp.Lexicographic.{slice_cmp, nat_list_cmp_total}
use Rattle.std.specs.List.{sum_by}
use Rattle.std.proofs.lemmas.Bool.{false≢true, true≢false}
use Rattle.std.proofs.lemmas.Grind.{common_steps}
use Rattle.shard_model.specs.Limits.{max_size}
use Rattle.shard_model.specs.Listings.{attr_usage}
use Rattle.shard_model.specs.Objects.{put}
use Rattle.ec_positions.specs.Objects.{Object, Objects, bytes_in, attrs_in, usage, object_usage, max_objects, max_usage}
use Rattle.ec_positions.specs.Updates.{Update, Append, WriteAt, Full, Delete, SetAttr, RemoveAttr, name_of, object_after, after, puts_bytes}
use Rattle.ec_positions.specs.Refusals.{Refusal, Absent, NoAttr, TooLarge, TooManyObjects, TooFull, TooManyAttrs, first_of, refusal_of}
use Rattle.ec_positions.proofs.TallyLemmas.{load, sum_after}

-- the refusal by three numbers: the new size, how many objects there are, and what they take then
abbrev pub refusal_by : Option Object → ℕ → ℕ → ℕ → Option Refusal
refusal_by o size count taken = first_of (
    (nat_lt max_size size, TooLarge) ∷ (is_none o && nat_le max_objects count, TooManyObjects) ∷ (nat_lt max_usage taken, TooFull) ∷ [])

new_only : (o : Option Object) (b : Bool) → ((is_none o && true) && b) ≡ (is_none o && b)
new_only None b = refl
new_only (Some o) b = refl

last_of : (a b c : Bool) → first_of ((false, Absent) ∷ (false, NoAttr) ∷ (a, TooLarge) ∷ (b, TooManyObjects) ∷ (c, TooFull) ∷ (false, TooManyAttrs) ∷ []) ≡ first_of ((a, TooLarge) ∷ (b, TooManyObjects) ∷ (c, TooFull) ∷ [])
last_of true b c = refl
last_of false true c = refl
last_of false false true = refl
last_of false false false = refl

pub refusal_is : (m : Objects) (c : Update) → puts_bytes c ≡ true
    → refusal_of m c ≡ refusal_by (fin.get m (name_of c)) (length (bytes_in (object_after c (fin.get m (name_of c))))) (fin.len m) (usage (after m c))
refusal_is m (Append name bytes) is = last_of _ _ _ ∙ ap (λ b. first_of ((nat_lt max_size (length (bytes_in (object_after (Append name bytes) (fin.get m name)))), TooLarge) ∷ (b, TooManyObjects) ∷ (nat_lt max_usage (usage (after m (Append name bytes))), TooFull) ∷ [])) (new_only (fin.get m name) (nat_le max_objects (fin.len m)))
refusal_is m (WriteAt name off bytes) is = last_of _ _ _ ∙ ap (λ b. first_of ((nat_lt max_size (length (bytes_in (object_after (WriteAt name off bytes) (fin.get m name)))), TooLarge) ∷ (b, TooManyObjects) ∷ (nat_lt max_usage (usage (after m (WriteAt name off bytes))), TooFull) ∷ [])) (new_only (fin.get m name) (nat_le max_objects (fin.len m)))
refusal_is m (Full name bytes) is = last_of _ _ _ ∙ ap (λ b. first_of ((nat_lt max_size (length bytes), TooLarge) ∷ (b, TooManyObjects) ∷ (nat_lt max_usage (usage (after m (Full name bytes))), TooFull) ∷ [])) (new_only (fin.get m name) (nat_le max_objects (fin.len m)))
refusal_is m (Delete name) is = absurd (false≢true is)
refusal_is m (SetAttr name attr value) is = absurd (false≢true is)
refusal_is m (RemoveAttr name attr) is = absurd (false≢true is)

no_entries : {X : Type 0} (es : List X) → length es ≡ 0 → es ≡ []
no_entries [] e = refl
no_entries (x ∷ es) e = absurd (omega (arith, e))

empty_takes_none : sum_by attr_usage (fin.entries (fin.empty {K = List ℕ} {X = List ℕ} {R = slice_cmp nat_cmp})) ≡ 0
empty_takes_none = ap (sum_by attr_usage) (no_entries _ (sym (fin.len-entries fin.empty) ∙ fin.len-empty (slice_cmp nat_cmp) (List ℕ)))

-- the attributes stay: the object takes more by its bytes
grows : (o : Option Object) (bytes : List ℕ) → object_usage (record { bytes = bytes; attrs = attrs_in o }) + length (bytes_in o) ≡ load object_usage o + length bytes
grows None bytes = ap (λ n. length bytes + n + 0) empty_takes_none ∙ omega arith
grows (Some o) bytes = omega arith

-- what all take then
pub usage_then : (m : Objects) (k bytes : List ℕ)
    → usage (put m k (Some (record { bytes = bytes; attrs = attrs_in (fin.get m k) }))) + length (bytes_in (fin.get m k)) ≡ usage m + length bytes
usage_then m k bytes =
    let o = fin.get m k in
    let more = sum_after object_usage m k (Some (record { bytes = bytes; attrs = attrs_in o })) in
    let object = grows o bytes in
    omega (arith, more, object)

-- the usage after an update that puts bytes
pub usage_after : (m : Objects) (c : Update) → puts_bytes c ≡ true
    → usage (after m c) + length (bytes_in (fin.get m (name_of c))) ≡ usage m + length (bytes_in (object_after c (fin.get m (name_of c))))
usage_after m (Append name bytes) is = usage_then m name _
usage_after m (WriteAt name off bytes) is = usage_then m name _
usage_after m (Full name bytes) is = usage_then m name bytes
usage_after m (Delete name) is = absurd (false≢true is)
usage_after m (SetAttr name attr value) is = absurd (false≢true is)
usage_after m (RemoveAttr name attr) is = absurd (false≢true is)

-- ---- an object of these bytes, in place of what was there

-- no objects take no bytes
pub no_usage : usage fin.empty ≡ 0
no_usage = ap (λ es. sum_by object_usage (map (λ e. e.1) es)) (no_entries _ (sym (fin.len-entries fin.empty) ∙ fin.len-empty (slice_cmp nat_cmp) Object))

one_more : (b : Bool) (n : ℕ) → cond b n (n + 1) ≤ n + 1
one_more true n = omega arith
one_more false n = omega arith

pub full_count : (m : Objects) (name bytes : List ℕ) → fin.len (after m (Full name bytes)) ≤ fin.len m + 1
full_count m name bytes = subst (λ n. n ≤ fin.len m + 1) (sym (fin.len-insert nat_list_cmp_total m name _)) (one_more (fin.contains_key m name) (fin.len m))

pub full_usage : (m : Objects) (name bytes : List ℕ) → usage (after m (Full name bytes)) ≤ usage m + length bytes
full_usage m name bytes = omega (arith, usage_after m (Full name bytes) refl)

first_of_three : (a b c : Bool) → a ≡ false → b ≡ false → c ≡ false → first_of ((a, TooLarge) ∷ (b, TooManyObjects) ∷ (c, TooFull) ∷ []) ≡ None
first_of_three true b c is_a is_b is_c = absurd (true≢false is_a)
first_of_three false true c is_a is_b is_c = absurd (true≢false is_b)
first_of_three false false true is_a is_b is_c = absurd (true≢false is_c)
first_of_three false false false is_a is_b is_c = refl

none_and : (b c : Bool) → c ≡ false → (b && c) ≡ false
none_and true c e = e
none_and false c e = refl

not_less : (a b : ℕ) → b ≤ a → nat_lt a b ≡ false
not_less a b le = grind (arith, common_steps)

not_up_to : (a b : ℕ) → b < a → nat_le a b ≡ false
not_up_to a b lt = grind (arith, common_steps)

-- it is not refused while no limit is reached
pub full_accepted : (m : Objects) (name bytes : List ℕ) → length bytes ≤ max_size → fin.len m < max_objects → usage m + length bytes ≤ max_usage
    → refusal_of m (Full name bytes) ≡ None
full_accepted m name bytes short few light =
    refusal_is m (Full name bytes) refl
    ∙ first_of_three _ _ _ (not_less max_size (length bytes) short)
    (none_and (is_none (fin.get m name)) _ (not_up_to max_objects (fin.len m) few))
    (not_less max_usage (usage (after m (Full name bytes))) (omega (arith, full_usage m name bytes, light)))
