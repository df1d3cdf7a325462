-- The objects of a run, kept name by name.
use Rattle.std.proofs.Common.{◌≡◌, ℕ, ◌+◌, ◌-◌, ◌≤◌, Bool, true, false, cond, List, [], length, refl, sym, ap, subst, ◌∙◌, arith, Option, Some, None, is_some}
use Rattle.std.specs.Option.{option_map}
use Rattle.std.specs.Ordering.{nat_cmp, eq_by_cmp}
use Rattle.std.specs.Cmp.Lexicographic.{slice_cmp, nat_list_cmp_total}
use Rattle.std.specs.FinMap as map
use Rattle.ec_model.specs.Codes.{CodeRows}
use Rattle.ec_positions.specs.Objects.{Object, Objects, attrs_in, bytes_in, max_usage, usage}
use Rattle.ec_positions.specs.Updates.{Delete, Full, after}
use Rattle.ec_positions.proofs.CallerLemmas.{no_usage, usage_after}
use Rattle.pool_run.specs.Stored.{Kept, Stored, StoredObjects, IsStored, IsKept, AreStored, bytes_at, nothing, or_zero, size_at}
use Rattle.pool_run.proofs.MapLemmas.{by_name}

-- ---- an object and what is kept of it

kept_either : (code : CodeRows) (unit : ℕ) (here : Bool) (object : Object) (stored : Stored) (other : Option Object) (kept : Option Stored)
    → IsKept code unit (Some object) (Some stored) → IsKept code unit other kept → IsKept code unit (cond here (Some object) other) (cond here (Some stored) kept)
kept_either code unit true object stored other kept is others = is
kept_either code unit false object stored other kept is others = others

kept_unless : (code : CodeRows) (unit : ℕ) (gone : Bool) (other : Option Object) (kept : Option Stored)
    → IsKept code unit other kept → IsKept code unit (cond gone None other) (cond gone None kept)
kept_unless code unit true other kept others = tt
kept_unless code unit false other kept others = others

-- what is kept has no attributes
pub no_attrs : (code : CodeRows) (unit : ℕ) (object : Option Object) (stored : Option Stored) → IsKept code unit object stored → attrs_in object ≡ map.empty
no_attrs code unit (Some object) (Some stored) is = is.1
no_attrs code unit (Some object) None is = absurd is
no_attrs code unit None stored is = refl

-- it is kept exactly if it is there
pub alike : (code : CodeRows) (unit : ℕ) (object : Option Object) (stored : Option Stored) → IsKept code unit object stored → is_some object ≡ is_some stored
alike code unit (Some object) (Some stored) is = refl
alike code unit (Some object) None is = absurd is
alike code unit None (Some stored) is = absurd is
alike code unit None None is = refl

-- with its size
pub same_size : (code : CodeRows) (unit : ℕ) (object : Option Object) (stored : Option Stored) → IsKept code unit object stored
    → option_map (λ s. s.size) stored ≡ option_map (λ o. length o.bytes) object
same_size code unit (Some object) (Some stored) is = ap Some (sym is.0.of_object.has_size)
same_size code unit (Some object) None is = absurd is
same_size code unit None (Some stored) is = absurd is
same_size code unit None None is = refl

pub size_or_zero : (object : Option Object) → or_zero (option_map (λ o. length o.bytes) object) ≡ length (bytes_in object)
size_or_zero None = refl
size_or_zero (Some object) = refl

-- ---- one object is kept in place of what was there

each_inserted : (code : CodeRows) (unit : ℕ) (objects : Objects) (old new : Kept) (name bytes : List ℕ) (stored : Stored) → new.objects ≡ map.insert old.objects name stored
    → IsStored code unit bytes stored → AreStored code unit objects old → (q : List ℕ) → IsKept code unit (map.get (after objects (Full name bytes)) q) (map.get new.objects q)
each_inserted code unit objects old new name bytes stored is one kept q =
    let object : Object = record { bytes = bytes; attrs = attrs_in (map.get objects name) } in
    subst (λ o. IsKept code unit o (map.get new.objects q)) (sym (map.get-insert nat_list_cmp_total objects name object q))
    (subst (IsKept code unit (cond (eq_by_cmp by_name q name) (Some object) (map.get objects q)))
    (sym (ap (λ m. map.get m q) is ∙ map.get-insert nat_list_cmp_total old.objects name stored q))
    (kept_either code unit (eq_by_cmp by_name q name) object stored (map.get objects q) (map.get old.objects q) (one, no_attrs code unit (map.get objects name) (map.get old.objects name) (kept.each name)) (kept.each q)))

one_more : (there here : Bool) (n : ℕ) → there ≡ here → cond there n (n + 1) ≡ n + cond here 0 1
one_more true true n e = omega arith
one_more false false n e = omega arith
one_more true false n e = absurd (cc)
one_more false true n e = absurd (cc)

pub kept_inserted : (code : CodeRows) (unit : ℕ) (objects : Objects) (old new : Kept) (name bytes : List ℕ) (stored : Stored) → new.objects ≡ map.insert old.objects name stored
    → new.count ≡ old.count + cond (is_some (map.get old.objects name)) 0 1 → new.usage + or_zero (size_at objects name) ≡ old.usage + length bytes
    → IsStored code unit bytes stored → AreStored code unit objects old → usage (after objects (Full name bytes)) ≤ max_usage
    → AreStored code unit (after objects (Full name bytes)) new
kept_inserted code unit objects old new name bytes stored is counted taken one kept within =
    let count : map.len (after objects (Full name bytes)) ≡ map.len objects + cond (is_some (map.get old.objects name)) 0 1 =
    map.len-insert nat_list_cmp_total objects name _
    ∙ one_more (is_some (map.get objects name)) (is_some (map.get old.objects name)) (map.len objects) (alike code unit (map.get objects name) (map.get old.objects name) (kept.each name)) in
    record {
      each = each_inserted code unit objects old new name bytes stored is one kept;
      count = counted ∙ ap (λ n. n + cond (is_some (map.get old.objects name)) 0 1) kept.count ∙ sym count;
      taken = omega (arith, taken, kept.taken, size_or_zero (map.get objects name), usage_after objects (Full name bytes) refl);
      within = within;
    }

-- ---- no objects

pub none_kept : (code : CodeRows) (unit : ℕ) (kept : Kept) → kept ≡ nothing → AreStored code unit map.empty kept
none_kept code unit kept none = subst (λ k. AreStored code unit map.empty k) (sym none) (record {
  each = λ q. subst (λ o. IsKept code unit o (map.get empty q)) (sym (map.get-empty by_name q)) (subst (IsKept code unit None) (sym (map.get-empty by_name q)) tt);
  count = sym (map.len-empty (slice_cmp nat_cmp) Object);
  taken = sym no_usage;
  within = omega (arith, no_usage);
}) where
  empty : StoredObjects
  empty = map.empty

-- ---- the object of a name

-- what is kept of an object that is there is of its bytes
pub object_of : (code : CodeRows) (unit : ℕ) (object : Option Object) (stored : Stored) → IsKept code unit object (Some stored)
    → (bytes : List ℕ) × IsStored code unit bytes stored × (Some bytes ≡ option_map (λ o. o.bytes) object)
object_of code unit (Some object) stored is = (object.bytes, is.0, refl)
object_of code unit None stored is = absurd is

none_of : (code : CodeRows) (unit : ℕ) (object : Option Object) → IsKept code unit object None → None ≡ option_map (λ o. o.bytes) object
none_of code unit (Some object) is = absurd is
none_of code unit None is = refl

abbrev pub Found : Kept → List ℕ → Option Stored → Type 0
Found kept name found = map.get kept.objects name ≡ found

pub kept_found : (code : CodeRows) (unit : ℕ) (objects : Objects) (all : Kept) (name : List ℕ) (stored : Stored) → AreStored code unit objects all → Found all name (Some stored)
    → (bytes : List ℕ) × IsStored code unit bytes stored × (Some bytes ≡ bytes_at objects name)
kept_found code unit objects all name stored kept found = object_of code unit (map.get objects name) stored (subst (IsKept code unit (map.get objects name)) found (kept.each name))

pub bytes_found : (code : CodeRows) (unit : ℕ) (objects : Objects) (all : Kept) (name : List ℕ) (stored : Stored) (found : List ℕ) → AreStored code unit objects all
    → Found all name (Some stored) → ((bytes : List ℕ) → IsStored code unit bytes stored → found ≡ bytes) → Some found ≡ bytes_at objects name
bytes_found code unit objects all name stored found kept here decoded =
    let of = kept_found code unit objects all name stored kept here in
    ap Some (decoded of.0 of.1) ∙ of.2

pub bytes_absent : (code : CodeRows) (unit : ℕ) (objects : Objects) (all : Kept) (name : List ℕ) → AreStored code unit objects all → Found all name None
    → None ≡ bytes_at objects name
bytes_absent code unit objects all name kept here = none_of code unit (map.get objects name) (subst (IsKept code unit (map.get objects name)) here (kept.each name))

-- its size
pub size_found : (code : CodeRows) (unit : ℕ) (objects : Objects) (all : Kept) (name : List ℕ) (found : Option Stored) → AreStored code unit objects all
    → Found all name found → option_map (λ s. s.size) found ≡ size_at objects name
size_found code unit objects all name found kept here =
    ap (option_map (λ s. s.size)) (sym here) ∙ same_size code unit (map.get objects name) (map.get all.objects name) (kept.each name)

-- it takes no more than all
pub size_within : (code : CodeRows) (unit : ℕ) (objects : Objects) (all : Kept) (name : List ℕ) → AreStored code unit objects all → or_zero (size_at objects name) ≤ all.usage
size_within code unit objects all name kept =
    omega (arith, usage_after objects (Full name []) refl, kept.taken, size_or_zero (map.get objects name))

-- ---- an object goes

one_less : (there : Bool) (n : ℕ) → there ≡ true → cond there (n - 1) n ≡ n - 1
one_less true n e = refl
one_less false n e = absurd (cc)

pub kept_removed : (code : CodeRows) (unit : ℕ) (objects : Objects) (old new : Kept) (name : List ℕ) (stored : Stored) → new.objects ≡ map.remove old.objects name
    → new.count + 1 ≡ old.count → usage (after objects (Delete name)) + or_zero (size_at objects name) ≡ usage objects
    → new.usage + stored.size ≡ old.usage → Found old name (Some stored) → AreStored code unit objects old
    → AreStored code unit (after objects (Delete name)) new
kept_removed code unit objects old new name stored is counted rest taken here kept =
    let there : is_some (map.get objects name) ≡ true = alike code unit (map.get objects name) (map.get old.objects name) (kept.each name) ∙ ap is_some here in
    let size : stored.size ≡ or_zero (size_at objects name) = ap or_zero (size_found code unit objects old name (Some stored) kept here) in
    let count : map.len (after objects (Delete name)) ≡ map.len objects - 1 =
    map.len-remove nat_list_cmp_total objects name ∙ one_less (is_some (map.get objects name)) (map.len objects) there in
    record {
      each = λ q.
          subst (λ o. IsKept code unit o (map.get new.objects q)) (sym (map.get-remove nat_list_cmp_total objects name q))
          (subst (IsKept code unit (cond (eq_by_cmp by_name q name) None (map.get objects q)))
          (sym (ap (λ m. map.get m q) is ∙ map.get-remove nat_list_cmp_total old.objects name q))
          (kept_unless code unit (eq_by_cmp by_name q name) (map.get objects q) (map.get old.objects q) (kept.each q)));
      count = omega (arith, counted, kept.count, count);
      taken = omega (arith, taken, kept.taken, rest, size);
      within = omega (arith, rest, kept.within);
    }
