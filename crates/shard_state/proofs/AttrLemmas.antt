-- Attributes as a list that ascends.
use Rattle.std.proofs.Common.{◌≡◌, ◌⊎◌, inl, inr, IsSome, is_some, ℕ, zero, suc, ◌+◌, ◌<◌, ◌≤◌, Bool, true, false, cond, not, T, List, [], ◌∷◌, ◌++◌, take, drop, get_or, slice_get, slice_set, map as map_each, OnOk, OnErr, IfOk, Ok, Err, length, refl, sym, ap, ◌∙◌, Option, Some, None, arith}
use Rattle.std.specs.Ordering.{nat_cmp, eq_by_cmp, is_lt}
use Rattle.std.specs.Cmp.{eq_by_cmp_equiv}
use Rattle.std.specs.Cmp.Lexicographic.{slice_cmp, nat_list_cmp_total}
use Rattle.std.specs.declared.cmp.Ordering.TheVariants.{Equal}
use Rattle.std.proofs.lemmas.Bool.{false≢true, and_parts}
use Rattle.std.specs.declared.result.Result.{Result}
use Rattle.std.specs.FinMap as map
use Rattle.std.specs.FinMap.Entries.{below_all, by_order, is_sorted-put, is_sorted-where_key, find-where_key}
use Rattle.shard_model.specs.Objects.{Named}
use Rattle.shard_model.proofs.PutLemmas.{same_named, is_name}
use Rattle.shard_state.specs.Spots.{Attr, without, IsSpot}
use Rattle.shard_state.proofs.SpotLemmas.{by_name, less}

abbrev pub listed : List Attr → Named (List ℕ)
listed es = map.from_entries es

abbrev pub IsAscending : List Attr → Type 0
IsAscending es = map.is_sorted (slice_cmp nat_cmp) es ≡ true

told : (b : Bool) → b ≡ true → T b
told true e = tt
told false e = absurd (false≢true e)

tell : (b : Bool) → T b → b ≡ true
tell true e = refl
tell false e = absurd e

put_first : (k v : List ℕ) (es : List Attr) → below_all by_name k es ≡ true → map.put by_name k v es ≡ (k, v) ∷ es
put_first k v [] below = refl
put_first k v (e ∷ es) below =
    ap (λ r. by_order r ((k, v) ∷ e ∷ es) ((e.0, v) ∷ es) (e ∷ map.put by_name k v es)) (less (by_name k e.0) (and_parts (is_lt (by_name k e.0)) (below_all by_name k es) below).0)

none_of_length : (es : List Attr) → length es ≡ 0 → es ≡ []
none_of_length [] e = refl
none_of_length (x ∷ es) e = absurd (omega (arith, e))

empty_entries : (m : Named (List ℕ)) → map.len m ≡ 0 → map.entries m ≡ []
empty_entries m e = none_of_length (map.entries m) (sym (map.len-entries m) ∙ e)

no_entries : map.entries (listed []) ≡ []
no_entries = empty_entries (listed []) (map.len-empty by_name (List ℕ))

pub entries_listed : (es : List Attr) → IsAscending es → map.entries (listed es) ≡ es
entries_listed [] sorted = no_entries
entries_listed (e ∷ es) sorted =
    let parts = and_parts (below_all by_name e.0 es) (map.is_sorted by_name es) sorted in
    map.entries-insert nat_list_cmp_total (listed es) e.0 e.1 ∙ ap (map.put by_name e.0 e.1) (entries_listed es parts.1) ∙ put_first e.0 e.1 es parts.0

pub len_listed : (es : List Attr) → IsAscending es → map.len (listed es) ≡ length es
len_listed es sorted = map.len-entries (listed es) ∙ ap length (entries_listed es sorted)

pub put_ascends : (k v : List ℕ) (es : List Attr) → IsAscending es → IsAscending (map.put by_name k v es)
put_ascends k v es sorted = tell (map.is_sorted by_name (map.put by_name k v es)) (is_sorted-put by_name nat_list_cmp_total k v es (told (map.is_sorted by_name es) sorted))

pub put_listed : (k v : List ℕ) (es : List Attr) → IsAscending es → listed (map.put by_name k v es) ≡ map.insert (listed es) k v
put_listed k v es sorted =
    map.same_entries_map _ _
    (entries_listed (map.put by_name k v es) (put_ascends k v es sorted)
    ∙ sym (map.entries-insert nat_list_cmp_total (listed es) k v ∙ ap (map.put by_name k v) (entries_listed es sorted)))

pub without_ascends : (k : List ℕ) (es : List Attr) → IsAscending es → IsAscending (without k es)
without_ascends k es sorted = tell (map.is_sorted by_name (without k es)) (is_sorted-where_key by_name (λ x. not (eq_by_cmp by_name k x)) es (told (map.is_sorted by_name es) sorted))

turned : (b : Bool) (o : Option (List ℕ)) → cond (not b) o None ≡ cond b None o
turned true o = refl
turned false o = refl

-- a name that ties with q is q
tied : (k q x : List ℕ) → by_name q x ≡ Equal → eq_by_cmp by_name k x ≡ eq_by_cmp by_name k q
tied k q x t = ap (eq_by_cmp by_name k) (sym (map.slice_cmp-IsAntisymmetric map.nat_cmp-IsAntisymmetric q x t))

pub without_listed : (k : List ℕ) (es : List Attr) → listed (without k es) ≡ map.remove (listed es) k
without_listed k es = same_named _ _ (λ q.
    map.get-from_entries nat_list_cmp_total (without k es) q
    ∙ find-where_key by_name (λ x. not (eq_by_cmp by_name k x)) q (λ x t. ap (λ r. not r) (tied k q x t)) es
    ∙ turned (eq_by_cmp by_name k q) (map.find by_name q es)
    ∙ ap (λ b. cond b None (map.find by_name q es)) ((eq_by_cmp_equiv nat_list_cmp_total).symm k q)
    ∙ ap (cond (is_name q k) None) (sym (map.get-from_entries nat_list_cmp_total es q))
    ∙ sym (map.get-remove nat_list_cmp_total (listed es) k q))

-- a value written at a place of a list
pub set_parts : (es : List Attr) (i : ℕ) (x : Attr) → i < length es → slice_set es i x ≡ take i es ++ x ∷ drop (i + 1) es
set_parts [] i x inside = absurd (omega (arith, inside))
set_parts (e ∷ es) zero x inside = refl
set_parts (e ∷ es) (suc i) x inside =
    let next : suc (i + 1) ≡ suc i + 1 = omega arith in
    ap (λ ys. e ∷ ys) (set_parts es i x (omega (arith, inside))) ∙ ap (λ n. e ∷ (take i es ++ x ∷ drop n (e ∷ es))) next

-- the list that some attributes are mapped to, at an index
pub got : (f : Attr → List ℕ) (es : List Attr) (i : ℕ) (d : Attr) → i < length es → Some (f (get_or es i d)) ≡ slice_get (map_each f es) i
got f [] i d inside = absurd (omega (arith, inside))
got f (e ∷ es) zero d inside = refl
got f (e ∷ es) (suc i) d inside = got f es i d (omega (arith, inside))

pub got_none : (f : Attr → List ℕ) (es : List Attr) (i : ℕ) → length es ≤ i → None ≡ slice_get (map_each f es) i
got_none f [] i past = refl
got_none f (e ∷ es) zero past = absurd (omega (arith, past))
got_none f (e ∷ es) (suc i) past = got_none f es i (omega (arith, past))

-- what holds either way
pub either_way : {X E : Type 0} (P : Type 0) (r : Result X E) → OnOk r P → OnErr r P → P
either_way P (Ok x) ok err = ok
either_way P (Err x) ok err = err

pub on_ok_map : {X E P Q : Type 0} (r : Result X E) → (P → Q) → OnOk r P → OnOk r Q
on_ok_map (Ok x) f p = f p
on_ok_map (Err x) f p = tt

pub on_err_map : {X E P Q : Type 0} (r : Result X E) → (P → Q) → OnErr r P → OnErr r Q
on_err_map (Ok x) f p = tt
on_err_map (Err x) f p = f p

pub if_ok_map : {X E : Type 0} {P Q : X → Type 0} (r : Result X E) → ((x : X) → P x → Q x) → IfOk r P → IfOk r Q
if_ok_map (Ok x) f p = f x p
if_ok_map (Err x) f p = tt

-- a name that is not there has room in the spare
pub has_room : (name : List ℕ) (es : List Attr) (i : ℕ) (found : Bool) (spare : ℕ) → IsSpot name es i found → found ≡ false
    → (IsSome (map.find (slice_cmp nat_cmp) name es)) ⊎ (length es < spare) → length es < spare
has_room name es i found spare spot absent (inl there) =
    absurd (false≢true (sym (ap (λ o. is_some o) (spot.value ([], []) ∙ ap (λ b. cond b (Some (get_or es i ([], [])).1) None) absent)) ∙ there))
has_room name es i found spare spot absent (inr room) = room
