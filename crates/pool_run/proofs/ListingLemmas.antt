-- The names of objects with their sizes.
use Rattle.std.proofs.Common.{◌≡◌, ℕ, suc, ◌&&◌, Bool, true, false, cond, T, List, [], ◌∷◌, map, length, refl, sym, ap, subst, ◌∙◌, Option, Some}
use Rattle.std.specs.Fmt.{decimal}
use Rattle.std.specs.List.Sorted.{IsStrictlySortedBy}
use Rattle.std.specs.Map.{keys_of}
use Rattle.std.specs.Option.{option_map}
use Rattle.std.specs.Ordering.{is_eq, is_lt}
use Rattle.std.specs.FinMap as fin
use Rattle.shard_model.specs.Objects.{Named}
use Rattle.shard_model.proofs.PutLemmas.{same_named}
use Rattle.shard_state.proofs.TotalsLemmas.{listed, sorted_of}
use Rattle.ec_model.specs.Codes.{CodeRows}
use Rattle.ec_positions.specs.Objects.{Object, Objects}
use Rattle.ec_positions.specs.Commands.{Done, ListObjects, listing_of}
use Rattle.pool_run.specs.Replies.{shown}
use Rattle.pool_run.specs.Served.{IsServed}
use Rattle.pool_run.specs.Stored.{AreStored, Kept, Stored}
use Rattle.pool_run.specs.declared.reply.Reply.{Reply as CodeReply}
use Rattle.pool_run.proofs.KeptLemmas.{same_size}
use Rattle.pool_run.proofs.MapLemmas.{Entries, by_name}

-- ---- each entry with what its value comes to

module _ {X Z : Type 0} (f : X → Z) where
  abbrev pub entry_to : List ℕ × X → List ℕ × Z
  entry_to e = (e.0, f e.1)

  either : (b : Bool) (x y : Option X) → option_map f (cond b x y) ≡ cond b (option_map f x) (option_map f y)
  either true x y = refl
  either false x y = refl

  find-map : (q : List ℕ) (es : Entries X) → fin.find by_name q (map entry_to es) ≡ option_map f (fin.find by_name q es)
  find-map q [] = refl
  find-map q (e ∷ es) =
      ap (cond (is_eq (by_name q e.0)) (Some (f e.1))) (find-map q es) ∙ sym (either (is_eq (by_name q e.0)) (Some e.1) (fin.find by_name q es))

  below_all-map : (k : List ℕ) (es : Entries X) → fin.Entries.below_all by_name k (map entry_to es) ≡ fin.Entries.below_all by_name k es
  below_all-map k [] = refl
  below_all-map k (e ∷ es) = ap (λ b. is_lt (by_name k e.0) && b) (below_all-map k es)

  is_sorted-map : (es : Entries X) → fin.is_sorted by_name (map entry_to es) ≡ fin.is_sorted by_name es
  is_sorted-map [] = refl
  is_sorted-map (e ∷ es) = λ i. below_all-map e.0 es i && is_sorted-map es i

  sorted-map : (m : Named X) → T (fin.is_sorted by_name (map entry_to (fin.entries m)))
  sorted-map m = subst T (sym (is_sorted-map (fin.entries m))) (fin.entries_sorted m)

  get-map : (m : Named X) (q : List ℕ) → fin.get (fin.from_sorted {R = by_name} (map entry_to (fin.entries m))) q ≡ option_map f (fin.get m q)
  get-map m q =
      fin.get-from_sorted by_name (map entry_to (fin.entries m)) q (sorted-map m) ∙ find-map q (fin.entries m) ∙ ap (option_map f) (sym (fin.get-entries m q))

-- two maps whose values come to the same, name by name, have the same entries then
same_entries : {X Y Z : Type 0} (f : X → Z) (g : Y → Z) (m : Named X) (n : Named Y) → ((q : List ℕ) → option_map f (fin.get m q) ≡ option_map g (fin.get n q))
    → map (entry_to f) (fin.entries m) ≡ map (entry_to g) (fin.entries n)
same_entries f g m n same =
    sym (fin.entries-from_sorted by_name (map (entry_to f) (fin.entries m)) (sorted-map f m))
    ∙ ap fin.entries (same_named (fin.from_sorted {R = by_name} (map (entry_to f) (fin.entries m))) (fin.from_sorted {R = by_name} (map (entry_to g) (fin.entries n)))
    (λ q. get-map f m q ∙ same q ∙ sym (get-map g n q)))
    ∙ fin.entries-from_sorted by_name (map (entry_to g) (fin.entries n)) (sorted-map g n)

-- ---- the listing

-- a name with the size that is kept of its object
abbrev pub sized : List ℕ × Stored → List ℕ × ℕ
sized e = (e.0, e.1.size)

length-map : {X Y : Type 0} (f : X → Y) (es : List X) → length (map f es) ≡ length es
length-map f [] = refl
length-map f (e ∷ es) = ap (λ n. suc n) (length-map f es)

pub list_is_done : (code : CodeRows) (unit : ℕ) (objects : Objects) (kept : Kept) (es : Entries Stored) (answer : CodeReply)
    → kept.objects ≡ fin.from_entries es → IsStrictlySortedBy by_name (keys_of es)
    → shown answer ≡ Done (decimal (length (map sized es))) (map sized es) → AreStored code unit objects kept
    → IsServed code unit (Some ListObjects) kept answer objects
list_is_done code unit objects kept es answer of sorted done stored =
    let all : fin.entries kept.objects ≡ es = ap fin.entries of ∙ listed es (sorted_of es sorted) in
    let same : map sized es ≡ listing_of objects =
    ap (map sized) (sym all) ∙ same_entries (λ (s : Stored). s.size) (λ (o : Object). length o.bytes) kept.objects objects
    (λ q. same_size code unit (fin.get objects q) (fin.get kept.objects q) (stored.each q)) in
    let count : length (map sized es) ≡ fin.len objects = ap (λ (l : List (List ℕ × ℕ)). length l) same ∙ length-map _ (fin.entries objects) ∙ sym (fin.len-entries objects) in
    record { reply = done ∙ (λ i. Done (decimal (count i)) (same i)); kept = stored }
