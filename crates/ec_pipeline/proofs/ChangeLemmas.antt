-- An update of all slots, from the objects to the objects after it.
use Rattle.std.proofs.Common.{◌≡◌, ℕ, zero, suc, ◌+◌, ◌*◌, ◌^◌, ◌<◌, ◌≤◌, max, Bool, true, false, if◌then◌else◌, cond, ◌==◌, List, [], ◌∷◌, ◌++◌, length, drop, refl, sym, ap, ◌∙◌, arith, subst, Option, Some, None, length-append}
use Rattle.std.specs.List.{All}
use Rattle.std.specs.FinMap as fin
use Rattle.std.specs.Prelude.{IfSome, IsSomeAnd}
use Rattle.std.proofs.lemmas.Grind.{div_ceil_times, common_steps}
use Rattle.std.proofs.lemmas.List.Elements.{All-take, All-drop, All-append, All-replicate}
use Rattle.std.proofs.lemmas.Nat.{mul-le}
use Rattle.ec_model.specs.Codes.{CodeRows, HasPosition}
use Rattle.ec_model.specs.Stripes.{stripe_count, shard_len}
use Rattle.ec_model.specs.Versions.{Version}
use Rattle.shard_model.specs.Changes as changes
use Rattle.shard_model.specs.Changes.{resized}
use Rattle.shard_model.specs.StepBytes.{step_bytes, steps_bytes}
use Rattle.shard_model.specs.Steps.{Step, Log}
use Rattle.shard_model.proofs.LengthLemmas.{name_short, write_long, replace_long, set_long, entry_long}
use Rattle.shard_model.proofs.PutLemmas.{get-put, is_name}
use Rattle.shard_store.specs.OnSlot.{HasRoomFor}
use Rattle.shard_store.specs.Ranges as ranges
use Rattle.shard_store.specs.Ranges.{object_bytes}
use Rattle.shard_store.specs.Shelved.{Shelved}
use Rattle.shard_store.specs.Shelves.{store_at}
use Rattle.shard_store.specs.Stored.{told_in, room_in}
use Rattle.shard_store.specs.Stories.{shard_after}
use Rattle.shard_store.specs.Told.{Told, IsAccepted, with_step, all_accepted, unflushed_bytes}
use Rattle.shard_store.specs.declared.store.Store.{Store}
use Rattle.ec_positions.specs.Objects.{Object, Objects, bytes_in}
use Rattle.ec_positions.specs.Positions.{position_list, position_change}
use Rattle.ec_positions.specs.Refusals.{refusal_of}
use Rattle.ec_positions.specs.Updates.{Update, Append, WriteAt, Full, Delete, SetAttr, RemoveAttr, name_of, bytes_given, with_attr, object_after, after}
use Rattle.ec_positions.proofs.ListLemmas.{length-position_list}
use Rattle.ec_positions.proofs.MapLemmas.{position_if, get-shard_of}
use Rattle.ec_positions.proofs.WriteLemmas.{some_width}
use Rattle.ec_pipeline.specs.Checking.{next_version, worn_room}
use Rattle.ec_pipeline.specs.Drafts.{drafted_change, drafted_step, drafted_write}
use Rattle.ec_pipeline.specs.Preparing.{HasNames, IsReady, AreReady, Prepared, max_update}
use Rattle.ec_pipeline.specs.Reading.{HasStripesOf}
use Rattle.ec_pipeline.specs.Refusals.{IsSmall}
use Rattle.ec_pipeline.specs.Shelving.{BecomesAt, AreTold, AreSame}
use Rattle.ec_pipeline.specs.Showing.{IsPosition, ShowsAt, entry_step, IsChanged}
use Rattle.ec_pipeline.specs.declared.draft.Draft.{Draft}
use Rattle.ec_pipeline.proofs.CheckLemmas.{some_bytes}
use Rattle.ec_pipeline.proofs.SetLemmas.{position_below}
use Rattle.ec_pipeline.proofs.ShelfLemmas.{stays}
use Rattle.ec_pipeline.proofs.ShowLemmas.{shows_after}

-- ---- lengths of what is given

short_units : (q unit k n : ℕ) → 1 ≤ k → unit ≤ 65536 → q * (k * unit) < n + k * unit → n ≤ 2 ^ 20 → q * unit ≤ 2 ^ 20 + 2 ^ 16
short_units zero unit k n some_k few below short = omega arith
short_units (suc q) unit k n some_k few below short =
    let rows : q * unit * 1 ≤ q * unit * k = mul-le (q * unit) 1 (q * unit) k (omega arith) some_k in
    let same : q * unit * k ≡ q * (k * unit) = times q unit k in
    omega (arith, rows, same, next q (k * unit), next q unit, below, few, short)
  where
    times : (a b c : ℕ) → a * b * c ≡ a * (c * b)
    times a b c = grind arith

    next : (a w : ℕ) → suc a * w ≡ a * w + w
    next a w = grind arith

pub shard_short : (k unit n : ℕ) → 1 ≤ k → 1 ≤ unit → unit ≤ 65536 → n ≤ 2 ^ 20 → shard_len k unit n ≤ 2 ^ 20 + 2 ^ 16
shard_short k unit n some_k some few short = short_units (stripe_count k unit n) unit k n some_k few ((div_ceil_times n (k * unit) (some_width k unit some_k some)).1) short

pub given_short : (c : Update) (old : ℕ) → IsSmall c old → length (bytes_given c) ≤ 2 ^ 20
given_short (Append name bytes) old small = omega (arith, small)
given_short (WriteAt name off []) old small = omega arith
given_short (WriteAt name off (b ∷ bytes)) old small =
    omega (arith, small, some_bytes (length (b ∷ bytes)) old (max old (off + length (b ∷ bytes))) (grind arith))
given_short (Full name bytes) old small = small
given_short (Delete name) old small = omega arith
given_short (SetAttr name attr value) old small = omega arith
given_short (RemoveAttr name attr) old small = omega arith

-- the size that is there is no larger, if bytes are added
pub write_fits : (off old : ℕ) (bytes : List ℕ) → (if length bytes == 0 then old else max old (off + length bytes)) ≤ 2 ^ 20
    → (old ≤ 2 ^ 20) × (1 ≤ length bytes → off + length bytes ≤ 2 ^ 20)
write_fits off old [] small = (small, λ some. absurd (omega (arith, some)))
write_fits off old (b ∷ bytes) small =
    let is = some_bytes (length (b ∷ bytes)) old (max old (off + length (b ∷ bytes))) (grind arith) in
    (omega (arith, small, is), λ _. omega (arith, small, is))

-- ---- how long a step is

pub step_short : (code : CodeRows) (unit p : ℕ) (d : Draft) (c : Update) (old : ℕ) → 1 ≤ code.k → 1 ≤ unit → unit ≤ 65536 → HasNames c → IsSmall c old
    → shard_len code.k unit (length d.window.items) ≤ 2 ^ 20 + 2 ^ 16 → length (step_bytes (drafted_step code unit p d c)) ≤ 2 ^ 21
step_short code unit p d (Append name bytes) old some_k some few named small window =
    omega (
      arith,
      entry_long (record { version = d.version; prior = d.prior; name = name; change = drafted_write code unit p d }),
      name_short name named,
      write_long d.fresh d.size d.at (position_list code unit d.window.items p),
      length-position_list code unit d.window.items p,
      window,
    )
step_short code unit p d (WriteAt name off bytes) old some_k some few named small window =
    omega (
      arith,
      entry_long (record { version = d.version; prior = d.prior; name = name; change = drafted_write code unit p d }),
      name_short name named,
      write_long d.fresh d.size d.at (position_list code unit d.window.items p),
      length-position_list code unit d.window.items p,
      window,
    )
step_short code unit p d (Full name bytes) old some_k some few named small window =
    omega (
      arith,
      entry_long (record { version = d.version; prior = d.prior; name = name; change = changes.Replace (length bytes) (position_list code unit bytes p) }),
      name_short name named,
      replace_long (length bytes) (position_list code unit bytes p),
      length-position_list code unit bytes p,
      shard_short code.k unit (length bytes) some_k some few small,
    )
step_short code unit p d (Delete name) old some_k some few named small window =
    omega (arith, entry_long (record { version = d.version; prior = d.prior; name = name; change = changes.Remove }), name_short name named)
step_short code unit p d (SetAttr name attr value) old some_k some few named small window =
    omega (arith, entry_long (record { version = d.version; prior = d.prior; name = name; change = changes.SetAttr attr value }), name_short name named.0, name_short attr named.1, set_long attr value, small)
step_short code unit p d (RemoveAttr name attr) old some_k some few named small window =
    omega (arith, entry_long (record { version = d.version; prior = d.prior; name = name; change = changes.RemoveAttr attr }), name_short name named.0, name_short attr named.1)

-- ---- room

unflushed_is : (t : Told) → IsAccepted t → length (unflushed_bytes t) ≡ length t.pending
unflushed_is t none = ap (λ staged. length (t.pending ++ steps_bytes staged)) none ∙ length-append t.pending [] ∙ omega arith

pub room_at : (k queued : ℕ) (step : Step) (o : Option Store) → queued < 16 → length (step_bytes step) ≤ max_update → IsSomeAnd o (IsReady k queued) → IfSome o (λ store. worn_room ≤ room_in store)
    → IfSome o (HasRoomFor step)
room_at k queued step None few short ready room = tt
room_at k queued step (Some store) few short ready room =
    let long = unflushed_is (told_in store) ready.accepted in
    let old = ready.short in
    record { short = omega (arith, long, old, few, short); room = omega (arith, long, old, few, short, room) }

pub accepted_at : (k queued : ℕ) (o : Option Store) → IsSomeAnd o (IsReady k queued) → IfSome o (λ store. IsAccepted (told_in store))
accepted_at k queued None ready = tt
accepted_at k queued (Some store) ready = ready.accepted

-- ---- after it

entered_long : (t : Told) (step : Step) → IsAccepted t → length (all_accepted (with_step t step)).pending ≡ length t.pending + length (step_bytes step)
entered_long t step none =
    ap (λ staged. length (t.pending ++ steps_bytes (staged ++ step ∷ []))) none
    ∙ length-append t.pending (step_bytes step ++ [])
    ∙ ap (λ n. length t.pending + n) (length-append (step_bytes step) [] ∙ omega arith)

same_stripes : (t : Told) (step : Step) → IsAccepted t → (all_accepted (with_step t step)).shard.geometry ≡ t.shard.geometry
same_stripes t step none = ap (λ staged. (shard_after t.shard (staged ++ step ∷ [])).geometry) none

pub ready_then : (k queued : ℕ) (step : Step) (old new : Option Store) → length (step_bytes step) ≤ max_update → IsSomeAnd old (IsReady k queued)
    → BecomesAt (λ t. all_accepted (with_step t step)) old new → IsSomeAnd new (IsReady k (queued + 1))
ready_then k queued step None new short ready told = absurd ready
ready_then k queued step (Some old) None short ready told = absurd told
ready_then k queued step (Some old) (Some new) short ready told = record {
  k_is = ap (λ (t : Told). t.shard.geometry.k) told.story ∙ ap (λ g. g.k) (same_stripes (told_in old) step ready.accepted) ∙ ready.k_is;
  accepted = ap (λ (t : Told). t.staged) told.story;
  short = let long = ap (λ (t : Told). length t.pending) told.story ∙ entered_long (told_in old) step ready.accepted in
      let before = ready.short in
      more (length (told_in new).pending) (length (told_in old).pending) (length (step_bytes step)) long before short;
}
  where
    more : (n o s : ℕ) → n ≡ o + s → o ≤ queued * 2 ^ 21 → s ≤ 2 ^ 21 → n ≤ (queued + 1) * 2 ^ 21
    more n o s is before small = omega (arith, is, before, small)

-- ---- what the slots show

abbrev Bytes : List ℕ → Type 0
Bytes = All (λ b. b < 2 ^ 8)

some_list : (n : ℕ) (a b : List ℕ) → 0 < n → (if n == 0 then a else b) ≡ b
some_list n a b some = grind (arith, common_steps)

no_list : Bytes []
no_list = All-replicate (λ b. b < 2 ^ 8) 0 0 (omega arith)

same_bytes : (attr : List ℕ) (value : Option (List ℕ)) (o : Option Object) → bytes_in (with_attr attr value o) ≡ bytes_in o
same_bytes attr value None = refl
same_bytes attr value (Some o) = refl

bytes_there : (o : Option Object) (c : Update) → Bytes (bytes_in o) → Bytes (bytes_given c) → Bytes (bytes_in (object_after c o))
bytes_there o (Append name bytes) old given = All-append (λ b. b < 2 ^ 8) (bytes_in o) bytes old given
bytes_there o (WriteAt name off []) old given = old
bytes_there o (WriteAt name off (b ∷ bytes)) old given =
    let all = b ∷ bytes in
    subst Bytes (sym (some_list (length all) (bytes_in o) (resized off (bytes_in o) ++ all ++ drop (off + length all) (bytes_in o)) (grind arith)))
    (All-append (λ b. b < 2 ^ 8) (resized off (bytes_in o) ++ all) (drop (off + length all) (bytes_in o))
    (All-append (λ b. b < 2 ^ 8) (resized off (bytes_in o)) all
    (All-append (λ b. b < 2 ^ 8) _ _ (All-take (λ b. b < 2 ^ 8) off (bytes_in o) old) (All-replicate (λ b. b < 2 ^ 8) _ 0 (omega arith)))
    given)
    (All-drop (λ b. b < 2 ^ 8) (off + length all) (bytes_in o) old))
bytes_there o (Full name bytes) old given = given
bytes_there o (Delete name) old given = no_list
bytes_there o (SetAttr name attr value) old given = subst Bytes (sym (same_bytes attr (Some value) o)) old
bytes_there o (RemoveAttr name attr) old given = subst Bytes (sym (same_bytes attr None o)) old

either : (b : Bool) (x y : Option Object) → Bytes (bytes_in x) → Bytes (bytes_in y) → Bytes (bytes_in (cond b x y))
either true x y one other = one
either false x y one other = other

pub bytes_after : (m : Objects) (c : Update) → ((name : List ℕ) → Bytes (bytes_in (fin.get m name))) → Bytes (bytes_given c)
    → (name : List ℕ) → Bytes (bytes_in (fin.get (after m c) name))
bytes_after m c old given name =
    subst (λ o. Bytes (bytes_in o)) (sym (get-put m (name_of c) (object_after c (fin.get m (name_of c))) name))
    (either (is_name name (name_of c)) (object_after c (fin.get m (name_of c))) (fin.get m name) (bytes_there (fin.get m (name_of c)) c (old (name_of c)) given) (old name))

list_there : (code : CodeRows) (unit p : ℕ) (o : Option Object) → 0 < length (bytes_in o) → ranges.bytes_in (position_if code unit p o) ≡ Some (position_list code unit (bytes_in o) p)
list_there code unit p None some = absurd (omega (arith, some))
list_there code unit p (Some o) some = refl

pub stripes_at : (code : CodeRows) (unit p k queued : ℕ) (m : Objects) (name : List ℕ) (o : Option Store) → IsSomeAnd o (IsReady k queued) → IfSome o (λ store. IsPosition code unit p m (told_in store))
    → 0 < length (bytes_in (fin.get m name)) → object_bytes o name ≡ Some (position_list code unit (bytes_in (fin.get m name)) p)
stripes_at code unit p k queued m name None ready is some = absurd ready
stripes_at code unit p k queued m name (Some store) ready is some =
    ap (λ objects. ranges.bytes_in (fin.get objects name)) is.objects_are ∙ ap ranges.bytes_in (get-shard_of code unit p m name) ∙ list_there code unit p (fin.get m name) some

pub stripes_shown : (code : CodeRows) (unit set k queued : ℕ) (m : Objects) (head : Version) (name : List ℕ) (shelf : Shelved) → AreReady k queued set shelf → ShowsAt code unit set m head shelf
    → HasStripesOf code unit set shelf name (bytes_in (fin.get m name))
stripes_shown code unit set k queued m head name shelf ready shown s has some =
    stripes_at code unit s k queued m name (store_at shelf s) (ready s has) (shown.shows.positions s has) some

-- ---- all together

head_then : (step : Step) (version : Version) (old new : Option Store) → IfSome old (λ store. IsAccepted (told_in store))
    → ((t : Told) → IsAccepted t → (all_accepted (with_step t step)).shard.state.head ≡ version)
    → BecomesAt (λ t. all_accepted (with_step t step)) old new → IfSome new (λ store. (told_in store).shard.state.head ≡ version)
head_then step version None new accepted is told = subst (λ (o : Option Store). IfSome o (λ store. (told_in store).shard.state.head ≡ version)) (sym told) tt
head_then step version (Some old) None accepted is told = absurd told
head_then step version (Some old) (Some new) accepted is told = ap (λ (t : Told). t.shard.state.head) told.story ∙ is (told_in old) accepted

entry_head : (code : CodeRows) (unit p : ℕ) (version prior : Version) (c : Update) (m : Objects) (t : Told) → IsAccepted t
    → (all_accepted (with_step t (entry_step code unit p version prior c m))).shard.state.head ≡ version
entry_head code unit p version prior c m t none = ap (λ staged. (shard_after t.shard (staged ++ entry_step code unit p version prior c m ∷ [])).state.head) none

step_same : (code : CodeRows) (unit p : ℕ) (d : Draft) (version prior : Version) (c : Update) (m : Objects) → d.version ≡ version → d.prior ≡ prior
    → drafted_change code unit p d c ≡ position_change code unit p c m → drafted_step code unit p d c ≡ entry_step code unit p version prior c m
step_same code unit p d version prior c m new old change = λ i. Log (record { version = new i; prior = old i; name = name_of c; change = change i })

pub prepared : (code : CodeRows) (unit set k queued : ℕ) (m : Objects) (head : Version) (epoch : ℕ) (c : Update) (d : Draft) (old mid new : Shelved) → 1 ≤ code.k → 1 ≤ unit → set < 2 ^ 16
    → refusal_of m c ≡ None → Bytes (bytes_given c) → AreReady k queued set old → ShowsAt code unit set m head old → ((s : ℕ) → store_at mid s ≡ store_at old s)
    → d.version ≡ next_version epoch head → d.prior ≡ head → ((p : ℕ) → drafted_change code unit p d c ≡ position_change code unit p c m)
    → AreTold (λ s t. all_accepted (with_step t (drafted_step code unit s d c))) set 16 mid new → Prepared code unit set m head epoch c old new
prepared code unit set k queued m head epoch c d old mid new some_k some few allowed given ready shown same version prior change told =
    record {
      allowed = allowed;
      entries = entries;
      shown = record {
        shows = shows_after code unit set (next_version epoch head) head c m old new some_k some allowed (bytes_after m c shown.shows.bytes given) accepted shown.shows entries;
        heads = λ s has. head_then (entry_step code unit s (next_version epoch head) head c m) (next_version epoch head) (store_at old s) (store_at new s) (accepted s has)
            (entry_head code unit s (next_version epoch head) head c m) (entries.inside s has);
      };
    }
  where
    accepted : (s : ℕ) → HasPosition set s → IfSome (store_at old s) (λ store. IsAccepted (told_in store))
    accepted s has = accepted_at k queued (store_at old s) (ready s has)

    entries : IsChanged code unit set (next_version epoch head) head c m old new
    entries = record {
      inside = λ s has.
          subst (λ step. BecomesAt (λ t. all_accepted (with_step t step)) (store_at old s) (store_at new s)) (step_same code unit s d (next_version epoch head) head c m version prior (change s))
          (subst (λ o. BecomesAt (λ t. all_accepted (with_step t (drafted_step code unit s d c))) o (store_at new s)) (same s) (told.inside s (position_below 16 set s few has) has));
      outside = λ s lacks. told.outside s (λ _ has. lacks has) ∙ same s;
    }

pub unchanged_then : (old mid new : Shelved) → ((s : ℕ) → store_at mid s ≡ store_at old s) → AreSame mid new → (s : ℕ) → BecomesAt (λ t. t) (store_at old s) (store_at new s)
unchanged_then old mid new same all s = subst (λ o. BecomesAt (λ t. t) o (store_at new s)) (same s) (all.stores s)

pub unchanged_same : (old new : Shelved) → ((s : ℕ) → store_at new s ≡ store_at old s) → (s : ℕ) → BecomesAt (λ t. t) (store_at old s) (store_at new s)
unchanged_same old new same s = subst (BecomesAt (λ t. t) (store_at old s)) (sym (same s)) (stays (store_at old s))
