-- What the lowest slot tells of an object, and what it is.
use Rattle.std.proofs.Common.{◌≡◌, ◌+◌, inl, inr, is_none, length, Result, Ok, Err, ℕ, ◌*◌, ◌<◌, ◌≤◌, List, [], ◌∷◌, refl, sym, ap, ◌∙◌, arith, subst, Option, Some, None}
use Rattle.std.specs.FinMap as fin
use Rattle.std.specs.Prelude.{IfSome, IsSomeAnd}
use Rattle.std.proofs.lemmas.Bool.{false≢true}
use Rattle.std.proofs.lemmas.Grind.{common_steps}
use Rattle.std.proofs.lemmas.List.{take_all}
use Rattle.ec_model.specs.Stripes.{shard_len}
use Rattle.shard_store.specs.Ranges as ranges
use Rattle.shard_store.specs.Ranges.{LacksRange, object_bytes, range_of}
use Rattle.shard_store.specs.Told.{IsAccepted}
use Rattle.ec_positions.specs.Objects.{Object, bytes_in}
use Rattle.ec_positions.specs.Positions.{position_list}
use Rattle.ec_positions.proofs.ListLemmas.{length-position_list}
use Rattle.ec_positions.proofs.MapLemmas.{position_if, get-shard_of}
use Rattle.ec_pipeline.specs.Reading.{GiveRange}
use Rattle.ec_pipeline.specs.declared.fault.PrepareFault.TheVariants as preparing
use Rattle.ec_pipeline.specs.declared.fault.PrepareFault.{PrepareFault}
use Rattle.ec_pipeline.specs.declared.fault.ReadFault.TheVariants as reading
use Rattle.ec_pipeline.specs.declared.fault.ReadFault.{ReadFault}
use Rattle.ec_pipeline.proofs.PrepareLemmas.{IsPlain}
use Rattle.ec_pipeline.proofs.StripeLemmas.{in_range}
use Rattle.ec_model.specs.Codes.{CodeRows, HasPosition}
use Rattle.ec_model.specs.Versions.{Version}
use Rattle.shard_model.specs.Limits.{max_size}
use Rattle.shard_model.specs.Objects.{ShardObject, Geometry, AreHeld, MayBeHeld}
use Rattle.shard_model.specs.Shards.{Shard, stepped}
use Rattle.shard_model.specs.Steps.{Step}
use Rattle.shard_model.proofs.ReplayLemmas.{replayed_held}
use Rattle.shard_model.proofs.StepLemmas.{whole_replay}
use Rattle.shard_store.specs.Shelved.{Shelved}
use Rattle.shard_store.specs.Shelves.{store_at}
use Rattle.shard_store.specs.Stored.{told_in}
use Rattle.shard_store.specs.Stories.{fresh_shard, shard_after}
use Rattle.shard_store.specs.Told.{Told, IsSound}
use Rattle.shard_store.specs.declared.store.Store.{Store}
use Rattle.shard_store.proofs.LawLemmas.{shard_is_replay}
use Rattle.ec_positions.specs.Objects.{Objects}
use Rattle.ec_pipeline.specs.Drafts.{HasSize, size_if, size_or_none}
use Rattle.ec_pipeline.specs.Finding.{AreReadable, IsFound, IsFoundIn, IsReadable, LacksFound, bytes_if, read_fault}
use Rattle.ec_pipeline.specs.Showing.{IsPosition, ShowsAt}
use Rattle.ec_pipeline.proofs.CheckLemmas.{size_told}

-- ---- how large an object is

stripes_after : (s : Shard) (steps : List Step) → (shard_after s steps).geometry ≡ s.geometry
stripes_after s [] = refl
stripes_after s (step ∷ steps) = stripes_after (stepped s step) steps

all_held : (t : Told) → IsSound t → 0 < t.shard.geometry.k * t.shard.geometry.unit → AreHeld t.shard.geometry t.shard.state.objects
all_held t sound positive =
    let g = t.geometry in
    let steps = sound.replayed.steps in
    let led = sound.replayed.led in
    let same : t.shard.geometry ≡ g = ap (λ (s : Shard). s.geometry) led ∙ stripes_after (fresh_shard g) steps in
    let some : 0 < g.k * g.unit = subst (λ (x : Geometry). 0 < x.k * x.unit) same positive in
    let replay = shard_is_replay g some steps sound.replayed.fitting in
    let whole = whole_replay g some steps replay.0 replay.1 in
    subst (λ (s : Shard). AreHeld s.geometry s.state.objects) (sym (led ∙ replay.2)) (replayed_held g some replay.0.base replay.0.entries whole.held whole.fitting)

small_size : (g : Geometry) (o : Option ShardObject) → MayBeHeld g o → size_or_none (size_if o) ≤ max_size
small_size g None held = omega arith
small_size g (Some o) held = held.small

pub small_found : (t : Told) (name : List ℕ) (shard : Shard) (k unit : ℕ) (size : Option ℕ) → IsSound t → shard ≡ t.shard → IsFoundIn shard name k unit size → 0 < k * unit
    → size_or_none size ≤ max_size
small_found t name shard k unit size sound same found positive =
    let some : 0 < shard.geometry.k * shard.geometry.unit = subst (λ x. 0 < x * shard.geometry.unit) found.k_is (subst (λ x. 0 < k * x) found.unit_is positive) in
    let held = all_held t sound (subst (λ (s : Shard). 0 < s.geometry.k * s.geometry.unit) same some) in
    subst (λ x. size_or_none x ≤ max_size) (sym (found.size_is ∙ ap (λ (s : Shard). size_if (fin.get s.state.objects name)) same)) (small_size t.shard.geometry (fin.get t.shard.state.objects name) (held name))

-- ---- what the lowest slot tells

pub found_told : (set : ℕ) (shelf : Shelved) (name : List ℕ) (k unit : ℕ) (size : Option ℕ) (lead : ℕ) → HasPosition set lead → ((s : ℕ) → s < lead → HasPosition set s → ⊥)
    → (store : Store) → Some store ≡ store_at shelf lead → (shard : Shard) → shard ≡ (told_in store).shard → IsFoundIn shard name k unit size → IsFound set shelf name k unit size
found_told set shelf name k unit size lead has lowest store is shard same found = record {
  lead = lead;
  among = has;
  least = lowest;
  told = subst (λ (o : Option Store). IsSomeAnd o (λ store. IsFoundIn (told_in store).shard name k unit size)) is (subst (λ (s : Shard). IsFoundIn s name k unit size) same found);
}

found_at : (code : CodeRows) (unit p : ℕ) (m : Objects) (name : List ℕ) (k u : ℕ) (size : Option ℕ) (o : Option Store) → IsSomeAnd o (λ store. IsFoundIn (told_in store).shard name k u size)
    → IfSome o (λ store. IsPosition code unit p m (told_in store)) → (k ≡ code.k) × (u ≡ unit) × HasSize (fin.get m name) size
found_at code unit p m name k u size None found is = absurd found
found_at code unit p m name k u size (Some store) found is = (
  found.k_is ∙ ap (λ (g : Geometry). g.k) is.geometry_is,
  found.unit_is ∙ ap (λ (g : Geometry). g.unit) is.geometry_is,
  size_told code unit p m (told_in store).shard.state.objects name size is.objects_are found.size_is,
)

pub found_shown : (code : CodeRows) (unit set : ℕ) (m : Objects) (head : Version) (shelf : Shelved) (name : List ℕ) (k u : ℕ) (size : Option ℕ) → IsFound set shelf name k u size
    → ShowsAt code unit set m head shelf → (k ≡ code.k) × (u ≡ unit) × HasSize (fin.get m name) size
found_shown code unit set m head shelf name k u size found shown =
    found_at code unit found.lead m name k u size (store_at shelf found.lead) found.told (shown.shows.positions found.lead found.among)

-- ---- what may be read

readable_at : (k : ℕ) (o : Option Store) → IsSomeAnd o (IsReadable k) → IsSomeAnd o (λ store. IsAccepted (told_in store))
readable_at k None readable = readable
readable_at k (Some store) readable = readable.accepted

pub all_accepted_there : (k set : ℕ) (shelf : Shelved) → AreReadable k set shelf → (s : ℕ) → HasPosition set s → IsSomeAnd (store_at shelf s) (λ store. IsAccepted (told_in store))
all_accepted_there k set shelf readable s has = readable_at k (store_at shelf s) (readable s has)

stripes_at : (name : List ℕ) (k u n : ℕ) (size : Option ℕ) (o : Option Store) → IsSomeAnd o (λ store. IsFoundIn (told_in store).shard name k u size) → IsSomeAnd o (IsReadable n) → k ≡ n
stripes_at name k u n size None found readable = absurd found
stripes_at name k u n size (Some store) found readable = found.k_is ∙ readable.stripes_are

pub found_stripes : (set : ℕ) (shelf : Shelved) (name : List ℕ) (k u n : ℕ) (size : Option ℕ) → IsFound set shelf name k u size → AreReadable n set shelf → k ≡ n
found_stripes set shelf name k u n size found readable = stripes_at name k u n size (store_at shelf found.lead) found.told (readable found.lead found.among)

-- ---- the bytes of an object

no_size : (size : ℕ) → Some size ≡ None → ⊥
no_size size is = false≢true (ap is_none is)

pub bytes_there : (o : Option Object) (size : ℕ) → HasSize o (Some size) → bytes_if o ≡ Some (bytes_in o)
bytes_there None size has = absurd (no_size size has)
bytes_there (Some object) size has = refl

abbrev some_number : Option ℕ → ℕ
some_number None = 0
some_number (Some n) = n

pub size_there : (o : Option Object) (size : ℕ) → HasSize o (Some size) → length (bytes_in o) ≡ size
size_there None size has = absurd (no_size size has)
size_there (Some object) size has = sym (ap some_number has)

pub none_there : (o : Option Object) → HasSize o None → o ≡ None
none_there None has = refl
none_there (Some object) has = absurd (false≢true (sym (ap is_none has)))

pub some_there : (o : Option Object) (size : ℕ) → HasSize o (Some size) → o ≡ None → ⊥
some_there None size has is = no_size size has
some_there (Some object) size has is = false≢true (ap is_none is)

whole_range : (list : List ℕ) (n : ℕ) → length list ≡ n → range_of (Some list) 0 n ≡ Some list
whole_range list n long = in_range list 0 n (omega (arith, long)) ∙ ap (λ l. Some l) (take_all n list (omega (arith, long)))

range_at : (code : CodeRows) (unit p : ℕ) (m : Objects) (name : List ℕ) (size : ℕ) (o : Option Object) (at : Option Store) → fin.get m name ≡ o → HasSize o (Some size)
    → IsSomeAnd at (IsReadable code.k) → IfSome at (λ store. IsPosition code unit p m (told_in store))
    → range_of (object_bytes at name) 0 (shard_len code.k unit (length (bytes_in o))) ≡ Some (position_list code unit (bytes_in o) p)
range_at code unit p m name size o None same has readable is = absurd readable
range_at code unit p m name size None (Some store) same has readable is = absurd (no_size size has)
range_at code unit p m name size (Some object) (Some store) same has readable is =
    let n = shard_len code.k unit (length object.bytes) in
    ap (λ objects. range_of (ranges.bytes_in (fin.get objects name)) 0 n) is.objects_are
    ∙ ap (λ x. range_of (ranges.bytes_in x) 0 n) (get-shard_of code unit p m name)
    ∙ ap (λ x. range_of (ranges.bytes_in (position_if code unit p x)) 0 n) same
    ∙ whole_range (position_list code unit object.bytes p) n (length-position_list code unit object.bytes p)

pub object_given : (code : CodeRows) (unit set : ℕ) (m : Objects) (head : Version) (shelf : Shelved) (name : List ℕ) (size : ℕ) → AreReadable code.k set shelf → ShowsAt code unit set m head shelf
    → HasSize (fin.get m name) (Some size) → GiveRange code unit set shelf name 0 (bytes_in (fin.get m name))
object_given code unit set m head shelf name size readable shown has s there =
    range_at code unit s m name size (fin.get m name) (store_at shelf s) refl has (readable s there) (shown.shows.positions s there)

-- ---- no slot lacks them

past_range : (list : List ℕ) (n : ℕ) → length list < 0 + n → range_of (Some list) 0 n ≡ None
past_range list n short = grind (arith, common_steps)

lacks_not : (b : Option (List ℕ)) (n : ℕ) (list : List ℕ) → range_of b 0 n ≡ Some list → LacksRange b 0 n → ⊥
lacks_not None n list is lacks = false≢true (sym (ap is_none is))
lacks_not (Some bytes) n list is lacks = false≢true (sym (ap is_none (sym (past_range bytes n lacks) ∙ is)))

pub never_lacks : (code : CodeRows) (unit set : ℕ) (m : Objects) (head : Version) (shelf : Shelved) (name : List ℕ) (s : ℕ) → AreReadable code.k set shelf → ShowsAt code unit set m head shelf
    → LacksFound set shelf name s → ⊥
never_lacks code unit set m head shelf name s readable shown lacks =
    let there = found_shown code unit set m head shelf name lacks.k lacks.unit (Some lacks.size) lacks.found shown in
    let list = object_given code unit set m head shelf name lacks.size readable shown there.2 s lacks.among in
    lacks_not (object_bytes (store_at shelf s) name) (shard_len code.k unit (length (bytes_in (fin.get m name)))) (position_list code unit (bytes_in (fin.get m name)) s) list
    (subst (λ n. LacksRange (object_bytes (store_at shelf s) name) 0 (shard_len code.k unit n)) (sym (size_there (fin.get m name) lacks.size there.2))
    (subst (λ u. LacksRange (object_bytes (store_at shelf s) name) 0 (shard_len code.k u lacks.size)) there.1
    (subst (λ k. LacksRange (object_bytes (store_at shelf s) name) 0 (shard_len k lacks.unit lacks.size)) there.0 lacks.lacks)))

-- ---- faults

abbrev pub read_failed : (T : Type 0) → ReadFault → Result T ReadFault
read_failed T why = Err why

abbrev read_or : {T : Type 0} → ReadFault → Result T ReadFault → ReadFault
read_or why (Ok done) = why
read_or why (Err other) = other

abbrev pub read_done : (T : Type 0) → T → Result T ReadFault
read_done T done = Ok done

abbrev slot_named : ReadFault → Option ℕ
slot_named (reading.Slot s) = Some s
slot_named others = None

abbrev is_absent : ReadFault → Option ℕ
is_absent reading.Absent = Some 0
is_absent others = None

-- a slot that is named was named by the range that was read
pub slot_read : (T : Type 0) (fault : PrepareFault) (s : ℕ) → IsPlain fault → read_failed T (read_fault fault) ≡ read_failed T (reading.Slot s) → fault ≡ preparing.Slot s
slot_read T fault s (inl is) e = absurd (false≢true (sym (ap is_none (sym (ap (λ f. slot_named (read_fault f)) is) ∙ ap slot_named (ap (read_or reading.NoMemory) e)))))
slot_read T fault s (inr (q, is)) e =
    let same : Some q ≡ Some s = sym (ap (λ f. slot_named (read_fault f)) is) ∙ ap slot_named (ap (read_or reading.NoMemory) e) in
    is ∙ ap preparing.Slot (ap some_number same)

pub slot_told : (T : Type 0) (fault : PrepareFault) (s : ℕ) → fault ≡ preparing.Slot s → read_failed T (read_fault fault) ≡ read_failed T (reading.Slot s)
slot_told T fault s is = ap (λ f. read_failed T (read_fault f)) is

-- such a fault is not that the object is absent
pub not_absent : (T : Type 0) (fault : PrepareFault) → IsPlain fault → read_failed T (read_fault fault) ≡ read_failed T reading.Absent → ⊥
not_absent T fault (inl is) e = false≢true (ap is_none (sym (ap is_absent (ap (read_or reading.NoMemory) e)) ∙ ap (λ f. is_absent (read_fault f)) is))
not_absent T fault (inr (q, is)) e = false≢true (ap is_none (sym (ap is_absent (ap (read_or reading.NoMemory) e)) ∙ ap (λ f. is_absent (read_fault f)) is))

-- nor is an answer
pub ok_not_absent : (T : Type 0) (done : T) → read_done T done ≡ read_failed T reading.Absent → ⊥
ok_not_absent T done e = false≢true (sym (ap (λ r. is_none (is_absent (read_or reading.NoMemory r))) e))
