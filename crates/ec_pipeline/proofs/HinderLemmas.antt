-- Why a slot hinders an update, and that none does if the slots show objects that allow it.
use Rattle.std.proofs.Common.{◌≡◌, ℕ, zero, suc, ◌+◌, ◌*◌, ◌/◌, ◌<◌, ◌≤◌, inl, inr, max, Bool, true, false, not, ◌&&◌, ◌==◌, nat_lt, nat_le, List, [], ◌∷◌, length, take, drop, refl, sym, ap, ◌∙◌, arith, subst, Option, Some, None}
use Rattle.std.specs.FinMap as fin
use Rattle.std.specs.Prelude.{IfSome, IsSomeAnd}
use Rattle.std.proofs.lemmas.Bool.{false≢true}
use Rattle.std.proofs.lemmas.Grind.{common_steps}
use Rattle.std.proofs.lemmas.Nat.{mul-le}
use Rattle.ec_model.specs.Codes.{CodeRows, HasPosition}
use Rattle.ec_model.specs.Stripes.{stripe_count, shard_len}
use Rattle.ec_model.specs.Versions.{Version, is_same}
use Rattle.shard_model.specs.Changes as changes
use Rattle.shard_model.specs.Changes.{Change, fits_change, fits_extent}
use Rattle.shard_model.specs.Limits.{seq_limit}
use Rattle.shard_model.specs.Objects.{Geometry, ShardObject}
use Rattle.shard_model.specs.Shards.{Shard}
use Rattle.shard_model.specs.States.{fits}
use Rattle.shard_model.specs.Steps.{Step}
use Rattle.shard_store.specs.Ranges.{LacksRange, object_bytes}
use Rattle.shard_store.specs.Shelved.{Shelved}
use Rattle.shard_store.specs.Shelves.{store_at}
use Rattle.shard_store.specs.Stored.{told_in}
use Rattle.shard_store.specs.Stories.{shard_after}
use Rattle.shard_store.specs.Told.{Told, IsAccepted, staged_shard}
use Rattle.shard_store.specs.declared.store.Store.{Store}
use Rattle.ec_positions.specs.Laws.{geometry}
use Rattle.ec_positions.specs.Objects.{Object, Objects, bytes_in}
use Rattle.ec_positions.specs.Positions.{position_list, change_of, shard_of, write_of, first_touched, count_touched}
use Rattle.ec_positions.specs.Refusals.{refusal_of}
use Rattle.ec_positions.specs.Updates.{Update, Append, WriteAt, Full, Delete, SetAttr, RemoveAttr, name_of, overlaid}
use Rattle.ec_positions.specs.Windows.{stripes_from}
use Rattle.ec_positions.proofs.LawLemmas.{changes_keep_positions}
use Rattle.ec_positions.proofs.ListLemmas.{length-position_list}
use Rattle.ec_positions.proofs.WindowLemmas.{length-stripes_from}
use Rattle.ec_positions.proofs.WriteLemmas.{first_is}
use Rattle.ec_pipeline.specs.Checking.{IsKnown, MayFollow, next_version}
use Rattle.ec_pipeline.specs.Drafts.{HasShape, HasSize, IsShapedFor, drafted_change, drafted_step, drafted_write, fresh_number, size_or_none}
use Rattle.ec_pipeline.specs.Preparing.{AreReady, Hinders, IsReady}
use Rattle.ec_pipeline.specs.Reading.{LacksStripes}
use Rattle.ec_pipeline.specs.Showing.{IsPosition, ShowsAt}
use Rattle.ec_pipeline.specs.Staging.{HasStagingCause, IsMisfitAt}
use Rattle.ec_pipeline.specs.declared.checking.Checked.{Checked}
use Rattle.ec_pipeline.specs.declared.draft.Draft.{Draft}
use Rattle.ec_pipeline.specs.declared.fault.PrepareFault.TheVariants.{Slot}
use Rattle.ec_pipeline.specs.declared.fault.PrepareFault.{PrepareFault}
use Rattle.ec_pipeline.proofs.ChangeLemmas.{stripes_at, accepted_at}
use Rattle.ec_pipeline.proofs.CheckLemmas.{some_bytes}
use Rattle.ec_pipeline.proofs.DraftLemmas.{size_known, fresh_known, write_drafted}

-- ---- the numbers of a draft

pub shape_none : (k unit : ℕ) (old : Option ℕ) (off len : ℕ) (d : Draft) → len ≡ 0 → d.fresh ≡ fresh_number old → d.size ≡ size_or_none old → d.at ≡ 0 → length d.window.items ≡ 0
    → HasShape k unit old off len d
shape_none k unit old off zero d none fresh size at long = record { fresh_is = fresh; size_is = size; at_is = omega (arith, at); long = omega (arith, long) }
shape_none k unit old off (suc n) d none fresh size at long = absurd (omega (arith, none))

pub shape_some : (k unit : ℕ) (old : Option ℕ) (off len : ℕ) (d : Draft) → 1 ≤ len → d.fresh ≡ fresh_number old → d.size ≡ max (size_or_none old) (off + len)
    → d.at ≡ off / (k * unit) * unit → length d.window.items ≡ count_touched (k * unit) off len * (k * unit) → HasShape k unit old off len d
shape_some k unit old off len d some fresh size at long =
    let pos : 0 < len = omega (arith, some) in
    record {
      fresh_is = fresh;
      size_is = size ∙ sym (some_bytes len (size_or_none old) (max (size_or_none old) (off + len)) pos);
      at_is = at ∙ ap (λ n. n * unit) (sym (first_is (k * unit) off len pos));
      long = long;
    }

-- the place of no bytes is of no account
pub shape_place : (k unit : ℕ) (old : Option ℕ) (off at len : ℕ) (d : Draft) → (len ≡ 0 → at ≡ 0) → (1 ≤ len → at ≡ off) → HasShape k unit old at len d → HasShape k unit old off len d
shape_place k unit old off at zero d none some shape = record { fresh_is = shape.fresh_is; size_is = shape.size_is; at_is = shape.at_is; long = shape.long }
shape_place k unit old off at (suc n) d none some shape = subst (λ place. HasShape k unit old place (suc n) d) (some (omega arith)) shape

-- ---- a step fits by its numbers alone

same_fit : (g : Geometry) (fresh size at : ℕ) (one other : List ℕ) (o : Option ShardObject) → length one ≡ length other
    → fits_change g (changes.Write fresh size at one) o ≡ fits_change g (changes.Write fresh size at other) o
same_fit g fresh size at one other None is = ap (λ n. fresh == 1 && fits_extent g size at n) is
same_fit g fresh size at one other (Some o) is = ap (λ n. fresh == 0 && (nat_le o.size size && fits_extent g size at n)) is

zero_times : (n : ℕ) → 0 * n ≡ 0
zero_times n = grind arith

zero_stripes : (k unit : ℕ) → stripe_count k unit 0 ≡ 0
zero_stripes k unit = grind arith

no_list : (n unit : ℕ) (list : List ℕ) → n ≡ 0 → length (take (n * unit) list) ≡ 0
no_list n unit list none = ap (λ x. length (take (x * unit) list)) none ∙ ap (λ x. length (take x list)) (zero_times unit)

no_shard : (k unit n : ℕ) → n ≡ 0 → shard_len k unit n ≡ 0
no_shard k unit n none = ap (λ x. stripe_count k unit x * unit) none ∙ ap (λ x. x * unit) (zero_stripes k unit) ∙ zero_times unit

write_fits : (code : CodeRows) (unit p off : ℕ) (o : Option Object) (old : Option ℕ) (bytes : List ℕ) (d : Draft) (g : Geometry) (x : Option ShardObject) → 1 ≤ code.k → 1 ≤ unit
    → HasSize o old → HasShape code.k unit old off (length bytes) d → fits_change g (drafted_write code unit p d) x ≡ fits_change g (write_of code unit p o off bytes) x
write_fits code unit p off o old [] d g x some_k some has shape =
    let mine = position_list code unit d.window.items p in
    let theirs = take (count_touched (code.k * unit) off 0 * unit) (drop (first_touched (code.k * unit) off 0 * unit) (position_list code unit (bytes_in o) p)) in
    let long : length mine ≡ length theirs =
    length-position_list code unit d.window.items p ∙ no_shard code.k unit (length d.window.items) (omega (arith, shape.long)) ∙ sym (no_list (count_touched (code.k * unit) off 0) unit _ refl) in
    same_fit g d.fresh d.size d.at mine theirs x long
    ∙ (λ i. fits_change g (changes.Write ((shape.fresh_is ∙ fresh_known o old has) i) ((shape.size_is ∙ size_known o old has) i) (shape.at_is i) theirs) x)
write_fits code unit p off o old (b ∷ rest) d g x some_k some has shape =
    let bytes = b ∷ rest in
    let width = code.k * unit in
    let pos : 0 < length bytes = omega arith in
    let window = stripes_from width (off / width) (count_touched width off (length bytes)) (overlaid off bytes (bytes_in o)) in
    let long : length (position_list code unit d.window.items p) ≡ length (position_list code unit window p) =
    length-position_list code unit d.window.items p
    ∙ ap (shard_len code.k unit) (shape.long ∙ sym (length-stripes_from width (off / width) (count_touched width off (length bytes)) (overlaid off bytes (bytes_in o))))
    ∙ sym (length-position_list code unit window p) in
    let size : d.size ≡ max (length (bytes_in o)) (off + length bytes) =
    shape.size_is ∙ some_bytes (length bytes) (size_or_none old) (max (size_or_none old) (off + length bytes)) pos ∙ ap (λ n. max n (off + length bytes)) (size_known o old has) in
    same_fit g d.fresh d.size d.at (position_list code unit d.window.items p) (position_list code unit window p) x long
    ∙ ap (λ c. fits_change g c x)
    (write_drafted code unit p off o bytes window d.fresh d.size d.at some_k some (omega arith) (shape.fresh_is ∙ fresh_known o old has) size
    (shape.at_is ∙ ap (λ n. n * unit) (first_is width off (length bytes) pos)) refl)

change_fits : (code : CodeRows) (unit p : ℕ) (c : Update) (o : Option Object) (old : Option ℕ) (d : Draft) (g : Geometry) (x : Option ShardObject) → 1 ≤ code.k → 1 ≤ unit
    → HasSize o old → IsShapedFor code.k unit old c d → fits_change g (drafted_change code unit p d c) x ≡ fits_change g (change_of code unit p o c) x
change_fits code unit p (Append name bytes) o old d g x some_k some has shape =
    write_fits code unit p (length (bytes_in o)) o old bytes d g x some_k some has (subst (λ n. HasShape code.k unit old n (length bytes) d) (size_known o old has) shape)
change_fits code unit p (WriteAt name off bytes) o old d g x some_k some has shape = write_fits code unit p off o old bytes d g x some_k some has shape
change_fits code unit p (Full name bytes) o old d g x some_k some has shape = refl
change_fits code unit p (Delete name) o old d g x some_k some has shape = refl
change_fits code unit p (SetAttr name attr value) o old d g x some_k some has shape = refl
change_fits code unit p (RemoveAttr name attr) o old d g x some_k some has shape = refl

-- ---- what follows a head

same_as_itself : (v : Version) → is_same v v ≡ true
same_as_itself v = grind (arith, common_steps)

abbrev follow_test : Bool → Version → Version → Version → Bool
follow_test partial prior head version =
    not partial && (is_same prior head && (version.seq == prior.seq + 1 && (nat_lt version.seq seq_limit && (nat_le 1 version.epoch && nat_le prior.epoch version.epoch))))

follow_next : (partial : Bool) (head : Version) (epoch : ℕ) → partial ≡ false → head.seq + 1 < seq_limit → 1 ≤ epoch → head.epoch ≤ epoch
    → follow_test partial head head (next_version epoch head) ≡ true
follow_next true head epoch whole below some order = absurd (false≢true (sym whole))
follow_next false head epoch whole below some order = grind (arith, common_steps)

both_true : (a b : Bool) → a ≡ true → b ≡ true → (a && b) ≡ true
both_true a b one other = λ i. one i && other i

fits_shard : (code : CodeRows) (unit p : ℕ) (m : Objects) (head : Version) (epoch : ℕ) (c : Update) (d : Draft) (old : Option ℕ) (shard : Shard) → 1 ≤ code.k → 1 ≤ unit → refusal_of m c ≡ None
    → HasSize (fin.get m (name_of c)) old → IsShapedFor code.k unit old c d → shard.geometry ≡ geometry code unit → shard.state.objects ≡ shard_of code unit p m
    → shard.state.partial ≡ false → shard.state.head ≡ head → d.version ≡ next_version epoch head → d.prior ≡ head → head.seq + 1 < seq_limit → 1 ≤ epoch → head.epoch ≤ epoch
    → fits shard.geometry shard.state (drafted_step code unit p d c) ≡ true
fits_shard code unit p m head epoch c d old shard some_k some allowed has shape stripes objects whole at version prior below some_epoch order =
    both_true _ _
    ((λ i. follow_test shard.state.partial (prior i) (at i) (version i)) ∙ follow_next shard.state.partial head epoch whole below some_epoch order)
    ((λ i. fits_change (stripes i) (drafted_change code unit p d c) (fin.get (objects i) (name_of c)))
    ∙ change_fits code unit p c (fin.get m (name_of c)) old d (geometry code unit) (fin.get (shard_of code unit p m) (name_of c)) some_k some has shape
    ∙ (changes_keep_positions code unit p c m some_k some allowed).fit)

none_staged_is : (t : Told) → IsAccepted t → staged_shard t ≡ t.shard
none_staged_is t none = ap (λ staged. shard_after t.shard staged) none

fits_at : (code : CodeRows) (unit p : ℕ) (m : Objects) (head : Version) (epoch : ℕ) (c : Update) (d : Draft) (old : Option ℕ) (o : Option Store) → 1 ≤ code.k → 1 ≤ unit → refusal_of m c ≡ None
    → HasSize (fin.get m (name_of c)) old → IsShapedFor code.k unit old c d → IfSome o (λ store. IsAccepted (told_in store)) → IfSome o (λ store. IsPosition code unit p m (told_in store))
    → IfSome o (λ store. (told_in store).shard.state.partial ≡ false) → IfSome o (λ store. (told_in store).shard.state.head ≡ head)
    → d.version ≡ next_version epoch head → d.prior ≡ head → head.seq + 1 < seq_limit → 1 ≤ epoch → head.epoch ≤ epoch
    → IsMisfitAt o (drafted_step code unit p d c) → ⊥
fits_at code unit p m head epoch c d old None some_k some allowed has shape accepted is whole at version prior below some_epoch order misfit = misfit
fits_at code unit p m head epoch c d old (Some store) some_k some allowed has shape accepted is whole at version prior below some_epoch order misfit =
    false≢true (
    sym misfit
    ∙ ap (λ (s : Shard). fits s.geometry s.state (drafted_step code unit p d c)) (none_staged_is (told_in store) accepted)
    ∙ fits_shard code unit p m head epoch c d old (told_in store).shard some_k some allowed has shape is.geometry_is is.objects_are whole at version prior below some_epoch order)

-- ---- stripes are there

some_stripes : (k unit n count : ℕ) → 1 ≤ count → count ≤ stripe_count k unit n → 0 < n
some_stripes k unit zero count some inside = absurd (omega (arith, zero_stripes k unit, some, inside))
some_stripes k unit (suc n) count some inside = omega arith

stripes_there : (code : CodeRows) (unit p k queued : ℕ) (m : Objects) (name : List ℕ) (old : Option ℕ) (o : Option Store) → IsSomeAnd o (IsReady k queued)
    → IfSome o (λ store. IsPosition code unit p m (told_in store)) → HasSize (fin.get m name) old → LacksStripes code.k unit (size_or_none old) (object_bytes o name) → ⊥
stripes_there code unit p k queued m name old o ready is has lacks =
    let first = lacks.0 in
    let count = lacks.1 in
    let bytes = bytes_in (fin.get m name) in
    let inside : first + count ≤ stripe_count code.k unit (length bytes) = subst (λ n. first + count ≤ stripe_count code.k unit n) (size_known (fin.get m name) old has) lacks.3 in
    let pos : 0 < length bytes = some_stripes code.k unit (length bytes) (first + count) (omega (arith, lacks.2)) inside in
    let list = stripes_at code unit p k queued m name o ready is pos in
    let short : LacksRange (Some (position_list code unit bytes p)) (first * unit) (count * unit) = subst (λ b. LacksRange b (first * unit) (count * unit)) list lacks.4 in
    let rows : (first + count) * unit ≤ shard_len code.k unit (length bytes) = mul-le (first + count) unit (stripe_count code.k unit (length bytes)) unit inside (omega arith) in
    let both : first * unit + count * unit ≡ (first + count) * unit = times first count unit in
    omega (arith, short, rows, both, length-position_list code unit bytes p)
  where
    times : (a b w : ℕ) → a * w + b * w ≡ (a + b) * w
    times a b w = grind arith

pub never_hinders : (code : CodeRows) (unit set k queued : ℕ) (m : Objects) (head : Version) (epoch : ℕ) (c : Update) (shelf : Shelved) (checked : Checked) (s : ℕ) → 1 ≤ code.k → 1 ≤ unit
    → refusal_of m c ≡ None → AreReady k queued set shelf → ShowsAt code unit set m head shelf → MayFollow set shelf epoch head → IsKnown code unit m head epoch c checked → head.seq + 1 < seq_limit
    → Hinders code set shelf c checked s → ⊥
never_hinders code unit set k queued m head epoch c shelf checked s some_k some allowed ready shown follow known below (among, inl lacks) =
    stripes_there code unit s k queued m (name_of c) checked.size (store_at shelf s) (ready s among) (shown.shows.positions s among) known.size_is
    (subst (λ n. LacksStripes n unit (size_or_none checked.size) (object_bytes (store_at shelf s) (name_of c))) known.k_is
    (subst (λ n. LacksStripes checked.g.k n (size_or_none checked.size) (object_bytes (store_at shelf s) (name_of c))) known.unit_is lacks))
never_hinders code unit set k queued m head epoch c shelf checked s some_k some allowed ready shown follow known below (among, inr misfits) =
    fits_at code unit s m head epoch c misfits.draft checked.size (store_at shelf s) some_k some allowed known.size_is
    (subst (λ n. IsShapedFor n unit checked.size c misfits.draft) known.k_is (subst (λ n. IsShapedFor checked.g.k n checked.size c misfits.draft) known.unit_is misfits.shaped))
    (accepted_at k queued (store_at shelf s) (ready s among)) (shown.shows.positions s among) (follow.whole s among) (shown.heads s among)
    (misfits.version_is ∙ known.version_is) (misfits.prior_is ∙ known.prior_is) below follow.some_epoch follow.order
    (subst (λ n. IsMisfitAt (store_at shelf s) (drafted_step code n s misfits.draft c)) known.unit_is misfits.misfit)

pub below_limit : (n : ℕ) → (seq_limit ≤ n → ⊥) → n < seq_limit
below_limit n never = grind arith

-- ---- why a round of steps stops

pub slot_staged : (set : ℕ) (steps : ℕ → Step) (shelf : Shelved) (fault : PrepareFault) (s : ℕ) → HasStagingCause set steps shelf fault → fault ≡ Slot s
    → HasPosition set s × IsMisfitAt (store_at shelf s) (steps s)
slot_staged set steps shelf fault s cause is = subst (HasStagingCause set steps shelf) is cause
