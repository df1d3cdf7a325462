-- What one shard tells of an update.
use Rattle.std.proofs.Common.{◌≡◌, ℕ, ◌+◌, ◌-◌, ◌^◌, ◌<◌, ◌≤◌, min, max, true, if◌then◌else◌, ◌==◌, Result, Ok, Err, IfOk, List, [], ◌∷◌, ◌++◌, length, refl, sym, ap, ◌∙◌, arith, subst, inl, inr, Option, Some, None}
use Rattle.std.specs.FinMap as fin
use Rattle.std.specs.Prelude.{IfSome, IsSomeAnd}
use Rattle.std.proofs.lemmas.Bool.{false≢true}
use Rattle.std.proofs.lemmas.Grind.{common_steps}
use Rattle.std.proofs.lemmas.List.{places}
use Rattle.ec_model.specs.Codes.{CodeRows, HasPosition}
use Rattle.ec_model.specs.Versions.{Version}
use Rattle.shard_model.specs.Limits.{max_size}
use Rattle.shard_model.specs.Objects.{ShardObjects}
use Rattle.shard_model.specs.Shards.{Shard}
use Rattle.shard_store.specs.Shelved.{Shelved}
use Rattle.shard_store.specs.Shelves.{store_at}
use Rattle.shard_store.specs.Stored.{told_in, room_in}
use Rattle.shard_store.specs.declared.store.Store.{Store}
use Rattle.ec_positions.specs.Laws.{geometry}
use Rattle.ec_positions.specs.Objects.{Object, Objects, bytes_in}
use Rattle.ec_positions.specs.Updates.{Update, Append, WriteAt, Full, Delete, SetAttr, RemoveAttr, name_of, object_after, puts_bytes}
use Rattle.ec_positions.specs.Positions.{shard_of}
use Rattle.ec_positions.proofs.MapLemmas.{position_if, get-shard_of}
use Rattle.ec_positions.proofs.WriteLemmas.{length-overlaid}
use Rattle.ec_pipeline.specs.Drafts.{HasSize, size_if, size_or_none}
use Rattle.ec_pipeline.proofs.SetLemmas.{position_below}
use Rattle.ec_pipeline.specs.Checking.{next_version, IsWorn, IsKnown, IsToldBy, IsToldByLead}
use Rattle.ec_pipeline.specs.Sizes.{new_size_of}
use Rattle.ec_pipeline.specs.declared.checking.Checked.{Checked}
use Rattle.ec_pipeline.specs.declared.fault.PrepareFault.{PrepareFault}
use Rattle.ec_pipeline.specs.Showing.{IsPosition, ShowsAt}
use Rattle.ec_pipeline.specs.Refusals.{IsRefusalFor, IsRefusalOfPut, IsSmall}
use Rattle.ec_pipeline.specs.declared.fault.Refusal.{Refusal as Why}

-- a choice by whether there are bytes
pub some_bytes : (n a b : ℕ) → 0 < n → (if n == 0 then a else b) ≡ b
some_bytes n a b some = grind (arith, common_steps)

-- the size that a update gives an object
pub new_size_is : (c : Update) (o : Option Object) → puts_bytes c ≡ true → length (bytes_in (object_after c o)) ≡ new_size_of c (length (bytes_in o))
new_size_is (Append name bytes) o is = appended (bytes_in o) bytes
  where
    appended : (a b : List ℕ) → length (a ++ b) ≡ length a + length b
    appended a b = grind (arith, places)
new_size_is (WriteAt name off []) o is = refl
new_size_is (WriteAt name off (b ∷ bytes)) o is = length-overlaid off (b ∷ bytes) (bytes_in o) (grind arith) ∙ turned (off + length (b ∷ bytes)) (length (bytes_in o)) ∙ sym (some_bytes (length (b ∷ bytes)) (length (bytes_in o)) (max (length (bytes_in o)) (off + length (b ∷ bytes))) (grind arith))
  where
    turned : (a b : ℕ) → max a b ≡ max b a
    turned a b = grind arith
new_size_is (Full name bytes) o is = refl
new_size_is (Delete name) o is = absurd (false≢true is)
new_size_is (SetAttr name attr value) o is = absurd (false≢true is)
new_size_is (RemoveAttr name attr) o is = absurd (false≢true is)

-- the size that a shard tells is that of the object
pub size_meant : (code : CodeRows) (unit p : ℕ) (o : Option Object) → HasSize o (size_if (position_if code unit p o))
size_meant code unit p None = refl
size_meant code unit p (Some o) = refl

pub size_told : (code : CodeRows) (unit p : ℕ) (m : Objects) (shard : ShardObjects) (name : List ℕ) (size : Option ℕ) → shard ≡ shard_of code unit p m
    → size ≡ size_if (fin.get shard name) → HasSize (fin.get m name) size
size_told code unit p m shard name size is told =
    subst (HasSize (fin.get m name)) (sym (told ∙ ap (λ s. size_if (fin.get s name)) is ∙ ap size_if (get-shard_of code unit p m name))) (size_meant code unit p (fin.get m name))

-- the number of bytes that are there
pub old_size : (o : Option Object) (size : Option ℕ) → HasSize o size → size_or_none size ≡ length (bytes_in o)
old_size None size is = ap size_or_none is
old_size (Some o) size is = ap size_or_none is

-- the refusal by the size that one shard tells
pub refusal_told : (c : Update) (shard : ShardObjects) (size : Option ℕ) (size_then : ℕ) (why : Option Why) → puts_bytes c ≡ true
    → size ≡ size_if (fin.get shard (name_of c)) → size_then ≡ min (new_size_of c (size_or_none size)) (2 ^ 64 - 1)
    → IsRefusalOfPut shard (name_of c) size_then why → IsRefusalFor shard c why
refusal_told c shard size size_then why kind told new refusal code unit p m is within =
    let old = old_size (fin.get m (name_of c)) size (size_told code unit p m shard (name_of c) size is told) in
    refusal code unit p m c is (record {
      kind = kind;
      name_is = refl;
      size_is = ap (λ n. min n (2 ^ 64 - 1)) (new_size_is c (fin.get m (name_of c)) kind ∙ ap (new_size_of c) (sym old)) ∙ sym new;
    })

pub put_small : (c : Update) (old : ℕ) → puts_bytes c ≡ true → new_size_of c old ≤ max_size → IsSmall c old
put_small (Append name bytes) old is small = small
put_small (WriteAt name off bytes) old is small = small
put_small (Full name bytes) old is small = small
put_small (Delete name) old is small = tt
put_small (SetAttr name attr value) old is small = absurd (false≢true is)
put_small (RemoveAttr name attr) old is small = tt

-- ---- versions and room

worn_against : (o : Option Store) → IfSome o (λ store. 2 ^ 27 ≤ room_in store) → IsSomeAnd o (λ store. room_in store < 2 ^ 27) → ⊥
worn_against None roomy worn = worn
worn_against (Some store) roomy worn = omega (arith, roomy, worn)

pub not_worn : (set : ℕ) (head : Version) (shelf : Shelved) → set < 2 ^ 16 → head.seq + 1 < 2 ^ 40
    → ((s : ℕ) → s < 16 → HasPosition set s → IfSome (store_at shelf s) (λ store. 2 ^ 27 ≤ room_in store)) → IsWorn set head shelf → ⊥
not_worn set head shelf few below roomy (inl over) = omega (arith, below, over)
not_worn set head shelf few below roomy (inr (s, (has, worn))) = worn_against (store_at shelf s) (roomy s (position_below 16 set s few has) has) worn

-- ---- the slot that tells

at_some : (P : Store → Type 0) (o : Option Store) (store : Store) → Some store ≡ o → IfSome o P → P store
at_some P o store is holds = subst (λ (o : Option Store). IfSome o P) (sym is) holds

pub with_some : (P : Store → Type 0) (o : Option Store) (store : Store) → Some store ≡ o → IsSomeAnd o P → P store
with_some P o store is holds = subst (λ (o : Option Store). IsSomeAnd o P) (sym is) holds

pub none_there : (P : Store → Type 0) (o : Option Store) → None ≡ o → IsSomeAnd o P → ⊥
none_there P o is holds = subst (λ (o : Option Store). IsSomeAnd o P) (sym is) holds

module _ (code : CodeRows) (unit set : ℕ) (m : Objects) (head : Version) (shelf : Shelved) (shows : ShowsAt code unit set m head shelf) (lead : ℕ) (has : HasPosition set lead)
    (store : Store) (is : Some store ≡ store_at shelf lead) (shard : Shard) (told : shard ≡ (told_in store).shard) where
  pub lead_objects : shard.state.objects ≡ shard_of code unit lead m
  lead_objects = ap (λ (s : Shard). s.state.objects) told ∙ (at_some (λ store. IsPosition code unit lead m (told_in store)) (store_at shelf lead) store is (shows.shows.positions lead has)).objects_are

  pub lead_head : shard.state.head ≡ head
  lead_head = ap (λ (s : Shard). s.state.head) told ∙ at_some (λ store. (told_in store).shard.state.head ≡ head) (store_at shelf lead) store is (shows.heads lead has)

  pub lead_geometry : shard.geometry ≡ geometry code unit
  lead_geometry = ap (λ (s : Shard). s.geometry) told ∙ (at_some (λ store. IsPosition code unit lead m (told_in store)) (store_at shelf lead) store is (shows.shows.positions lead has)).geometry_is

pub known_told : (set : ℕ) (shelf : Shelved) (lead : ℕ) → HasPosition set lead → (store : Store) → Some store ≡ store_at shelf lead → (shard : Shard) → shard ≡ (told_in store).shard
    → (epoch : ℕ) (c : Update) (result : Result Checked PrepareFault) → IfOk result (λ ch. ch.size ≡ size_if (fin.get shard.state.objects (name_of c)))
    → IfOk result (λ ch. (ch.prior ≡ shard.state.head) × (ch.version ≡ next_version epoch shard.state.head))
    → IfOk result (λ ch. (ch.g.k ≡ shard.geometry.k) × (ch.g.unit ≡ shard.geometry.unit))
    → IfOk result (λ ch. (code : CodeRows) (unit : ℕ) (m : Objects) (head : Version) → ShowsAt code unit set m head shelf → IsKnown code unit m head epoch c ch)
known_told set shelf lead has store is shard told epoch c (Err why) size versions stripes = tt
known_told set shelf lead has store is shard told epoch c (Ok ch) size versions stripes = λ code unit m head shows.
    let there = lead_head code unit set m head shelf shows lead has store is shard told in
    let units = lead_geometry code unit set m head shelf shows lead has store is shard told in
    record {
      k_is = stripes.0 ∙ ap (λ g. g.k) units;
      unit_is = stripes.1 ∙ ap (λ g. g.unit) units;
      prior_is = versions.0 ∙ there;
      version_is = versions.1 ∙ ap (next_version epoch) there;
      size_is = size_told code unit lead m shard.state.objects (name_of c) ch.size (lead_objects code unit set m head shelf shows lead has store is shard told) size;
    }

pub lead_told : (set : ℕ) (shelf : Shelved) (lead : ℕ) → HasPosition set lead → ((s : ℕ) → s < lead → HasPosition set s → ⊥) → (store : Store) → Some store ≡ store_at shelf lead
    → (shard : Shard) → shard ≡ (told_in store).shard → (epoch : ℕ) (c : Update) (result : Result Checked PrepareFault) → IfOk result (λ ch. ch.size ≡ size_if (fin.get shard.state.objects (name_of c)))
    → IfOk result (λ ch. (ch.prior ≡ shard.state.head) × (ch.version ≡ next_version epoch shard.state.head))
    → IfOk result (λ ch. (ch.g.k ≡ shard.geometry.k) × (ch.g.unit ≡ shard.geometry.unit)) → IfOk result (IsToldByLead set shelf epoch c)
lead_told set shelf lead has lowest store is shard same epoch c (Err why) size versions stripes = tt
lead_told set shelf lead has lowest store is shard same epoch c (Ok ch) size versions stripes =
    let by : IsToldBy shard epoch c ch = record { k_is = stripes.0; unit_is = stripes.1; prior_is = versions.0; version_is = versions.1; size_is = size } in
    record {
      lead = lead;
      among = has;
      least = lowest;
      told = subst (λ (o : Option Store). IsSomeAnd o (λ store. IsToldBy (told_in store).shard epoch c ch)) is (subst (λ (s : Shard). IsToldBy s epoch c ch) same by);
    }
