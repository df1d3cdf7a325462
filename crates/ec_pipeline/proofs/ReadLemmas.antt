-- Chunks that the slots of a set give, and what they make.
use Rattle.std.proofs.Common.{◌≡◌, ℕ, ◌+◌, ◌<◌, ◌≤◌, ◌^◌, ◌⊎◌, min, false, is_some, List, length, refl, sym, ap, ◌∙◌, arith, subst, Option, Some, None, inl, inr}
use Rattle.std.specs.Int.{bit_at}
use Rattle.std.specs.Prelude.{Bool, true, Result, Ok, Err, is_ok, IfSome, IsSome}
use Rattle.std.proofs.lemmas.Bool.{cases_eq, false≢true}
use Rattle.ec_model.specs.Codes.{CodeRows, HasPosition, IsPositionList}
use Rattle.ec_model.specs.Stripes.{shard_len}
use Rattle.ec_words.specs.declared.mask.Mask.{Mask}
use Rattle.rig_disk.specs.Disk.{Image}
use Rattle.rig_disk.specs.Faults.{Rose, count_limit}
use Rattle.rig_disk.specs.Frame.{Adds}
use Rattle.rig_disk.proofs.FrameLemmas.{Adds-more, Adds-weaker, Adds-none}
use Rattle.rig_disk.proofs.Moments.{started, goes_on, at_end}
use Rattle.slot_journal.specs.Reading.{OnlyReads}
use Rattle.shard_model.specs.Shards.{Shard}
use Rattle.shard_store.specs.OnSlot.{MayFlush}
use Rattle.shard_store.specs.Ranges.{range_of, shard_bytes, object_bytes, IsToldRange, LacksRange}
use Rattle.shard_store.specs.Shelved.{Shelved}
use Rattle.shard_store.specs.Shelves.{store_at, fetched_on, Counts}
use Rattle.shard_store.specs.Stored.{slot_in, told_in, is_stuck, IsAtRest}
use Rattle.shard_store.specs.Told.{IsAccepted}
use Rattle.shard_store.specs.declared.store.Store.{Store}
use Rattle.shard_store.proofs.StayLemmas.{stay_over}
use Rattle.stripe_map.specs.Chunks.{chunk_of_position, KeepsOthers}
use Rattle.stripe_map.specs.Decoding.{IsMaskOf, HasLength, AllHaveLength, ArePositionLists}
use Rattle.ec_positions.specs.Positions.{position_list}
use Rattle.ec_positions.proofs.ListLemmas.{list_is_one}
use Rattle.ec_pipeline.specs.Reading.{AreFetched, Counted, GiveRange, HasSteps, OnlyFetches}
use Rattle.ec_pipeline.specs.declared.fault.PrepareFault.TheVariants.{Slot, NoMemory}
use Rattle.ec_pipeline.specs.declared.fault.PrepareFault.{PrepareFault}
use Rattle.ec_pipeline.proofs.SetLemmas.{position_below}

-- ---- a slot that may be worked on

module _ (is_here : ℕ → Type 0) (reads : ℕ → ℕ → Option (List ℕ)) (images : Image → List ℕ → Type 0) (slot : ℕ) where
  pub here_at : (o : Option Store) → IfSome o (MayFlush is_here reads images slot) → IfSome o (λ store. is_here (slot_in store))
  here_at None may = tt
  here_at (Some store) may = subst is_here (sym may.own) may.here

  pub accepted_at : (o : Option Store) → IfSome o (MayFlush is_here reads images slot) → IfSome o (λ store. IsAccepted (told_in store))
  accepted_at None may = tt
  accepted_at (Some store) may = may.accepted

  pub settled_at : (o : Option Store) → IfSome o (MayFlush is_here reads images slot) → IfSome o (λ store. (is_stuck store → ⊥) → IsAtRest reads images store)
  settled_at None may = tt
  settled_at (Some store) may = may.settled

-- a range of the told steps' shard is one of the shard that the store has, if its steps are known
pub range_told : (reads : ℕ → ℕ → Option (List ℕ)) (images : Image → List ℕ → Type 0) (o : Option Store) (name : List ℕ) (at n : ℕ) (bytes : List ℕ)
    → IsToldRange reads images o name at n bytes → IfSome o (HasSteps reads images) → range_of (object_bytes o name) at n ≡ Some bytes
range_told reads images None name at n bytes told has = absurd told
range_told reads images (Some store) name at n bytes told has =
    subst (λ (s : Shard). range_of (shard_bytes s name) at n ≡ Some bytes) (sym has.stored.told.shard) (told has.text has.flushed has.pending has.stored)

-- ---- answers

abbrev pub failed : (T : Type 0) → PrepareFault → Result T PrepareFault
failed T why = Err why

abbrev pub went_well : (T : Type 0) → T → Result T PrepareFault
went_well T value = Ok value

abbrev fault_or : {T : Type 0} → PrepareFault → Result T PrepareFault → PrepareFault
fault_or why (Ok value) = why
fault_or why (Err other) = other

abbrev names_slot : PrepareFault → Bool
names_slot (Slot slot) = true
names_slot other = false

abbrev slot_or : ℕ → PrepareFault → ℕ
slot_or n (Slot slot) = slot
slot_or n other = n

pub ok_fails_not : (T : Type 0) (value : T) (why : PrepareFault) → went_well T value ≡ failed T why → ⊥
ok_fails_not T value why is = false≢true (sym (ap is_ok is))

pub fault_same : (T : Type 0) (one other : PrepareFault) → failed T one ≡ failed T other → one ≡ other
fault_same T one other is = ap (fault_or NoMemory) is

-- an answer in another type
pub same_answer : (T U : Type 0) (one other : PrepareFault) → failed T one ≡ failed T other → failed U one ≡ failed U other
same_answer T U one other is = ap (failed U) (fault_same T one other is)

slot_same : (fault : PrepareFault) (slot s : ℕ) → (fault ≡ NoMemory) ⊎ (fault ≡ Slot slot) → fault ≡ Slot s → s ≡ slot
slot_same fault slot s (inl is) e = absurd (false≢true (ap names_slot (sym is ∙ e)))
slot_same fault slot s (inr is) e = ap (slot_or 0) (sym e ∙ is)

pub among_at : (U : Type 0) (fault : PrepareFault) (set slot s : ℕ) → (fault ≡ NoMemory) ⊎ (fault ≡ Slot slot) → failed U fault ≡ failed U (Slot s) → HasPosition set slot → HasPosition set s
among_at U fault set slot s whys is has = subst (HasPosition set) (sym (slot_same fault slot s whys (fault_same U fault (Slot s) is))) has

-- ---- what is left of a rig

module _ {R : Type 0} (is_here : R → ℕ → Type 0) (reads_of : R → ℕ → ℕ → Option (List ℕ)) (said_of : R → Option (List ℕ)) (clock_of : R → ℕ)
    (images_of : R → ℕ → Image → List ℕ → Type 0) (faults_of : R → ℕ → ℕ) (syncs_of written_of read_of : R → ℕ → Option ℕ) where
  pub reads_none : (slot : ℕ) (rig : R) → OnlyReads is_here reads_of said_of clock_of images_of faults_of syncs_of written_of read_of slot rig rig
  reads_none slot rig = record {
    any_moment = started clock_of images_of rig (λ image said. images_of rig (clock_of rig) image said) (λ image said now. now);
    kept = record {
      here = λ s. ((λ h. h), (λ h. h));
      reads = λ s a ne. refl;
      said = refl;
      counts = record { faults = λ s ne. refl; syncs = λ s ne. refl; written = λ s ne. refl; read = λ s ne. refl };
    };
    reads = λ a. refl;
    syncs = Adds-none (syncs_of rig slot);
    written = Adds-none (written_of rig slot);
  }

  pub fetches_none : (rig : R) → OnlyFetches is_here reads_of said_of clock_of images_of syncs_of written_of rig rig
  fetches_none rig = record {
    any_moment = started clock_of images_of rig (λ image said. images_of rig (clock_of rig) image said) (λ image said now. now);
    here = λ s. ((λ h. h), (λ h. h));
    reads = λ s a. refl;
    said = refl;
    syncs = λ s. Adds-none (syncs_of rig s);
    written = λ s. Adds-none (written_of rig s);
  }

  adds_none_more : (a b c : Option ℕ) → Adds 0 a b → Adds 0 b c → Adds 0 a c
  adds_none_more a b c one two = Adds-weaker (0 + 0) 0 a c (omega arith) (Adds-more 0 0 a b c one two)

  pub fetches_more : (slot : ℕ) (old mid new : R) → OnlyFetches is_here reads_of said_of clock_of images_of syncs_of written_of old mid
      → OnlyReads is_here reads_of said_of clock_of images_of faults_of syncs_of written_of read_of slot mid new
      → OnlyFetches is_here reads_of said_of clock_of images_of syncs_of written_of old new
  fetches_more slot old mid new first one = record {
    any_moment = goes_on clock_of images_of old mid new (λ image said. images_of old (clock_of old) image said) (λ image said. images_of mid (clock_of mid) image said) first.any_moment one.any_moment
        (λ image said now. at_end clock_of images_of old mid (λ image said. images_of old (clock_of old) image said) first.any_moment image said now);
    here = λ s. ((λ h. (one.kept.here s).0 ((first.here s).0 h)), (λ h. (first.here s).1 ((one.kept.here s).1 h)));
    reads = λ s a. elim (cases_eq s slot) [
      | inl e ↦ subst (λ q. reads_of new q a ≡ reads_of mid q a) (sym e) (one.reads a) ∙ first.reads s a
      | inr ne ↦ one.kept.reads s a ne ∙ first.reads s a
    ];
    said = one.kept.said ∙ first.said;
    syncs = λ s. elim (cases_eq s slot) [
      | inl e ↦ adds_none_more (syncs_of old s) (syncs_of mid s) (syncs_of new s) (first.syncs s) (subst (λ q. Adds 0 (syncs_of mid q) (syncs_of new q)) (sym e) one.syncs)
      | inr ne ↦ subst (λ n. Adds 0 (syncs_of old s) n) (sym (one.kept.counts.syncs s ne)) (first.syncs s)
    ];
    written = λ s. elim (cases_eq s slot) [
      | inl e ↦ adds_none_more (written_of old s) (written_of mid s) (written_of new s) (first.written s) (subst (λ q. Adds 0 (written_of mid q) (written_of new q)) (sym e) one.written)
      | inr ne ↦ subst (λ n. Adds 0 (written_of old s) n) (sym (one.kept.counts.written s ne)) (first.written s)
    ];
  }

  -- what is known of a store is known after fetches
  pub steps_over : (old new : R) (o : Option Store) → OnlyFetches is_here reads_of said_of clock_of images_of syncs_of written_of old new
      → IfSome o (HasSteps (reads_of old) (images_of old (clock_of old))) → IfSome o (HasSteps (reads_of new) (images_of new (clock_of new)))
  steps_over old new None only has = tt
  steps_over old new (Some store) only has = record {
    text = has.text;
    flushed = has.flushed;
    pending = has.pending;
    stored = (stay_over reads_of clock_of images_of old new store (λ a. only.reads (slot_in store) a) only.any_moment).0 has.text has.flushed has.pending has.stored;
  }

  -- and a slot that may be worked on may be so after fetches
  pub idle_over : (old new : R) (slot : ℕ) (o : Option Store) → OnlyFetches is_here reads_of said_of clock_of images_of syncs_of written_of old new
      → IfSome o (MayFlush (is_here old) (reads_of old) (images_of old (clock_of old)) slot) → IfSome o (MayFlush (is_here new) (reads_of new) (images_of new (clock_of new)) slot)
  idle_over old new slot None only may = tt
  idle_over old new slot (Some store) only may = record {
    own = may.own;
    here = (only.here slot).0 may.here;
    accepted = may.accepted;
    settled = λ free. (stay_over reads_of clock_of images_of old new store (λ a. only.reads (slot_in store) a) only.any_moment).1 (may.settled free);
  }

  -- the counts of faults over one call more, as the answer `Slot slot` says or no answer does
  pub faults_more : (slot s : ℕ) (old mid new : R) → OnlyReads is_here reads_of said_of clock_of images_of faults_of syncs_of written_of read_of slot mid new
      → faults_of new slot ≡ faults_of mid slot → ((q : ℕ) → faults_of mid q ≡ faults_of old q) → faults_of new s ≡ faults_of old s
  faults_more slot s old mid new one own so_far = elim (cases_eq s slot) [
    | inl e ↦ subst (λ q. faults_of new q ≡ faults_of old q) (sym e) (own ∙ so_far slot)
    | inr ne ↦ one.kept.counts.faults s ne ∙ so_far s
  ]

  -- why a call on a slot stops a round over slots
  pub cause_at : (T U : Type 0) (fault : PrepareFault) (slot s : ℕ) (old mid new : R) (old_shelf mid_shelf : Shelved) (name : List ℕ) (at len : ℕ)
      → (fault ≡ NoMemory) ⊎ (fault ≡ Slot slot) → failed U fault ≡ failed U (Slot s)
      → ((q : ℕ) → faults_of mid q ≡ faults_of old q) → ((q : ℕ) → store_at mid_shelf q ≡ store_at old_shelf q)
      → (failed T fault ≡ failed T (Slot slot) → Rose (faults_of mid slot) (faults_of new slot) ⊎ LacksRange (object_bytes (store_at mid_shelf slot) name) at len)
      → Rose (faults_of old s) (faults_of new s) ⊎ LacksRange (object_bytes (store_at old_shelf s) name) at len
  cause_at T U fault slot s old mid new old_shelf mid_shelf name at len whys is faults stores cause =
      let same = slot_same fault slot s whys (fault_same U fault (Slot s) is) in
      let here : fault ≡ Slot slot = fault_same U fault (Slot s) is ∙ ap Slot same in
      subst (λ q. Rose (faults_of old q) (faults_of new q) ⊎ LacksRange (object_bytes (store_at old_shelf q) name) at len) (sym same)
      (subst (λ n. Rose n (faults_of new slot) ⊎ LacksRange (object_bytes (store_at old_shelf slot) name) at len) (faults slot)
      (subst (λ x. Rose (faults_of mid slot) (faults_of new slot) ⊎ LacksRange (object_bytes x name) at len) (stores slot) (cause (ap (failed T) here))))

  -- and what it leaves of the counts
  pub quiet_at : (T U : Type 0) (fault : PrepareFault) (slot s : ℕ) (old mid new : R)
      → OnlyReads is_here reads_of said_of clock_of images_of faults_of syncs_of written_of read_of slot mid new
      → ((failed T fault ≡ failed T (Slot slot) → ⊥) → faults_of new slot ≡ faults_of mid slot) → (failed U fault ≡ failed U (Slot s) → ⊥)
      → ((q : ℕ) → faults_of mid q ≡ faults_of old q) → faults_of new s ≡ faults_of old s
  quiet_at T U fault slot s old mid new one quiet other so_far = elim (cases_eq s slot) [
    | inl e ↦ subst (λ q. faults_of new q ≡ faults_of old q) (sym e)
        (quiet (λ is. other (ap (failed U) (fault_same T fault (Slot slot) is ∙ ap Slot (sym e)))) ∙ so_far slot)
    | inr ne ↦ one.kept.counts.faults s ne ∙ so_far s
  ]

-- ---- slot after slot

pub none_fetched : (known : ℕ → Type 0) (set : ℕ) (shelf : Shelved) (name : List ℕ) (at len : ℕ) (chunks : List (Option (List ℕ))) → ((p : ℕ) → chunk_of_position chunks p ≡ None)
    → AreFetched known set 0 shelf name at len chunks
none_fetched known set shelf name at len chunks none = record { inside = λ s lt has. absurd (omega (arith, lt)); outside = λ s out. none s }

pub none_counted : (set len : ℕ) (shelf : Shelved) → Counted set 0 len shelf shelf
none_counted set len shelf = record { stores = λ s. refl; inside = λ s lt has. absurd (omega (arith, lt)); outside = λ s out. refl }

module _ (known : ℕ → Type 0) (set bound : ℕ) (shelf : Shelved) (name : List ℕ) (at len : ℕ) (chunks : List (Option (List ℕ))) where
  pub fetched_more : (new : List (Option (List ℕ))) (chunk : List ℕ) → AreFetched known set bound shelf name at len chunks → length chunk ≡ len
      → (known bound → range_of (object_bytes (store_at shelf bound) name) at len ≡ Some chunk)
      → chunk_of_position new bound ≡ Some chunk → KeepsOthers chunks new bound → HasPosition set bound → AreFetched known set (bound + 1) shelf name at len new
  fetched_more new chunk so_far long range here others has = record {
    inside = λ s lt there. elim (cases_eq s bound) [
      | inl e ↦ (
        chunk,
        ap (chunk_of_position new) e ∙ here,
        long,
        (λ k. subst (λ q. range_of (object_bytes (store_at shelf q) name) at len ≡ Some chunk) (sym e) (range (subst known e k))),
      )
      | inr ne ↦ let old = so_far.inside s (omega (arith, lt, ne)) there in (old.0, others s ne ∙ old.1, old.2, old.3)
    ];
    outside = λ s out. elim (cases_eq s bound) [
      | inl e ↦ absurd (out (omega (arith, e)) (subst (HasPosition set) (sym e) has))
      | inr ne ↦ others s ne ∙ so_far.outside s (λ lt there. out (omega (arith, lt)) there)
    ];
  }

  pub fetched_past : AreFetched known set bound shelf name at len chunks → (HasPosition set bound → ⊥) → AreFetched known set (bound + 1) shelf name at len chunks
  fetched_past so_far lacks = record {
    inside = λ s lt there. elim (cases_eq s bound) [
      | inl e ↦ absurd (lacks (subst (HasPosition set) e there))
      | inr ne ↦ so_far.inside s (omega (arith, lt, ne)) there
    ];
    outside = λ s out. so_far.outside s (λ lt there. out (omega (arith, lt)) there);
  }

pub counted_more : (set bound len : ℕ) (old mid new : Shelved) → Counted set bound len old mid → Counts mid new bound
    → fetched_on new bound ≡ min (fetched_on mid bound + len) count_limit → HasPosition set bound → Counted set (bound + 1) len old new
counted_more set bound len old mid new so_far counts rise has = record {
  stores = λ s. counts.stores s ∙ so_far.stores s;
  inside = λ s lt there. elim (cases_eq s bound) [
    | inl e ↦ ap (fetched_on new) e ∙ rise ∙ ap (λ n. min (n + len) count_limit) (so_far.outside bound (λ lt _. omega (arith, lt)) ∙ ap (fetched_on old) (sym e))
    | inr ne ↦ counts.others s ne ∙ so_far.inside s (omega (arith, lt, ne)) there
  ];
  outside = λ s out. elim (cases_eq s bound) [
    | inl e ↦ absurd (out (omega (arith, e)) (subst (HasPosition set) (sym e) has))
    | inr ne ↦ counts.others s ne ∙ so_far.outside s (λ lt there. out (omega (arith, lt)) there)
  ];
}

pub counted_past : (set bound len : ℕ) (old new : Shelved) → Counted set bound len old new → (HasPosition set bound → ⊥) → Counted set (bound + 1) len old new
counted_past set bound len old new so_far lacks = record {
  stores = so_far.stores;
  inside = λ s lt there. elim (cases_eq s bound) [
    | inl e ↦ absurd (lacks (subst (HasPosition set) e there))
    | inr ne ↦ so_far.inside s (omega (arith, lt, ne)) there
  ];
  outside = λ s out. so_far.outside s (λ lt there. out (omega (arith, lt)) there);
}

-- ---- what the chunks are

abbrev bytes_or : List ℕ → Option (List ℕ) → List ℕ
bytes_or bytes None = bytes
bytes_or bytes (Some other) = other

some_same : (one other : List ℕ) → Some one ≡ Some other → one ≡ other
some_same one other e = ap (bytes_or one) e

module _ (known : ℕ → Type 0) (set : ℕ) (shelf : Shelved) (name : List ℕ) (at len : ℕ) (chunks : List (Option (List ℕ))) (few : set < 2 ^ 16)
    (fetched : AreFetched known set 16 shelf name at len chunks) where
  lacks_none : (p : ℕ) → (HasPosition set p → ⊥) → chunk_of_position chunks p ≡ None
  lacks_none p out = fetched.outside p (λ _ has. out has)

  pub mask_is : IsMaskOf chunks set
  mask_is p = (
    λ has. subst IsSome (sym (fetched.inside p (position_below 16 set p few has) has).1) refl,
    λ some. elim (cases_eq (bit_at set p) 1) [
      | inl has ↦ has
      | inr out ↦ absurd (false≢true (subst IsSome (lacks_none p out) some))
    ],
  )

  pub lengths_are : AllHaveLength chunks len
  lengths_are p = elim (cases_eq (bit_at set p) 1) [
    | inl has ↦ let one = fetched.inside p (position_below 16 set p few has) has in subst (λ o. HasLength o len) (sym one.1) one.2
    | inr out ↦ subst (λ o. HasLength o len) (sym (lacks_none p out)) tt
  ]

  -- they are those of bytes, of which the slots give a range
  pub lists_are : (code : CodeRows) (unit joined : ℕ) (bytes : List ℕ) → 1 ≤ unit → ((p : ℕ) → HasPosition set p → HasPosition joined p) → ((p : ℕ) → HasPosition joined p → known p)
      → len ≡ shard_len code.k unit (length bytes) → GiveRange code unit joined shelf name at bytes → ArePositionLists code unit chunks bytes
  lists_are code unit joined bytes some within knows long give p chunk lt is = elim (cases_eq (bit_at set p) 1) [
    | inl has ↦
        let one = fetched.inside p (position_below 16 set p few has) has in
        let here : one.0 ≡ chunk = some_same _ _ (sym one.1 ∙ is) in
        let list : one.0 ≡ position_list code unit bytes p = some_same _ _ (sym (one.3 (knows p (within p has))) ∙ ap (range_of (object_bytes (store_at shelf p) name) at) long ∙ give p (within p has)) in
        subst (λ l. IsPositionList code unit bytes p l) (sym list ∙ here) (list_is_one code unit p bytes some)
    | inr out ↦ absurd (false≢true (ap is_some (sym (lacks_none p out) ∙ is)))
  ]

abbrev pub mask_or : Option Mask → ℕ
mask_or (Some mask) = mask.0
mask_or None = 0
