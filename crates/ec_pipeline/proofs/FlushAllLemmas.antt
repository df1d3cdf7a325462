-- The flush of one slot after another.
use Rattle.std.proofs.Common.{◌≡◌, ◌≢◌, ℕ, ◌+◌, ◌*◌, ◌%◌, ◌^◌, ◌<◌, ◌↔◌, ◌⊎◌, [], inl, inr, List, bit_or, refl, sym, ◌∙◌, arith, subst, Option, Some, None}
use Rattle.std.proofs.lemmas.Bool.{cases_eq, false≢true}
use Rattle.std.proofs.lemmas.Nat.Bits.{bit_at-zero, bit_at_set_same, bit_at_set_other}
use Rattle.std.specs.Int.{w16}
use Rattle.ec_model.specs.Codes.{HasPosition}
use Rattle.rig_disk.specs.Disk.{Image}
use Rattle.rig_disk.specs.During.{During}
use Rattle.slot_journal.specs.InUse.{Areas, area_in_use, text_in_use, told_area, told_text}
use Rattle.slot_journal.specs.Journal.{slot_of, Holds, InSlot}
use Rattle.slot_journal.specs.declared.journal.Journal.{Journal}
use Rattle.shard_model.specs.Steps.{Step}
use Rattle.shard_store.specs.Stored.{slot_in, IsStored, IsAtRest}
use Rattle.shard_store.specs.declared.store.Store.{Store}
use Rattle.shard_store.specs.Shelved.{Shelved}
use Rattle.shard_store.specs.Shelves.{store_at, KeepsStores}
use Rattle.rig_disk.specs.Faults.{Rose}
use Rattle.rig_disk.proofs.Moments.{started, weaker, goes_on, at_end}
use Rattle.std.specs.Prelude.{Bool, true, false, IfSome}
use Rattle.shard_store.specs.OnSlot.{FlushesAt, MayFlush}
use Rattle.ec_pipeline.specs.Flushing.{FlushedAt, InSlots, IsBarredAt, StandsAt, IsLostAt, AreFlushed}

-- ---- what other slots' flushes leave

-- a slot's areas read as before, and each image of now has them as one of before
pub record IsLeft (old_reads new_reads : ℕ → ℕ → Option (List ℕ)) (old_images new_images : Image → List ℕ → Type 0) (slot : ℕ) : Type 0 where
  pub reads : (a : ℕ) → new_reads slot a ≡ old_reads slot a
  pub images : (image : Image) (said : List ℕ) → new_images image said → (source : Image) × (old_images source said × ((a : ℕ) → image slot a ≡ source slot a))

pub holds_on : (old_reads new_reads : ℕ → ℕ → Option (List ℕ)) (old_images new_images : Image → List ℕ → Type 0) (journal : Journal) (head : List ℕ) (bodies : List (List ℕ)) (text : List ℕ)
    → IsLeft old_reads new_reads old_images new_images (slot_of journal) → Holds old_reads old_images journal head bodies text → Holds new_reads new_images journal head bodies text
holds_on old_reads new_reads old_images new_images journal head bodies text left holds = record {
  told = (λ i. told_text (slot_of journal) (λ a. left.reads a i)) ∙ holds.told;
  told_in = (λ i. told_area (slot_of journal) (λ a. left.reads a i)) ∙ holds.told_in;
  is_text = holds.is_text;
  durable = λ image said now. let was = left.images image said now in (λ i. text_in_use (slot_of journal) (λ a. was.1.1 a i)) ∙ holds.durable was.0 said was.1.0;
  durable_in = λ image said now. let was = left.images image said now in (λ i. area_in_use (slot_of journal) (λ a. was.1.1 a i)) ∙ holds.durable_in was.0 said was.1.0;
}

pub stored_on : (old_reads new_reads : ℕ → ℕ → Option (List ℕ)) (old_images new_images : Image → List ℕ → Type 0) (store : Store) (text : List ℕ) (flushed pending : List Step)
    → IsLeft old_reads new_reads old_images new_images (slot_in store) → IsStored old_reads old_images store text flushed pending → IsStored new_reads new_images store text flushed pending
stored_on old_reads new_reads old_images new_images store text flushed pending left stored = record {
  bodies = stored.bodies;
  holds = holds_on old_reads new_reads old_images new_images store.journal _ stored.bodies text left stored.holds;
  spelled = stored.spelled;
  told = stored.told;
}

pub at_rest_on : (old_reads new_reads : ℕ → ℕ → Option (List ℕ)) (old_images new_images : Image → List ℕ → Type 0) (store : Store)
    → IsLeft old_reads new_reads old_images new_images (slot_in store) → IsAtRest old_reads old_images store → IsAtRest new_reads new_images store
at_rest_on old_reads new_reads old_images new_images store left rest text told =
    let settled = rest text (sym (λ i. told_text (slot_in store) (λ a. left.reads a i)) ∙ told) in
    record { head = settled.head; bodies = settled.bodies; holds = holds_on old_reads new_reads old_images new_images store.journal settled.head settled.bodies text left settled.holds }

pub may_flush_on : (old_here new_here : ℕ → Type 0) (old_reads new_reads : ℕ → ℕ → Option (List ℕ)) (old_images new_images : Image → List ℕ → Type 0) (slot : ℕ) (o : Option Store)
    → (old_here slot → new_here slot) → IsLeft old_reads new_reads old_images new_images slot → IfSome o (MayFlush old_here old_reads old_images slot) → IfSome o (MayFlush new_here new_reads new_images slot)
may_flush_on old_here new_here old_reads new_reads old_images new_images slot None here left may = tt
may_flush_on old_here new_here old_reads new_reads old_images new_images slot (Some store) here left may = record {
  own = may.own;
  here = here may.here;
  accepted = may.accepted;
  settled = λ unstuck. at_rest_on old_reads new_reads old_images new_images store (subst (IsLeft old_reads new_reads old_images new_images) (sym may.own) left) (may.settled unstuck);
}

pub stands_on : (old_reads mid_reads new_reads : ℕ → ℕ → Option (List ℕ)) (old_images mid_images new_images : Image → List ℕ → Type 0) (slot : ℕ) (old mid : Option Store)
    → IfSome mid (λ store. slot_in store ≡ slot) → IsLeft mid_reads new_reads mid_images new_images slot
    → StandsAt old_reads old_images mid_reads mid_images old mid → StandsAt old_reads old_images new_reads new_images old mid
stands_on old_reads mid_reads new_reads old_images mid_images new_images slot None mid own left stands = stands
stands_on old_reads mid_reads new_reads old_images mid_images new_images slot (Some old) None own left stands = absurd stands
stands_on old_reads mid_reads new_reads old_images mid_images new_images slot (Some old) (Some mid) own left stands = λ text flushed pending was.
    let now = stands text flushed pending was in
    (now.0, stored_on mid_reads new_reads mid_images new_images mid now.0 _ [] (subst (IsLeft mid_reads new_reads mid_images new_images) (sym own) left) now.1)

-- what may be flushed on and stands, from before other slots' flushes
pub stands_since : (old_reads mid_reads new_reads : ℕ → ℕ → Option (List ℕ)) (old_images mid_images new_images : Image → List ℕ → Type 0) (slot : ℕ) (old new : Option Store)
    → IfSome old (λ store. slot_in store ≡ slot) → IsLeft old_reads mid_reads old_images mid_images slot
    → StandsAt mid_reads mid_images new_reads new_images old new → StandsAt old_reads old_images new_reads new_images old new
stands_since old_reads mid_reads new_reads old_images mid_images new_images slot None new own left stands = stands
stands_since old_reads mid_reads new_reads old_images mid_images new_images slot (Some old) None own left stands = absurd stands
stands_since old_reads mid_reads new_reads old_images mid_images new_images slot (Some old) (Some new) own left stands = λ text flushed pending was.
    stands text flushed pending (stored_on old_reads mid_reads old_images mid_images old text flushed pending (subst (IsLeft old_reads mid_reads old_images mid_images) (sym own) left) was)

-- a slot's step, from before other slots' flushes
pub flushes_since : (old_reads mid_reads : ℕ → ℕ → Option (List ℕ)) (old_images mid_images : Image → List ℕ → Type 0) (slot : ℕ) (o : Option Store) (first before after : Areas)
    → IfSome o (λ store. slot_in store ≡ slot) → IsLeft old_reads mid_reads old_images mid_images slot → ((a : ℕ) → before a ≡ first a)
    → FlushesAt mid_reads mid_images o before after → FlushesAt old_reads old_images o first after
flushes_since old_reads mid_reads old_images mid_images slot None first before after own left same step = λ a. step a ∙ same a
flushes_since old_reads mid_reads old_images mid_images slot (Some store) first before after own left same step = record {
  others = λ a other. step.others a other ∙ same a;
  shards = λ text flushed pending was. step.shards text flushed pending
      (stored_on old_reads mid_reads old_images mid_images store text flushed pending (subst (IsLeft old_reads mid_reads old_images mid_images) (sym own) left) was);
}

pub own_of : (is_here : ℕ → Type 0) (reads : ℕ → ℕ → Option (List ℕ)) (images : Image → List ℕ → Type 0) (slot : ℕ) (o : Option Store) → IfSome o (MayFlush is_here reads images slot) → IfSome o (λ store. slot_in store ≡ slot)
own_of is_here reads images slot None may = tt
own_of is_here reads images slot (Some store) may = may.own

-- ---- the round

pub truth : (b : Bool) → (b ≡ true) ⊎ (b ≡ false)
truth true = inl refl
truth false = inr refl

-- a set of lost slots after one slot more
pub record IsMarked (old new slot : ℕ) (kept : Bool) : Type 0 where
  pub others : (s : ℕ) → s ≢ slot → HasPosition new s ↔ HasPosition old s
  pub same : kept ≡ true → new ≡ old
  pub lost : kept ≡ false → HasPosition new slot

module _ {R : Type 0} (is_here : R → ℕ → Type 0) (reads : R → ℕ → ℕ → Option (List ℕ)) (said_of : R → Option (List ℕ)) (clock : R → ℕ) (images : R → ℕ → Image → List ℕ → Type 0) (faults : R → ℕ → ℕ) where
  -- what the flush of one slot says
  pub record OneFlush (slot : ℕ) (old_shelf new_shelf : Shelved) (old new : R) (kept : Bool) : Type 0 where
    pub after : FlushedAt (store_at old_shelf slot) (store_at new_shelf slot) kept
    pub cause : kept ≡ false → Rose (faults old slot) (faults new slot) ⊎ IsBarredAt (store_at old_shelf slot)
    pub quiet : kept ≡ true → faults new slot ≡ faults old slot
    pub unbarred : kept ≡ true → IsBarredAt (store_at old_shelf slot) → ⊥
    pub ready : IfSome (store_at new_shelf slot) (MayFlush (is_here new) (reads new) (images new (clock new)) slot)
    pub stands : kept ≡ true → StandsAt (reads old) (images old (clock old)) (reads new) (images new (clock new)) (store_at old_shelf slot) (store_at new_shelf slot)
    pub any_moment : During clock images old new (InSlot (images old (clock old)) slot (FlushesAt (reads old) (images old (clock old)) (store_at old_shelf slot)))
    pub here : (s : ℕ) → is_here old s ↔ is_here new s
    pub reads_as : (s a : ℕ) → s ≢ slot → reads new s a ≡ reads old s a
    pub said : said_of new ≡ said_of old
    pub faults_are : (s : ℕ) → s ≢ slot → faults new s ≡ faults old s
    pub others : KeepsStores old_shelf new_shelf slot

  pub none_flushed : (set : ℕ) (shelf : Shelved) (rig : R) → ((s : ℕ) → HasPosition set s → IfSome (store_at shelf s) (MayFlush (is_here rig) (reads rig) (images rig (clock rig)) s))
      → AreFlushed is_here reads said_of clock images faults set 0 0 shelf shelf rig rig
  none_flushed set shelf rig ready = record {
    among = λ s has. absurd (zero_has s has);
    failed = λ s has. absurd (zero_has s has);
    done = λ s lt has out. absurd (omega (arith, lt));
    stands = λ s lt has out. absurd (omega (arith, lt));
    quiet = λ s out. refl;
    unbarred = λ s lt has out barred. omega (arith, lt);
    outside = λ s out. refl;
    fetched = λ s. refl;
    any_moment = started clock images rig (InSlots (images rig (clock rig)) set 0 (λ s. FlushesAt (reads rig) (images rig (clock rig)) (store_at shelf s)))
        (λ image said now. record { source = image; was = now; others = λ s out a. refl; stepped = λ s lt has. absurd (omega (arith, lt)) });
    here = λ s. ((λ h. h), (λ h. h));
    reads_as = λ s a out. refl;
    said = refl;
    ready = ready;
  }
    where
      zero_has : (q : ℕ) → HasPosition 0 q → ⊥
      zero_has q has = let z = bit_at-zero q in omega arith

  -- another slot's flush leaves a slot
  left_by_one : (slot s : ℕ) (old_shelf new_shelf : Shelved) (old new : R) (kept : Bool) → OneFlush slot old_shelf new_shelf old new kept → s ≢ slot
      → IsLeft (reads old) (reads new) (images old (clock old)) (images new (clock new)) s
  left_by_one slot s old_shelf new_shelf old new kept one ne = record {
    reads = λ a. one.reads_as s a ne;
    images = λ image said now.
        let from = at_end clock images old new (InSlot (images old (clock old)) slot (FlushesAt (reads old) (images old (clock old)) (store_at old_shelf slot))) one.any_moment image said now in
        (from.source, (from.was, λ a. from.others s ne a));
  }

  -- the round leaves a slot that it has not come to
  left_by_round : (set bound lost s : ℕ) (old_shelf new_shelf : Shelved) (old new : R) → AreFlushed is_here reads said_of clock images faults set bound lost old_shelf new_shelf old new
      → (s < bound → HasPosition set s → ⊥) → IsLeft (reads old) (reads new) (images old (clock old)) (images new (clock new)) s
  left_by_round set bound lost s old_shelf new_shelf old new round out = record {
    reads = λ a. round.reads_as s a out;
    images = λ image said now.
        let from = at_end clock images old new (InSlots (images old (clock old)) set bound (λ s. FlushesAt (reads old) (images old (clock old)) (store_at old_shelf s))) round.any_moment image said now in
        (from.source, (from.was, λ a. from.others s out a));
  }

  -- a slot that is not of the set
  pub none_flushed_more : (set bound lost : ℕ) (old_shelf new_shelf : Shelved) (old new : R) → AreFlushed is_here reads said_of clock images faults set bound lost old_shelf new_shelf old new
      → (HasPosition set bound → ⊥) → AreFlushed is_here reads said_of clock images faults set (bound + 1) lost old_shelf new_shelf old new
  none_flushed_more set bound lost old_shelf new_shelf old new round lacks = record {
    among = λ s has. let a = round.among s has in (omega (arith, a.0), a.1);
    failed = round.failed;
    done = λ s lt has out. round.done s (lower s lt has) has out;
    stands = λ s lt has out. round.stands s (lower s lt has) has out;
    quiet = round.quiet;
    unbarred = λ s lt has out. round.unbarred s (lower s lt has) has out;
    outside = λ s out. round.outside s (raised s out);
    fetched = round.fetched;
    any_moment = weaker clock images old new (InSlots (images old (clock old)) set bound step) (InSlots (images old (clock old)) set (bound + 1) step) round.any_moment
        (λ image said from. record { source = from.source; was = from.was; others = λ s out a. from.others s (raised s out) a; stepped = λ s lt has. from.stepped s (lower s lt has) has });
    here = round.here;
    reads_as = λ s a out. round.reads_as s a (raised s out);
    said = round.said;
    ready = round.ready;
  }
    where
      step : ℕ → Areas → Areas → Type 0
      step s = FlushesAt (reads old) (images old (clock old)) (store_at old_shelf s)

      lower : (s : ℕ) → s < bound + 1 → HasPosition set s → s < bound
      lower s lt has = elim (cases_eq s bound) [
        | inl e ↦ absurd (lacks (subst (HasPosition set) e has))
        | inr ne ↦ omega (arith, lt, ne)
      ]

      raised : (s : ℕ) → (s < bound + 1 → HasPosition set s → ⊥) → s < bound → HasPosition set s → ⊥
      raised s out lt has = out (omega (arith, lt)) has

  -- one slot more
  pub one_flushed : (set bound lost then_lost : ℕ) (kept : Bool) (old_shelf mid_shelf new_shelf : Shelved) (old mid new : R)
      → AreFlushed is_here reads said_of clock images faults set bound lost old_shelf mid_shelf old mid
      → OneFlush bound mid_shelf new_shelf mid new kept → HasPosition set bound → IsMarked lost then_lost bound kept
      → AreFlushed is_here reads said_of clock images faults set (bound + 1) then_lost old_shelf new_shelf old new
  one_flushed set bound lost then_lost kept old_shelf mid_shelf new_shelf old mid new round one has marked = record {
    among = λ s gone. elim (cases_eq s bound) [
      | inl e ↦ (omega (arith, e), subst (HasPosition set) (sym e) has)
      | inr ne ↦ let a = round.among s ((marked.others s ne).0 gone) in (omega (arith, a.0), a.1)
    ];
    failed = λ s gone. elim (cases_eq s bound) [
      | inl e ↦ subst (λ q. IsLostAt (faults old q) (faults new q) (store_at old_shelf q) (store_at new_shelf q)) (sym e) (here_lost (not_kept (subst (HasPosition then_lost) e gone)))
      | inr ne ↦
          subst (λ x. IsLostAt (faults old s) (faults new s) (store_at old_shelf s) x) (sym (one.others.stores s ne))
          (subst (λ n. IsLostAt (faults old s) n (store_at old_shelf s) (store_at mid_shelf s)) (sym (one.faults_are s ne)) (round.failed s ((marked.others s ne).0 gone)))
    ];
    done = λ s lt there out. elim (cases_eq s bound) [
      | inl e ↦ subst (λ q. FlushedAt (store_at old_shelf q) (store_at new_shelf q) true) (sym e)
          (subst (λ x. FlushedAt x (store_at new_shelf bound) true) same_store
          (subst (FlushedAt (store_at mid_shelf bound) (store_at new_shelf bound)) (is_kept (λ gone. out (subst (HasPosition then_lost) (sym e) gone))) one.after))
      | inr ne ↦ subst (λ x. FlushedAt (store_at old_shelf s) x true) (sym (one.others.stores s ne)) (round.done s (omega (arith, lt, ne)) there (λ gone. out ((marked.others s ne).1 gone)))
    ];
    stands = λ s lt there out. elim (cases_eq s bound) [
      | inl e ↦ subst (λ q. StandsAt (reads old) (images old (clock old)) (reads new) (images new (clock new)) (store_at old_shelf q) (store_at new_shelf q)) (sym e)
          (stands_since (reads old) (reads mid) (reads new) (images old (clock old)) (images mid (clock mid)) (images new (clock new)) bound (store_at old_shelf bound) (store_at new_shelf bound)
          (subst (λ (o : Option Store). IfSome o (λ store. slot_in store ≡ bound)) same_store (own_mid bound has)) left_here
          (subst (λ x. StandsAt (reads mid) (images mid (clock mid)) (reads new) (images new (clock new)) x (store_at new_shelf bound)) same_store
          (one.stands (is_kept (λ gone. out (subst (HasPosition then_lost) (sym e) gone))))))
      | inr ne ↦ subst (StandsAt (reads old) (images old (clock old)) (reads new) (images new (clock new)) (store_at old_shelf s)) (sym (one.others.stores s ne))
          (stands_on (reads old) (reads mid) (reads new) (images old (clock old)) (images mid (clock mid)) (images new (clock new)) s (store_at old_shelf s) (store_at mid_shelf s)
          (own_mid s there) (left_by_one bound s mid_shelf new_shelf mid new kept one ne) (round.stands s (omega (arith, lt, ne)) there (λ gone. out ((marked.others s ne).1 gone))))
    ];
    quiet = λ s out. elim (cases_eq s bound) [
      | inl e ↦ subst (λ q. faults new q ≡ faults old q) (sym e) (one.quiet (is_kept (λ gone. out (subst (HasPosition then_lost) (sym e) gone))) ∙ round.quiet bound (λ gone. not_among gone))
      | inr ne ↦ one.faults_are s ne ∙ round.quiet s (λ gone. out ((marked.others s ne).1 gone))
    ];
    unbarred = λ s lt there out. elim (cases_eq s bound) [
      | inl e ↦ subst (λ q. IsBarredAt (store_at old_shelf q) → ⊥) (sym e)
          (subst (λ x. IsBarredAt x → ⊥) same_store (one.unbarred (is_kept (λ gone. out (subst (HasPosition then_lost) (sym e) gone)))))
      | inr ne ↦ round.unbarred s (omega (arith, lt, ne)) there (λ gone. out ((marked.others s ne).1 gone))
    ];
    outside = λ s out. one.others.stores s (not_here s out) ∙ round.outside s (raised s out);
    fetched = λ s. one.others.fetched s ∙ round.fetched s;
    any_moment = goes_on clock images old mid new (InSlots (images old (clock old)) set (bound + 1) step) (InSlot (images mid (clock mid)) bound (FlushesAt (reads mid) (images mid (clock mid)) (store_at mid_shelf bound)))
        (weaker clock images old mid (InSlots (images old (clock old)) set bound step) (InSlots (images old (clock old)) set (bound + 1) step) round.any_moment
        (λ image said from. record {
          source = from.source;
          was = from.was;
          others = λ s out a. from.others s (raised s out) a;
          stepped = λ s lt there. elim (cases_eq s bound) [
            | inl e ↦ inl (λ a. from.others s (λ below _. omega (arith, below, e)) a)
            | inr ne ↦ from.stepped s (omega (arith, lt, ne)) there
          ];
        }))
        one.any_moment
        (λ image said now. joined image said now (at_end clock images old mid (InSlots (images old (clock old)) set bound step) round.any_moment now.source said now.was));
    here = λ s. ((λ h. (one.here s).0 ((round.here s).0 h)), (λ h. (round.here s).1 ((one.here s).1 h)));
    reads_as = λ s a out. one.reads_as s a (not_here s out) ∙ round.reads_as s a (raised s out);
    said = one.said ∙ round.said;
    ready = λ s there. elim (cases_eq s bound) [
      | inl e ↦ subst (λ q. IfSome (store_at new_shelf q) (MayFlush (is_here new) (reads new) (images new (clock new)) q)) (sym e) one.ready
      | inr ne ↦ subst (λ (o : Option Store). IfSome o (MayFlush (is_here new) (reads new) (images new (clock new)) s)) (sym (one.others.stores s ne))
          (may_flush_on (is_here mid) (is_here new) (reads mid) (reads new) (images mid (clock mid)) (images new (clock new)) s (store_at mid_shelf s) (one.here s).0
          (left_by_one bound s mid_shelf new_shelf mid new kept one ne) (round.ready s there))
    ];
  }
    where
      step : ℕ → Areas → Areas → Type 0
      step s = FlushesAt (reads old) (images old (clock old)) (store_at old_shelf s)

      beyond : bound < bound → HasPosition set bound → ⊥
      beyond lt _ = omega (arith, lt)

      same_store : store_at mid_shelf bound ≡ store_at old_shelf bound
      same_store = round.outside bound beyond

      not_among : HasPosition lost bound → ⊥
      not_among gone = omega (arith, (round.among bound gone).0)

      raised : (s : ℕ) → (s < bound + 1 → HasPosition set s → ⊥) → s < bound → HasPosition set s → ⊥
      raised s out lt there = out (omega (arith, lt)) there

      not_here : (s : ℕ) → (s < bound + 1 → HasPosition set s → ⊥) → s ≢ bound
      not_here s out e = out (omega (arith, e)) (subst (HasPosition set) (sym e) has)

      left_here : IsLeft (reads old) (reads mid) (images old (clock old)) (images mid (clock mid)) bound
      left_here = left_by_round set bound lost bound old_shelf mid_shelf old mid round beyond

      own_mid : (s : ℕ) → HasPosition set s → IfSome (store_at mid_shelf s) (λ store. slot_in store ≡ s)
      own_mid s there = own_of (is_here mid) (reads mid) (images mid (clock mid)) s (store_at mid_shelf s) (round.ready s there)

      not_kept : HasPosition then_lost bound → kept ≡ false
      not_kept gone = elim (truth kept) [
        | inl true_is ↦ absurd (not_among (subst (λ l. HasPosition l bound) (marked.same true_is) gone))
        | inr false_is ↦ false_is
      ]

      is_kept : (HasPosition then_lost bound → ⊥) → kept ≡ true
      is_kept out = elim (truth kept) [
        | inl true_is ↦ true_is
        | inr false_is ↦ absurd (out (marked.lost false_is))
      ]

      here_lost : kept ≡ false → IsLostAt (faults old bound) (faults new bound) (store_at old_shelf bound) (store_at new_shelf bound)
      here_lost gone = record {
        store = subst (λ x. FlushedAt x (store_at new_shelf bound) false) same_store (subst (FlushedAt (store_at mid_shelf bound) (store_at new_shelf bound)) gone one.after);
        cause = subst (λ x. Rose (faults old bound) (faults new bound) ⊎ IsBarredAt x) same_store
            (subst (λ n. Rose n (faults new bound) ⊎ IsBarredAt (store_at mid_shelf bound)) (round.quiet bound not_among) (one.cause gone));
      }

      joined : (image : Image) (said : List ℕ) → (now : InSlot (images mid (clock mid)) bound (FlushesAt (reads mid) (images mid (clock mid)) (store_at mid_shelf bound)) image said)
          → InSlots (images old (clock old)) set bound step now.source said → InSlots (images old (clock old)) set (bound + 1) step image said
      joined image said now from = record {
        source = from.source;
        was = from.was;
        others = λ s out a. now.others s (not_here s out) a ∙ from.others s (raised s out) a;
        stepped = λ s lt there. elim (cases_eq s bound) [
          | inl e ↦ inr (subst (λ q. step q (from.source q) (image q)) (sym e)
              (flushes_since (reads old) (reads mid) (images old (clock old)) (images mid (clock mid)) bound (store_at old_shelf bound) (from.source bound) (now.source bound) (image bound)
              (subst (λ (o : Option Store). IfSome o (λ store. slot_in store ≡ bound)) same_store (own_mid bound has)) left_here (λ a. from.others bound beyond a)
              (subst (λ x. FlushesAt (reads mid) (images mid (clock mid)) x (now.source bound) (image bound)) same_store now.stepped)))
          | inr ne ↦ elim (from.stepped s (omega (arith, lt, ne)) there) [
            | inl same ↦ inl (λ a. now.others s ne a ∙ same a)
            | inr moved ↦ inr (subst (step s (from.source s)) (sym (λ i a. now.others s ne a i)) moved)
          ]
        ];
      }

-- ---- the set of lost slots

pub marked_lost : (lost slot : ℕ) → slot < 16 → IsMarked lost (bit_or lost (1 * 2 ^ slot % 2 ^ 16)) slot false
marked_lost lost slot lt = record {
  others = λ s ne. ((λ now. sym (bit_at_set_other w16 lost slot lt s ne) ∙ now), (λ was. bit_at_set_other w16 lost slot lt s ne ∙ was));
  same = λ is. absurd (false≢true is);
  lost = λ is. bit_at_set_same w16 lost slot lt;
}

pub marked_kept : (lost slot : ℕ) → IsMarked lost lost slot true
marked_kept lost slot = record {
  others = λ s ne. ((λ now. now), (λ was. was));
  same = λ is. refl;
  lost = λ is. absurd (false≢true (sym is));
}
