-- What calls one after the other leave of the slots that they don't work on, and what they cost the others.
use Rattle.std.proofs.Common.{◌≡◌, ◌≢◌, ◌<◌, ◌≤◌, ◌+◌, inl, inr, ℕ, List, Option, refl, subst, ◌∙◌, arith}
use Rattle.std.proofs.lemmas.Bool.{cases_eq}
use Rattle.rig_disk.specs.Frame.{Adds, KeepsCounts, Spends}
use Rattle.rig_disk.proofs.FrameLemmas.{Adds-more, Adds-none, Adds-weaker, Spends-kept, Spends-more, Spends-none, Spends-weaker}
use Rattle.slot_journal.specs.Limits.{make_reads, make_syncs}
use Rattle.slot_journal.specs.Reading.{KeepsOtherSlots}
use Rattle.slot_journal.specs.Working.{WorksOnSlot}
use Rattle.shard_store.specs.Limits.{store_bytes}
use Rattle.pool_making.specs.Frames.{Costs, IsOfPool, KeepsOutside, SpendsBelow}

module _ {R : Type 0} (is_here : R → ℕ → Type 0) (reads_of : R → ℕ → ℕ → Option (List ℕ)) (said_of : R → Option (List ℕ)) (faults_of : R → ℕ → ℕ)
    (syncs_of written_of read_of : R → ℕ → Option ℕ) where
  abbrev Keeps : (ℕ → Type 0) → R → R → Type 0
  Keeps among old new = KeepsOutside among is_here reads_of said_of syncs_of written_of read_of old new

  pub nothing_done : (among : ℕ → Type 0) (rig : R) → Keeps among rig rig
  nothing_done among rig = record {
    said = refl;
    stays = λ s here. here;
    only_here = λ s out here. here;
    reads = λ s a out. refl;
    syncs = λ s out. refl;
    written = λ s out. refl;
    read = λ s out. refl;
  }

  -- a call on one of the slots after others
  pub then_on : (among wider : ℕ → Type 0) (slot : ℕ) (old mid new : R) → ((s : ℕ) → among s → wider s) → wider slot → Keeps among old mid
      → KeepsOtherSlots is_here reads_of said_of faults_of syncs_of written_of read_of slot mid new → Keeps wider old new
  then_on among wider slot old mid new more own f kept = record {
    said = kept.said ∙ f.said;
    stays = λ s here. (kept.here s).0 (f.stays s here);
    only_here = λ s out here. f.only_here s (λ is. out (more s is)) ((kept.here s).1 here);
    reads = λ s a out. kept.reads s a (far s out) ∙ f.reads s a (λ is. out (more s is));
    syncs = λ s out. kept.counts.syncs s (far s out) ∙ f.syncs s (λ is. out (more s is));
    written = λ s out. kept.counts.written s (far s out) ∙ f.written s (λ is. out (more s is));
    read = λ s out. kept.counts.read s (far s out) ∙ f.read s (λ is. out (more s is));
  }
    where
      far : (s : ℕ) → (wider s → ⊥) → s ≢ slot
      far s out e = out (rw e own)

  -- the placing of one of the slots after others
  pub then_placed : (among wider : ℕ → Type 0) (slot : ℕ) (old mid new : R) → ((s : ℕ) → among s → wider s) → wider slot → Keeps among old mid
      → said_of new ≡ said_of mid → ((s : ℕ) → is_here mid s → is_here new s) → ((s : ℕ) → s ≢ slot → is_here new s → is_here mid s)
      → ((s a : ℕ) → reads_of new s a ≡ reads_of mid s a) → KeepsCounts faults_of syncs_of written_of read_of slot mid new → Keeps wider old new
  then_placed among wider slot old mid new more own f said stays only reads kept = record {
    said = said ∙ f.said;
    stays = λ s here. stays s (f.stays s here);
    only_here = λ s out here. f.only_here s (λ is. out (more s is)) (only s (far s out) here);
    reads = λ s a out. reads s a ∙ f.reads s a (λ is. out (more s is));
    syncs = λ s out. kept.syncs s (far s out) ∙ f.syncs s (λ is. out (more s is));
    written = λ s out. kept.written s (far s out) ∙ f.written s (λ is. out (more s is));
    read = λ s out. kept.read s (far s out) ∙ f.read s (λ is. out (more s is));
  }
    where
      far : (s : ℕ) → (wider s → ⊥) → s ≢ slot
      far s out e = out (rw e own)

  -- calls on some of the slots after calls on others
  pub then_more : (among next wider : ℕ → Type 0) (old mid new : R) → ((s : ℕ) → among s → wider s) → ((s : ℕ) → next s → wider s) → Keeps among old mid
      → Keeps next mid new → Keeps wider old new
  then_more among next wider old mid new more its f g = record {
    said = g.said ∙ f.said;
    stays = λ s here. g.stays s (f.stays s here);
    only_here = λ s out here. f.only_here s (λ is. out (more s is)) (g.only_here s (λ is. out (its s is)) here);
    reads = λ s a out. g.reads s a (λ is. out (its s is)) ∙ f.reads s a (λ is. out (more s is));
    syncs = λ s out. g.syncs s (λ is. out (its s is)) ∙ f.syncs s (λ is. out (more s is));
    written = λ s out. g.written s (λ is. out (its s is)) ∙ f.written s (λ is. out (more s is));
    read = λ s out. g.read s (λ is. out (its s is)) ∙ f.read s (λ is. out (more s is));
  }

  pub none_spent : (n s w r : ℕ) (rig : R) → SpendsBelow syncs_of written_of read_of n s w r rig rig
  none_spent n s w r rig u below = Spends-weaker syncs_of written_of read_of u 0 0 0 s w r rig rig (omega arith) (omega arith) (omega arith) (Spends-none syncs_of written_of read_of u rig)

  -- one slot that is not among those that were worked on has a call
  pub one_spends : (among : ℕ → Type 0) (n p s w r : ℕ) (old mid new : R) → (among p → ⊥) → Keeps among old mid
      → KeepsCounts faults_of syncs_of written_of read_of p mid new → Spends syncs_of written_of read_of p s w r mid new
      → SpendsBelow syncs_of written_of read_of n s w r old mid → SpendsBelow syncs_of written_of read_of n s w r old new
  one_spends among n p s w r old mid new fresh f kept own before u below = elim (cases_eq u p) [
    | inl e ↦ rw e (record {
      syncs = subst (λ (c : Option ℕ). Adds s c (syncs_of new p)) (f.syncs p fresh) own.syncs;
      written = subst (λ (c : Option ℕ). Adds w c (written_of new p)) (f.written p fresh) own.written;
      read = subst (λ (c : Option ℕ). Adds r c (read_of new p)) (f.read p fresh) own.read;
    })
    | inr ne ↦
        let was = before u below in
        record {
          syncs = rw (kept.syncs u ne) was.syncs;
          written = rw (kept.written u ne) was.written;
          read = rw (kept.read u ne) was.read;
        }
  ]

  -- calls on the slots below n alone
  pub of_shards : (n s w r : ℕ) (old new : R) → n < 17 → Keeps (λ u. u < n) old new → SpendsBelow syncs_of written_of read_of n s w r old new
      → Costs syncs_of written_of read_of n s w r 0 0 old new
  of_shards n s w r old new few f spends = record {
    shards = spends;
    syncs = rw (f.syncs 16 (λ below. omega (arith, below, few))) (Adds-none (syncs_of old 16));
    written = rw (f.written 16 (λ below. omega (arith, below, few))) (Adds-none (written_of old 16));
  }

  -- calls on the map's slot alone
  pub of_map : (n m x : ℕ) (old new : R) → n < 17 → KeepsCounts faults_of syncs_of written_of read_of 16 old new → Adds m (syncs_of old 16) (syncs_of new 16)
      → Adds x (written_of old 16) (written_of new 16) → Costs syncs_of written_of read_of n 0 0 0 m x old new
  of_map n m x old new few kept syncs written = record {
    shards = λ u below. Spends-kept faults_of syncs_of written_of read_of 16 u old new (λ e. omega (arith, e, below, few)) kept;
    syncs = syncs;
    written = written;
  }

  pub costs_more : (n s w r m x s' w' r' m' x' : ℕ) (old mid new : R) → Costs syncs_of written_of read_of n s w r m x old mid
      → Costs syncs_of written_of read_of n s' w' r' m' x' mid new → Costs syncs_of written_of read_of n (s + s') (w + w') (r + r') (m + m') (x + x') old new
  costs_more n s w r m x s' w' r' m' x' old mid new f g = record {
    shards = λ u below. Spends-more syncs_of written_of read_of u s w r s' w' r' old mid new (f.shards u below) (g.shards u below);
    syncs = Adds-more m m' (syncs_of old 16) (syncs_of mid 16) (syncs_of new 16) f.syncs g.syncs;
    written = Adds-more x x' (written_of old 16) (written_of mid 16) (written_of new 16) f.written g.written;
  }

  pub costs_weaker : (n s w r m x s' w' r' m' x' : ℕ) (old new : R) → (s ≤ s') × (w ≤ w') × (r ≤ r') × (m ≤ m') × (x ≤ x')
      → Costs syncs_of written_of read_of n s w r m x old new → Costs syncs_of written_of read_of n s' w' r' m' x' old new
  costs_weaker n s w r m x s' w' r' m' x' old new le f = record {
    shards = λ u below. Spends-weaker syncs_of written_of read_of u s w r s' w' r' old new le.0 le.1 le.2 (f.shards u below);
    syncs = Adds-weaker m m' (syncs_of old 16) (syncs_of new 16) le.3 f.syncs;
    written = Adds-weaker x x' (written_of old 16) (written_of new 16) le.4 f.written;
  }

  -- the map's slot is placed
  module _ (n : ℕ) (few : n < 17) (old placed : R) (said : said_of placed ≡ said_of old) (stays : (s : ℕ) → is_here old s → is_here placed s)
      (only : (s : ℕ) → s ≢ 16 → is_here placed s → is_here old s) (reads : (s a : ℕ) → reads_of placed s a ≡ reads_of old s a)
      (kept : KeepsCounts faults_of syncs_of written_of read_of 16 old placed) (spends : Spends syncs_of written_of read_of 16 0 0 0 old placed) where
    pub map_placed : Keeps (IsOfPool n) old placed
    map_placed = then_placed (λ s. ⊥) (IsOfPool n) 16 old old placed (λ s out. absurd out) (inr refl) (nothing_done (λ s. ⊥) old) said stays only reads kept

    pub map_placed_costs : Costs syncs_of written_of read_of n 0 0 0 1 0 old placed
    map_placed_costs = of_map n 1 0 old placed few kept (Adds-weaker 0 1 (syncs_of old 16) (syncs_of placed 16) (omega arith) spends.syncs) spends.written

    -- and asked whether there is a pool
    module _ (asked : R) (others : KeepsOtherSlots is_here reads_of said_of faults_of syncs_of written_of read_of 16 placed asked)
        (one_sync : Adds 1 (syncs_of placed 16) (syncs_of asked 16)) (none_written : Adds 0 (written_of placed 16) (written_of asked 16)) where
      pub map_asked : Keeps (IsOfPool n) old asked
      map_asked = then_on (IsOfPool n) (IsOfPool n) 16 old placed asked (λ s is. is) (inr refl) map_placed others

      pub map_asked_costs : Costs syncs_of written_of read_of n 0 0 0 1 0 old asked
      map_asked_costs = costs_more n 0 0 0 0 0 0 0 0 1 0 old placed asked (of_map n 0 0 old placed few kept spends.syncs spends.written)
          (of_map n 1 0 placed asked few others.counts one_sync none_written)

      -- and the slots below n are placed
      module _ (new : R) (f : Keeps (λ s. s < n) asked new) (free : SpendsBelow syncs_of written_of read_of n 0 0 0 asked new) where
        pub all_placed : Keeps (IsOfPool n) old new
        all_placed = then_more (IsOfPool n) (λ s. s < n) (IsOfPool n) old asked new (λ s is. is) (λ s below. inl below) map_asked f

        pub all_placed_costs : Costs syncs_of written_of read_of n 0 0 0 1 0 old new
        all_placed_costs = costs_more n 0 0 0 1 0 0 0 0 0 0 old asked new map_asked_costs (of_shards n 0 0 0 asked new few f free)

  -- the shards are made, and the map behind them
  module _ (n : ℕ) (few : n < 17) (old mid : R) (f : Keeps (λ s. s < n) old mid)
      (spends : SpendsBelow syncs_of written_of read_of n make_syncs store_bytes make_reads old mid) where
    pub shards_made : Keeps (IsOfPool n) old mid
    shards_made = then_more (λ s. ⊥) (λ s. s < n) (IsOfPool n) old old mid (λ s out. absurd out) (λ s below. inl below) (nothing_done (λ s. ⊥) old) f

    pub shards_made_costs : Costs syncs_of written_of read_of n make_syncs store_bytes make_reads make_syncs 4062 old mid
    shards_made_costs = costs_weaker n make_syncs store_bytes make_reads 0 0 make_syncs store_bytes make_reads make_syncs 4062 old mid
        (omega arith, omega arith, omega arith, omega arith, omega arith) (of_shards n make_syncs store_bytes make_reads old mid few f spends)

    module _ (new : R) (on_map : WorksOnSlot is_here reads_of said_of faults_of syncs_of written_of read_of 16 make_syncs 4062 make_reads mid new) where
      pub all_made : Keeps (IsOfPool n) old new
      all_made = then_on (λ s. s < n) (IsOfPool n) 16 old mid new (λ s below. inl below) (inr refl) f on_map.kept

      pub all_made_costs : Costs syncs_of written_of read_of n make_syncs store_bytes make_reads make_syncs 4062 old new
      all_made_costs = costs_more n make_syncs store_bytes make_reads 0 0 0 0 0 make_syncs 4062 old mid new
          (of_shards n make_syncs store_bytes make_reads old mid few f spends) (of_map n make_syncs 4062 mid new few on_map.kept.counts on_map.counts.syncs on_map.counts.written)
