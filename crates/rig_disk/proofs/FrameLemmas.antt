-- Two calls one after the other: what they keep and what they spend. What layers above cite.
use Rattle.std.proofs.Common.{◌≢◌, ◌≤◌, ◌+◌, ℕ, List, Option, None, Some, arith, refl, ◌∙◌}
use Rattle.rig_disk.specs.Frame.{Adds, Spends, KeepsCounts, KeepsOthers}

pub Adds-more : (m n : ℕ) (a b c : Option ℕ) → Adds m a b → Adds n b c → Adds (m + n) a c
Adds-more m n None b c p q = tt
Adds-more m n (Some a) None c p q = absurd p
Adds-more m n (Some a) (Some b) None p q = absurd q
Adds-more m n (Some a) (Some b) (Some c) p q = (omega (arith, p.0, q.0), omega (arith, p.1, q.1))

pub Adds-weaker : (m n : ℕ) (a b : Option ℕ) → m ≤ n → Adds m a b → Adds n a b
Adds-weaker m n None b le p = tt
Adds-weaker m n (Some a) None le p = absurd p
Adds-weaker m n (Some a) (Some b) le p = (p.0, omega (arith, p.1, le))

pub Adds-none : (a : Option ℕ) → Adds 0 a a
Adds-none None = tt
Adds-none (Some a) = (omega arith, omega arith)

module _ {R : Type 0} (syncs_of written_of read_of : R → ℕ → Option ℕ) (slot : ℕ) where
  pub Spends-more : (s w r s' w' r' : ℕ) (old mid new : R) → Spends syncs_of written_of read_of slot s w r old mid → Spends syncs_of written_of read_of slot s' w' r' mid new
      → Spends syncs_of written_of read_of slot (s + s') (w + w') (r + r') old new
  Spends-more s w r s' w' r' old mid new p q = record {
    syncs = Adds-more s s' (syncs_of old slot) (syncs_of mid slot) (syncs_of new slot) p.syncs q.syncs;
    written = Adds-more w w' (written_of old slot) (written_of mid slot) (written_of new slot) p.written q.written;
    read = Adds-more r r' (read_of old slot) (read_of mid slot) (read_of new slot) p.read q.read;
  }

  pub Spends-weaker : (s w r s' w' r' : ℕ) (old new : R) → s ≤ s' → w ≤ w' → r ≤ r' → Spends syncs_of written_of read_of slot s w r old new → Spends syncs_of written_of read_of slot s' w' r' old new
  Spends-weaker s w r s' w' r' old new ls lw lr p = record {
    syncs = Adds-weaker s s' (syncs_of old slot) (syncs_of new slot) ls p.syncs;
    written = Adds-weaker w w' (written_of old slot) (written_of new slot) lw p.written;
    read = Adds-weaker r r' (read_of old slot) (read_of new slot) lr p.read;
  }

  pub Spends-none : (rig : R) → Spends syncs_of written_of read_of slot 0 0 0 rig rig
  Spends-none rig = record { syncs = Adds-none (syncs_of rig slot); written = Adds-none (written_of rig slot); read = Adds-none (read_of rig slot) }

module _ {R : Type 0} (faults_of : R → ℕ → ℕ) (syncs_of written_of read_of : R → ℕ → Option ℕ) (slot : ℕ) where
  pub KeepsCounts-more : (old mid new : R) → KeepsCounts faults_of syncs_of written_of read_of slot old mid → KeepsCounts faults_of syncs_of written_of read_of slot mid new → KeepsCounts faults_of syncs_of written_of read_of slot old new
  KeepsCounts-more old mid new p q = record {
    faults = λ s other. q.faults s other ∙ p.faults s other;
    syncs = λ s other. q.syncs s other ∙ p.syncs s other;
    written = λ s other. q.written s other ∙ p.written s other;
    read = λ s other. q.read s other ∙ p.read s other;
  }

  pub KeepsCounts-none : (rig : R) → KeepsCounts faults_of syncs_of written_of read_of slot rig rig
  KeepsCounts-none rig = record { faults = λ s other. refl; syncs = λ s other. refl; written = λ s other. refl; read = λ s other. refl }

-- a slot whose counts stay spends nothing
pub Spends-kept : {R : Type 0} (faults_of : R → ℕ → ℕ) (syncs_of written_of read_of : R → ℕ → Option ℕ) (slot s : ℕ) (old new : R) → s ≢ slot → KeepsCounts faults_of syncs_of written_of read_of slot old new → Spends syncs_of written_of read_of s 0 0 0 old new
Spends-kept faults_of syncs_of written_of read_of slot s old new other kept = record {
  syncs = rw (kept.syncs s other) (Adds-none (syncs_of old s));
  written = rw (kept.written s other) (Adds-none (written_of old s));
  read = rw (kept.read s other) (Adds-none (read_of old s));
}

module _ {R : Type 0} (is_here : R → ℕ → Type 0) (reads_of : R → ℕ → ℕ → Option (List ℕ)) (said_of : R → Option (List ℕ)) (faults_of : R → ℕ → ℕ)
    (syncs_of written_of read_of : R → ℕ → Option ℕ) (slot area : ℕ) where
  pub KeepsOthers-more : (old mid new : R) → KeepsOthers is_here reads_of said_of faults_of syncs_of written_of read_of slot area old mid → KeepsOthers is_here reads_of said_of faults_of syncs_of written_of read_of slot area mid new
      → KeepsOthers is_here reads_of said_of faults_of syncs_of written_of read_of slot area old new
  KeepsOthers-more old mid new p q = record {
    here = λ s. (λ before. (q.here s).0 ((p.here s).0 before), λ now. (p.here s).1 ((q.here s).1 now));
    reads = λ s a other. q.reads s a other ∙ p.reads s a other;
    said = q.said ∙ p.said;
    counts = KeepsCounts-more faults_of syncs_of written_of read_of slot old mid new p.counts q.counts;
  }

  pub KeepsOthers-none : (rig : R) → KeepsOthers is_here reads_of said_of faults_of syncs_of written_of read_of slot area rig rig
  KeepsOthers-none rig = record {
    here = λ s. (λ before. before, λ now. now);
    reads = λ s a other. refl;
    said = refl;
    counts = KeepsCounts-none faults_of syncs_of written_of read_of slot rig;
  }
