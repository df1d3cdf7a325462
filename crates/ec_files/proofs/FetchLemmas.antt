-- Files of chunks, read one after another.
use Rattle.std.proofs.Common.{◌≡◌, ◌<◌, ◌≤◌, ◌+◌, ℕ, List, [], take, length, get_or, Option, Some, None, IsSome, Ok, Err, ap, sym, subst, ◌∙◌, arith, inl, inr}
use Rattle.std.specs.FinMap as map
use Rattle.std.proofs.lemmas.Bool.{cases_eq}
use Rattle.std.proofs.lemmas.List.{get_or-take, length-take-le}
use Rattle.stripe_map.specs.Chunks.{chunk_of_position, KeepsOthers}
use Rattle.ec_files.specs.Accesses.{ReadsOrStops}
use Rattle.ec_files.specs.Chunks.{chunk_name, AreReadable}
use Rattle.ec_files.specs.Decoding.{AreShort, IsAmong, HaveChunks, AreFetched, Fetches, StopsReading}
use Rattle.ec_files.specs.Files.{FileMap, max_file}
use Rattle.ec_files.specs.declared.stop.Stop.{Stop}
use Rattle.ec_files.specs.declared.stop.Stop.TheVariants.{Usage, Profile, Missing, Failed, NotDecided, Lengths, TooLong, NoMemory}

some_is : (o : Option (List ℕ)) (bytes : List ℕ) → o ≡ Some bytes → IsSome o
some_is o bytes e = cc

below : (k count : ℕ) → k < count + 1 → (k ≡ count → ⊥) → k < count
below k count lk other = grind arith

-- one position more is among the first ones
pub among_more : (listed : List ℕ) (i p : ℕ) → i < length listed → IsAmong (take i listed) p → IsAmong (take (i + 1) listed) p
among_more listed i p lt among = (among.0, (omega (arith, among.1.0, short, long), get_or-take (i + 1) listed among.0 0 (omega (arith, among.1.0, short)) ∙ sym (get_or-take i listed among.0 0 (omega (arith, among.1.0, short))) ∙ among.1.1)) where
  short : length (take i listed) ≡ i
  short = length-take-le i listed (omega arith)

  long : length (take (i + 1) listed) ≡ i + 1
  long = length-take-le (i + 1) listed (omega arith)

pub among_last : (listed : List ℕ) (i : ℕ) → i < length listed → IsAmong (take (i + 1) listed) (get_or listed i 0)
among_last listed i lt = (i, (omega (arith, length-take-le (i + 1) listed (omega arith)), get_or-take (i + 1) listed i 0 (omega arith)))

pub have_one_more : (listed : List ℕ) (i : ℕ) (old new : List (Option (List ℕ))) (bytes : List ℕ) → i < length listed
    → chunk_of_position new (get_or listed i 0) ≡ Some bytes → KeepsOthers old new (get_or listed i 0)
    → HaveChunks (take i listed) old → HaveChunks (take (i + 1) listed) new
have_one_more listed i old new bytes lt value others so_far q = (there, has) where
  there : IsSome (chunk_of_position new q) → IsAmong (take (i + 1) listed) q
  there some = elim (cases_eq q (get_or listed i 0)) [
    | inl e ↦ subst (λ (p : ℕ). IsAmong (take (i + 1) listed) p) (sym e) (among_last listed i lt)
    | inr ne ↦ among_more listed i q lt ((so_far q).0 (subst (λ (o : Option (List ℕ)). IsSome o) (others q ne) some))
  ]

  earlier : (found : IsAmong (take (i + 1) listed) q) → (q ≡ get_or listed i 0 → ⊥) → IsAmong (take i listed) q
  earlier found ne =
      let long = length-take-le (i + 1) listed (omega arith) in
      let short = length-take-le i listed (omega arith) in
      let shown = sym (get_or-take (i + 1) listed found.0 0 (omega (arith, found.1.0, long))) ∙ found.1.1 in
      let before = below found.0 i (omega (arith, found.1.0, long)) (λ e. ne (sym shown ∙ ap (λ k. get_or listed k 0) e)) in
      (found.0, (omega (arith, before, short), get_or-take i listed found.0 0 before ∙ shown))

  has : IsAmong (take (i + 1) listed) q → IsSome (chunk_of_position new q)
  has found = elim (cases_eq q (get_or listed i 0)) [
    | inl e ↦ some_is (chunk_of_position new q) bytes (ap (chunk_of_position new) e ∙ value)
    | inr ne ↦ subst (λ (o : Option (List ℕ)). IsSome o) (sym (others q ne)) ((so_far q).1 (earlier found ne))
  ]

are_one_more : (files : FileMap) (name : List ℕ) (listed : List ℕ) (i : ℕ) (old new : List (Option (List ℕ))) (bytes : List ℕ) → i < length listed
    → chunk_of_position new (get_or listed i 0) ≡ Some bytes → KeepsOthers old new (get_or listed i 0)
    → map.get files (chunk_name name (get_or listed i 0)) ≡ Some bytes → length bytes ≤ max_file
    → AreFetched files name (take i listed) old → AreFetched files name (take (i + 1) listed) new
are_one_more files name listed i old new bytes lt value others found bound so_far j lj =
    elim (cases_eq (get_or (take (i + 1) listed) j 0) (get_or listed i 0)) [
      | inl e ↦ (bytes, ap (λ p. map.get files (chunk_name name p)) e ∙ found, bound, ap (chunk_of_position new) e ∙ value)
      | inr ne ↦
          let long = length-take-le (i + 1) listed (omega arith) in
          let short = length-take-le i listed (omega arith) in
          let first = get_or-take (i + 1) listed j 0 (omega (arith, lj, long)) in
          let before = below j i (omega (arith, lj, long)) (λ e. ne (first ∙ ap (λ k. get_or listed k 0) e)) in
          let same = first ∙ sym (get_or-take i listed j 0 before) in
          let one = so_far j (omega (arith, before, short)) in
          (one.0, ap (λ p. map.get files (chunk_name name p)) same ∙ one.1, one.2, others _ ne ∙ ap (chunk_of_position old) same ∙ one.3)
    ]

pub fetched_one_more : (files : Option FileMap) (name : List ℕ) (listed : List ℕ) (i : ℕ) (old new : List (Option (List ℕ))) (bytes : List ℕ) → i < length listed
    → chunk_of_position new (get_or listed i 0) ≡ Some bytes → KeepsOthers old new (get_or listed i 0)
    → ReadsOrStops files (chunk_name name (get_or listed i 0)) (Ok bytes)
    → Fetches files name (take i listed) old → Fetches files name (take (i + 1) listed) new
fetched_one_more None name listed i old new bytes lt value others reads so_far = tt
fetched_one_more (Some files) name listed i old new bytes lt value others reads so_far =
    are_one_more files name listed i old new bytes lt value others reads.0 reads.1 so_far

-- what was fetched can be read
pub readable : (files : FileMap) (name : List ℕ) (listed : List ℕ) (chunks : List (Option (List ℕ))) → AreFetched files name listed chunks → AreReadable files name listed
readable files name listed chunks fetched i lt = let one = fetched i lt in (one.0, one.1, one.2)

pub stopped_reading : (files : Option FileMap) (name : List ℕ) (listed : List ℕ) (i : ℕ) (chunks : List (Option (List ℕ))) (stop : Stop) → i < length listed
    → Fetches files name (take i listed) chunks → ReadsOrStops files (chunk_name name (get_or listed i 0)) (Err stop) → StopsReading files name listed stop
stopped_reading None name listed i chunks (Missing shown) lt fetched reads = (i, lt, reads)
stopped_reading None name listed i chunks (TooLong shown) lt fetched reads = (i, lt, reads)
stopped_reading None name listed i chunks (Failed shown) lt fetched reads = (i, lt, reads)
stopped_reading None name listed i chunks NoMemory lt fetched reads = (i, lt, tt)
stopped_reading None name listed i chunks Usage lt fetched reads = absurd reads
stopped_reading None name listed i chunks (Profile f) lt fetched reads = absurd reads
stopped_reading None name listed i chunks NotDecided lt fetched reads = absurd reads
stopped_reading None name listed i chunks Lengths lt fetched reads = absurd reads
stopped_reading (Some files) name listed i chunks (Missing shown) lt fetched reads = (i, lt, (reads.1, readable files name (take i listed) chunks fetched, reads.0))
stopped_reading (Some files) name listed i chunks (TooLong shown) lt fetched reads = (i, lt, (reads.1, readable files name (take i listed) chunks fetched, reads.0))
stopped_reading (Some files) name listed i chunks (Failed shown) lt fetched reads = (i, lt, (reads, readable files name (take i listed) chunks fetched))
stopped_reading (Some files) name listed i chunks NoMemory lt fetched reads = (i, lt, tt)
stopped_reading (Some files) name listed i chunks Usage lt fetched reads = absurd reads
stopped_reading (Some files) name listed i chunks (Profile f) lt fetched reads = absurd reads
stopped_reading (Some files) name listed i chunks NotDecided lt fetched reads = absurd reads
stopped_reading (Some files) name listed i chunks Lengths lt fetched reads = absurd reads

no_chunk : (o : Option (List ℕ)) (bytes : List ℕ) → o ≡ None → o ≡ Some bytes → ⊥
no_chunk o bytes none some = cc

not_there : (o : Option (List ℕ)) → o ≡ None → IsSome o → ⊥
not_there o none some = cc

pub nothing_had : (chunks : List (Option (List ℕ))) → ((p : ℕ) → chunk_of_position chunks p ≡ None) → HaveChunks [] chunks
nothing_had chunks none p = (λ some. absurd (not_there (chunk_of_position chunks p) (none p) some), λ found. absurd (omega (arith, found.1.0)))

pub nothing_fetched : (files : Option FileMap) (name : List ℕ) (chunks : List (Option (List ℕ))) → Fetches files name [] chunks
nothing_fetched None name chunks = tt
nothing_fetched (Some files) name chunks = λ i lt. absurd (omega (arith, lt))

pub nothing_long : (chunks : List (Option (List ℕ))) → ((p : ℕ) → chunk_of_position chunks p ≡ None) → AreShort chunks
nothing_long chunks none p bytes some = absurd (no_chunk (chunk_of_position chunks p) bytes (none p) some)

same_bytes : (a b : List ℕ) → Some a ≡ Some b → a ≡ b
same_bytes a b e = cc

pub short_one_more : (old new : List (Option (List ℕ))) (p : ℕ) (bytes : List ℕ) → length bytes ≤ max_file → chunk_of_position new p ≡ Some bytes → KeepsOthers old new p
    → AreShort old → AreShort new
short_one_more old new p bytes bound value others short q other some = elim (cases_eq q p) [
  | inl e ↦ subst (λ (b : List ℕ). length b ≤ max_file) (same_bytes bytes other (sym value ∙ ap (chunk_of_position new) (sym e) ∙ some)) bound
  | inr ne ↦ short q other (sym (others q ne) ∙ some)
]
