-- Files of chunks, one after another.
use Rattle.std.specs.Result.{IsErrAnd}
use Rattle.std.proofs.Common.{Result, Ok, Err, ◌≡◌, ◌<◌, ◌+◌, ℕ, List, [], ◌∷◌, ◌++◌, take, length, get_or, Option, Some, None, refl, ap, sym, subst, ◌∙◌}
use Rattle.std.specs.FinMap as map
use Rattle.std.proofs.lemmas.List.{take_more}
use Rattle.ec_model.specs.Codes.{CodeRows, IsPositionList}
use Rattle.ec_files.specs.Chunks.{chunk_name, Written, after, AreChunkFiles}
use Rattle.ec_files.specs.Accesses.{Told}
use Rattle.ec_files.specs.Encoding.{HasChunk, HasChunks, HasChunksBut, StopsOne, WritesChunks, StopsChunks}
use Rattle.ec_files.specs.Files.{FileMap, KeepsOthers}
use Rattle.ec_files.specs.declared.stop.Stop.{Stop}
use Rattle.ec_files.specs.declared.stop.Stop.TheVariants.{Usage, Profile, Missing, Failed, NotDecided, Lengths, TooLong, NoMemory}

-- nothing is written yet
pub no_chunks : (code : CodeRows) (unit : ℕ) (name bytes : List ℕ) (files : Option FileMap) → Told files files (HasChunks code unit name bytes [])
no_chunks code unit name bytes None = tt
no_chunks code unit name bytes (Some files) = ([], tt, refl)

after_one_more : (files : FileMap) (written : List Written) (one : Written) → after files (written ++ one ∷ []) ≡ map.insert (after files written) one.0 one.1
after_one_more files [] one = refl
after_one_more files (first ∷ written) one = after_one_more (map.insert files first.0 first.1) written one

are_one_more : (code : CodeRows) (unit : ℕ) (name bytes : List ℕ) (wanted : List ℕ) (p : ℕ) (written : List Written) (chunks : List ℕ)
    → AreChunkFiles code unit name bytes wanted written → IsPositionList code unit bytes p chunks
    → AreChunkFiles code unit name bytes (wanted ++ p ∷ []) (written ++ (chunk_name name p, chunks) ∷ [])
are_one_more code unit name bytes [] p [] chunks are is = (refl, is, tt)
are_one_more code unit name bytes [] p (w ∷ written) chunks are is = absurd are
are_one_more code unit name bytes (q ∷ wanted) p [] chunks are is = absurd are
are_one_more code unit name bytes (q ∷ wanted) p (w ∷ written) chunks are is =
    (are.0, are.1, are_one_more code unit name bytes wanted p written chunks are.2 is)

one_more : (code : CodeRows) (unit : ℕ) (name bytes : List ℕ) (wanted : List ℕ) (p : ℕ) (before mid now : Option FileMap)
    → Told before mid (HasChunks code unit name bytes wanted) → Told mid now (HasChunk code unit name bytes p)
    → Told before now (HasChunks code unit name bytes (wanted ++ p ∷ []))
one_more code unit name bytes wanted p None None None so_far one = tt
one_more code unit name bytes wanted p None None (Some now) so_far one = absurd one
one_more code unit name bytes wanted p None (Some mid) now so_far one = absurd so_far
one_more code unit name bytes wanted p (Some before) None now so_far one = absurd so_far
one_more code unit name bytes wanted p (Some before) (Some mid) None so_far one = absurd one
one_more code unit name bytes wanted p (Some before) (Some mid) (Some now) so_far one = (
  so_far.0 ++ (chunk_name name p, one.0) ∷ [],
  are_one_more code unit name bytes wanted p so_far.0 one.0 so_far.1 one.1,
  one.2 ∙ ap (λ files. map.insert files (chunk_name name p) one.0) so_far.2 ∙ sym (after_one_more before so_far.0 (chunk_name name p, one.0)),
)

-- the chunks of the next wanted position
pub next_chunks : (code : CodeRows) (unit : ℕ) (name bytes : List ℕ) (wanted : List ℕ) (i : ℕ) (before mid now : Option FileMap) → i < length wanted
    → Told before mid (HasChunks code unit name bytes (take i wanted)) → Told mid now (HasChunk code unit name bytes (get_or wanted i 0))
    → Told before now (HasChunks code unit name bytes (take (i + 1) wanted))
next_chunks code unit name bytes wanted i before mid now lt so_far one =
    subst (λ (w : List ℕ). Told before now (HasChunks code unit name bytes w)) (sym (take_more wanted i 0 lt))
    (one_more code unit name bytes (take i wanted) (get_or wanted i 0) before mid now so_far one)

but_one : (code : CodeRows) (unit : ℕ) (name bytes : List ℕ) (wanted next : List ℕ) (before mid now : Option FileMap)
    → Told before mid (HasChunks code unit name bytes wanted) → Told mid now (λ old new. KeepsOthers old new next)
    → Told before now (HasChunksBut code unit name bytes wanted next)
but_one code unit name bytes wanted next None None None so_far keeps = tt
but_one code unit name bytes wanted next None None (Some now) so_far keeps = absurd keeps
but_one code unit name bytes wanted next None (Some mid) now so_far keeps = absurd so_far
but_one code unit name bytes wanted next (Some before) None now so_far keeps = absurd so_far
but_one code unit name bytes wanted next (Some before) (Some mid) None so_far keeps = absurd keeps
but_one code unit name bytes wanted next (Some before) (Some mid) (Some now) so_far keeps =
    (so_far.0, so_far.1, subst (λ (files : FileMap). KeepsOthers files now next) so_far.2 keeps)

-- a failure or want of memory at the next wanted position
pub stopped_at : (code : CodeRows) (unit : ℕ) (name bytes : List ℕ) (wanted : List ℕ) (i : ℕ) (before mid now : Option FileMap) (stop : Stop)
    → i < length wanted → Told before mid (HasChunks code unit name bytes (take i wanted)) → StopsOne name (get_or wanted i 0) mid now stop
    → StopsChunks code unit name bytes wanted before now stop
stopped_at code unit name bytes wanted i before mid now (Failed shown) lt so_far one =
    (i, lt, one.0, but_one code unit name bytes (take i wanted) (chunk_name name (get_or wanted i 0)) before mid now so_far one.1)
stopped_at code unit name bytes wanted i before mid now NoMemory lt so_far one =
    (i, lt, subst (λ (files : Option FileMap). Told before files (HasChunks code unit name bytes (take i wanted))) (sym one) so_far)
stopped_at code unit name bytes wanted i before mid now Usage lt so_far one = absurd one
stopped_at code unit name bytes wanted i before mid now (Profile f) lt so_far one = absurd one
stopped_at code unit name bytes wanted i before mid now (Missing f) lt so_far one = absurd one
stopped_at code unit name bytes wanted i before mid now NotDecided lt so_far one = absurd one
stopped_at code unit name bytes wanted i before mid now Lengths lt so_far one = absurd one
stopped_at code unit name bytes wanted i before mid now (TooLong f) lt so_far one = absurd one

-- what is answered with a reason to stop writing
pub stopped_writing : {T : Type 0} → (code : CodeRows) (unit : ℕ) (name bytes wanted : List ℕ) (before now : Option FileMap) (answer : Result T Stop) (stop : Stop)
    → IsErrAnd answer (λ s. s ≡ stop) → StopsChunks code unit name bytes wanted before now stop → WritesChunks code unit name bytes wanted before now answer
stopped_writing {T} code unit name bytes wanted before now (Ok done) stop is stops = absurd is
stopped_writing {T} code unit name bytes wanted before now (Err s) stop is stops = subst (λ (x : Stop). StopsChunks code unit name bytes wanted before now x) (sym is) stops
