-- What is written of a file's padded bytes is written of the file.
use Rattle.std.proofs.Common.{◌≡◌, ◌<◌, ◌≤◌, ◌*◌, ℕ, List, [], ◌∷◌, length, take, Option, Some, None, Result, Ok, Err, ap, sym, subst, ◌∙◌}
use Rattle.ec_model.specs.Codes.{CodeRows}
use Rattle.ec_model.specs.Stripes.{stripe_count, padded}
use Rattle.ec_files.specs.Accesses.{Told}
use Rattle.ec_files.specs.Chunks.{Written, AreChunkFiles}
use Rattle.ec_files.specs.Encoding.{WritesChunks}
use Rattle.ec_files.specs.Files.{FileMap}
use Rattle.ec_files.specs.Pieces.{AreWholeStripes}
use Rattle.ec_files.specs.declared.stop.Stop.{Stop}
use Rattle.ec_files.specs.declared.stop.Stop.TheVariants.{Usage, Profile, Missing, Failed, NotDecided, Lengths, TooLong, NoMemory}
use Rattle.ec_files.proofs.ChunkPieceLemmas.{padded_long, list_of_padded}

pub whole_stripes : (k unit : ℕ) (bytes whole : List ℕ) → 1 ≤ k * unit → whole ≡ padded k unit bytes → AreWholeStripes k unit whole
whole_stripes k unit bytes whole some is = record { count = stripe_count k unit (length bytes); long = ap length is ∙ padded_long k unit bytes some }

files_of_padded : (code : CodeRows) (unit : ℕ) (name bytes wanted : List ℕ) (written : List Written) → 0 < code.k * unit → AreChunkFiles code unit name (padded code.k unit bytes) wanted written
    → AreChunkFiles code unit name bytes wanted written
files_of_padded code unit name bytes [] [] some are = are
files_of_padded code unit name bytes [] (w ∷ written) some are = absurd are
files_of_padded code unit name bytes (p ∷ wanted) [] some are = absurd are
files_of_padded code unit name bytes (p ∷ wanted) (w ∷ written) some are =
    (are.0, list_of_padded code unit p bytes w.1 some are.1, files_of_padded code unit name bytes wanted written some are.2)

told_so : (before now : Option FileMap) (one other : FileMap → FileMap → Type 0) → ((old new : FileMap) → one old new → other old new) → Told before now one → Told before now other
told_so None None one other so told = tt
told_so None (Some now) one other so told = absurd told
told_so (Some old) None one other so told = absurd told
told_so (Some old) (Some new) one other so told = so old new told

written_of_padded : {T : Type 0} → (code : CodeRows) (unit : ℕ) (name bytes wanted : List ℕ) (before now : Option FileMap) (result : Result T Stop) → 0 < code.k * unit
    → WritesChunks code unit name (padded code.k unit bytes) wanted before now result → WritesChunks code unit name bytes wanted before now result
written_of_padded {T} code unit name bytes wanted before now (Ok done) some writes =
    told_so before now _ _ (λ old new has. (has.0, files_of_padded code unit name bytes wanted has.0 some has.1, has.2)) writes
written_of_padded {T} code unit name bytes wanted before now (Err (Failed shown)) some writes = (
  writes.0,
  writes.1,
  writes.2,
  told_so before now _ _ (λ old new has. (has.0, files_of_padded code unit name bytes (take writes.0 wanted) has.0 some has.1, has.2)) writes.3,
)
written_of_padded {T} code unit name bytes wanted before now (Err NoMemory) some writes = (
  writes.0,
  writes.1,
  told_so before now _ _ (λ old new has. (has.0, files_of_padded code unit name bytes (take writes.0 wanted) has.0 some has.1, has.2)) writes.2,
)
written_of_padded {T} code unit name bytes wanted before now (Err Usage) some writes = absurd writes
written_of_padded {T} code unit name bytes wanted before now (Err (Profile f)) some writes = absurd writes
written_of_padded {T} code unit name bytes wanted before now (Err (Missing f)) some writes = absurd writes
written_of_padded {T} code unit name bytes wanted before now (Err NotDecided) some writes = absurd writes
written_of_padded {T} code unit name bytes wanted before now (Err Lengths) some writes = absurd writes
written_of_padded {T} code unit name bytes wanted before now (Err (TooLong f)) some writes = absurd writes

pub whole_written : {T : Type 0} → (code : CodeRows) (k unit : ℕ) (name bytes whole wanted : List ℕ) (before now : Option FileMap) (result : Result T Stop) → k ≡ code.k → 1 ≤ k * unit
    → whole ≡ padded k unit bytes → WritesChunks code unit name whole wanted before now result → WritesChunks code unit name bytes wanted before now result
whole_written {T} code k unit name bytes whole wanted before now result same some is writes =
    written_of_padded code unit name bytes wanted before now result (subst (λ (n : ℕ). 1 ≤ n * unit) same some)
    (subst (λ (w : List ℕ). WritesChunks code unit name w wanted before now result) (is ∙ ap (λ n. padded n unit bytes) same) writes)
