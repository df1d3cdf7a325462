-- What encoding comes to, by where it stops.
use Rattle.std.proofs.Common.{◌≡◌, ◌≢◌, ◌<◌, ◌⊎◌, ℕ, List, [], Option, Some, None, IsSomeAnd, Result, Ok, Err, refl, ap, sym, subst, ◌∙◌, arith, inl, inr, length, take, slice_index}
use Rattle.std.specs.FinMap as map
use Rattle.std.specs.Result.{IsErrAnd}
use Rattle.rig_disk.specs.Faults.{Rose}
use Rattle.ec_model.specs.Codes.{CodeRows}
use Rattle.ec_files.specs.Accesses.{ReadsOrStops, Told}
use Rattle.ec_files.specs.Chunks.{AreBelow, AreChunkFiles, after, chunk_name}
use Rattle.ec_files.specs.Encoding.{HasChunks, HasChunksBut, WritesChunks}
use Rattle.ec_files.specs.Files.{FileMap, KeepsOthers, max_file}
use Rattle.ec_files.specs.Outcomes.{EncodeEnds, EncodeUnread, EncodeUnwritten}
use Rattle.ec_files.specs.Runs.{EncodeAnswers, Encodes, EncodesFiles, EncodesFirst, WhereTold}
use Rattle.ec_files.specs.Stops.{status_of, line_of, status_after, line_after}
use Rattle.ec_files.specs.Texts.{failed_line, missing_line, too_long_line}
use Rattle.ec_files.specs.Jobs.{Job}
use Rattle.ec_files.specs.declared.stop.Stop.{Stop}
use Rattle.ec_files.specs.declared.stop.Stop.TheVariants.{Usage, Profile, Missing, Failed, NotDecided, Lengths, TooLong, NoMemory}

pub same_some : {A : Type 0} (a b : A) → Some a ≡ Some b → a ≡ b
same_some a b e = cc

pub encode_out : (code : CodeRows) (job : Job) (before : Option FileMap) (was : ℕ) → EncodeEnds code job 13 [] before before was was
encode_out code job before was = inr (inr ((refl, refl), refl, inl refl))

pub encode_outside : (code : CodeRows) (job : Job) (before : Option FileMap) (was : ℕ) (stop : Stop)
    → (stop ≡ NoMemory) ⊎ ((stop ≡ Usage) × (AreBelow code.n job.wanted → ⊥))
    → EncodeEnds code job (status_of stop) (line_of stop) before before was was
encode_outside code job before was stop (inl e) = subst (λ (s : Stop). EncodeEnds code job (status_of s) (line_of s) before before was was) (sym e) (encode_out code job before was)
encode_outside code job before was stop (inr (e, never)) =
    subst (λ (s : Stop). EncodeEnds code job (status_of s) (line_of s) before before was was) (sym e)
    (inl (record { outside = λ _. (refl, refl, refl); only_outside = λ _. never; answers = λ below. absurd (never below); files = λ below. absurd (never below) }, refl))

pub no_bytes : (o : Option (List ℕ)) (bytes : List ℕ) → o ≡ Some bytes → o ≡ None → ⊥
no_bytes o bytes some none = cc

too_long_file : (o : Option (List ℕ)) (bytes : List ℕ) → IsSomeAnd o (λ b. max_file < length b) → o ≡ Some bytes → max_file < length bytes
too_long_file o bytes long e = subst (λ (x : Option (List ℕ)). IsSomeAnd x (λ b. max_file < length b)) e long

not_missing : (o : Option (List ℕ)) → IsSomeAnd o (λ b. max_file < length b) → o ≡ None → ⊥
not_missing o long none = subst (λ (x : Option (List ℕ)). IsSomeAnd x (λ b. max_file < length b)) none long

-- encoding came to its file, and that is not there or too long
by_file : (code : CodeRows) (job : Job) (before now : Option FileMap) (status : ℕ) (line : List ℕ) → AreBelow code.n job.wanted → (status ≡ 2 → ⊥)
    → EncodeAnswers job status line → WhereTold before (EncodesFiles code job status line now) → Encodes code job before status line now
by_file code job before now status line below not_2 answers files = record {
  outside = λ never. absurd (never below);
  only_outside = λ e. absurd (not_2 e);
  answers = λ _. answers;
  files = λ _. files;
}

-- the file could not be read
pub encode_unread : (code : CodeRows) (job : Job) (before : Option FileMap) (was is : ℕ) (stop : Stop) → AreBelow code.n job.wanted
    → ReadsOrStops before job.name (Err stop) → (status_of stop ≡ 5 → Rose was is) → (status_of stop ≢ 5 → is ≡ was)
    → EncodeEnds code job (status_of stop) (line_of stop) before before was is
encode_unread code job None was is (Missing shown) below reads failed quiet =
    inl (by_file code job None None 4 _ below (λ e. omega arith) (inr (inl (refl, ap missing_line reads))) tt, quiet (λ e. omega arith))
encode_unread code job None was is (TooLong shown) below reads failed quiet =
    inl (by_file code job None None 8 _ below (λ e. omega arith) (inr (inr (refl, ap too_long_line reads))) tt, quiet (λ e. omega arith))
encode_unread code job None was is (Failed shown) below reads failed quiet = inr (inl (below, inl ((refl, ap failed_line reads, failed refl), refl)))
encode_unread code job None was is NoMemory below reads failed quiet = inr (inr ((refl, refl), quiet (λ e. omega arith), inl refl))
encode_unread code job None was is Usage below reads failed quiet = absurd reads
encode_unread code job None was is (Profile f) below reads failed quiet = absurd reads
encode_unread code job None was is NotDecided below reads failed quiet = absurd reads
encode_unread code job None was is Lengths below reads failed quiet = absurd reads
encode_unread code job (Some files) was is (Missing shown) below (none, named) failed quiet = inl (
  by_file code job (Some files) (Some files) 4 _ below (λ e. omega arith) (inr (inl (refl, ap missing_line named))) (record {
    missing = λ _. (refl, ap missing_line named, refl);
    too_long = λ bytes some _. absurd (no_bytes _ bytes some none);
    done = λ bytes some _. absurd (no_bytes _ bytes some none);
  }),
  quiet (λ e. omega arith),
)
encode_unread code job (Some files) was is (TooLong shown) below (long, named) failed quiet = inl (
  by_file code job (Some files) (Some files) 8 _ below (λ e. omega arith) (inr (inr (refl, ap too_long_line named))) (record {
    missing = λ none. absurd (not_missing _ long none);
    too_long = λ _ _ _. (refl, ap too_long_line named, refl);
    done = λ bytes some few. let much = too_long_file _ bytes long some in absurd (omega (arith, few, much));
  }),
  quiet (λ e. omega arith),
)
encode_unread code job (Some files) was is (Failed shown) below reads failed quiet = inr (inl (below, inl ((refl, ap failed_line reads, failed refl), refl)))
encode_unread code job (Some files) was is NoMemory below reads failed quiet = inr (inr ((refl, refl), quiet (λ e. omega arith), inl refl))
encode_unread code job (Some files) was is Usage below reads failed quiet = absurd reads
encode_unread code job (Some files) was is (Profile f) below reads failed quiet = absurd reads
encode_unread code job (Some files) was is NotDecided below reads failed quiet = absurd reads
encode_unread code job (Some files) was is Lengths below reads failed quiet = absurd reads

files_done : (code : CodeRows) (job : Job) (before now : Option FileMap) (bytes : List ℕ) → ReadsOrStops before job.name (Ok bytes)
    → Told before now (HasChunks code job.unit job.name bytes job.wanted) → WhereTold before (EncodesFiles code job 0 [] now)
files_done code job None now bytes reads told = tt
files_done code job (Some old) None bytes reads told = absurd told
files_done code job (Some old) (Some new) bytes reads told = record {
  missing = λ none. absurd (no_bytes (map.get old job.name) bytes reads.0 none);
  too_long = λ other some long. let same = same_some bytes other (sym reads.0 ∙ some) in let bound = reads.1 in
      absurd (omega (arith, long, bound, ap length same));
  done = λ other some few. (refl, refl, (told.0, subst (λ (b : List ℕ). AreChunkFiles code job.unit job.name b job.wanted told.0) (same_some bytes other (sym reads.0 ∙ some)) told.1, ap (λ f. Some f) told.2));
}

first_ones : (code : CodeRows) (job : Job) (bytes : List ℕ) (count : ℕ) (old new : FileMap) → ReadsOrStops (Some old) job.name (Ok bytes)
    → HasChunks code job.unit job.name bytes (take count job.wanted) old new → EncodesFirst code job count old new
first_ones code job bytes count old new reads has =
    record { bytes = bytes; is_read = reads.0; short = reads.1; written = has.0; are = has.1; left = has.2 }

told_first : (code : CodeRows) (job : Job) (before now : Option FileMap) (bytes : List ℕ) (count : ℕ) → ReadsOrStops before job.name (Ok bytes)
    → Told before now (HasChunks code job.unit job.name bytes (take count job.wanted)) → Told before now (EncodesFirst code job count)
told_first code job None None bytes count reads told = tt
told_first code job None (Some new) bytes count reads told = absurd told
told_first code job (Some old) None bytes count reads told = absurd told
told_first code job (Some old) (Some new) bytes count reads told = first_ones code job bytes count old new reads told

told_but : (code : CodeRows) (job : Job) (before now : Option FileMap) (bytes : List ℕ) (count : ℕ) → ReadsOrStops before job.name (Ok bytes)
    → Told before now (HasChunksBut code job.unit job.name bytes (take count job.wanted) (chunk_name job.name (slice_index job.wanted count)))
    → Told before now (λ old new. (whole : FileMap) × EncodesFirst code job count old whole × KeepsOthers whole new (chunk_name job.name (slice_index job.wanted count)))
told_but code job None None bytes count reads told = tt
told_but code job None (Some new) bytes count reads told = absurd told
told_but code job (Some old) None bytes count reads told = absurd told
told_but code job (Some old) (Some new) bytes count reads told =
    (after old told.0, first_ones code job bytes count old (after old told.0) reads (told.0, told.1, refl), told.2)

pub encode_done : {T : Type 0} → (code : CodeRows) (job : Job) (before now : Option FileMap) (was is : ℕ) (bytes : List ℕ) (result : Result T Stop)
    → AreBelow code.n job.wanted → ReadsOrStops before job.name (Ok bytes) → WritesChunks code job.unit job.name bytes job.wanted before now result
    → (status_after result ≡ 5 → Rose was is) → (status_after result ≢ 5 → is ≡ was)
    → EncodeEnds code job (status_after result) (line_after result) before now was is
encode_done {T} code job before now was is bytes (Ok done) below reads writes failed quiet =
    inl (
      record {
        outside = λ never. absurd (never below);
        only_outside = λ e. absurd (omega arith);
        answers = λ _. inl (refl, refl);
        files = λ _. files_done code job before now bytes reads writes;
      },
      quiet (λ e. omega arith),
    )
encode_done {T} code job before now was is bytes (Err (Failed shown)) below reads writes failed quiet =
    inr (inl (below, inr (writes.0, writes.1, (refl, ap failed_line writes.2, failed refl), told_but code job before now bytes writes.0 reads writes.3)))
encode_done {T} code job before now was is bytes (Err NoMemory) below reads writes failed quiet =
    inr (inr ((refl, refl), quiet (λ e. omega arith), inr (below, (writes.0, writes.1, told_first code job before now bytes writes.0 reads writes.2))))
encode_done {T} code job before now was is bytes (Err Usage) below reads writes failed quiet = absurd writes
encode_done {T} code job before now was is bytes (Err (Profile f)) below reads writes failed quiet = absurd writes
encode_done {T} code job before now was is bytes (Err (Missing f)) below reads writes failed quiet = absurd writes
encode_done {T} code job before now was is bytes (Err NotDecided) below reads writes failed quiet = absurd writes
encode_done {T} code job before now was is bytes (Err Lengths) below reads writes failed quiet = absurd writes
encode_done {T} code job before now was is bytes (Err (TooLong f)) below reads writes failed quiet = absurd writes

-- a failed call has the status 5
pub encode_fails_5 : (code : CodeRows) (job : Job) (status : ℕ) (line : List ℕ) (before now : Option FileMap) (was is : ℕ)
    → EncodeUnread job status line before now was is ⊎ EncodeUnwritten code job status line before now was is → status ≡ 5
encode_fails_5 code job status line before now was is (inl (fails, kept)) = fails.0
encode_fails_5 code job status line before now was is (inr (count, lt, fails, told)) = fails.0

-- what is answered with a reason to stop comes to it
pub encode_by_reason : {T : Type 0} → (code : CodeRows) (job : Job) (before now : Option FileMap) (was is : ℕ) (result : Result T Stop) (stop : Stop)
    → IsErrAnd result (λ s. s ≡ stop) → EncodeEnds code job (status_of stop) (line_of stop) before now was is
    → EncodeEnds code job (status_after result) (line_after result) before now was is
encode_by_reason {T} code job before now was is (Ok done) stop e ends = absurd e
encode_by_reason {T} code job before now was is (Err s) stop e ends = subst (λ (x : Stop). EncodeEnds code job (status_of x) (line_of x) before now was is) (sym e) ends
