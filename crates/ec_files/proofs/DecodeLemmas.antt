-- What decoding comes to, by where it stops.
use Rattle.std.proofs.Common.{◌≡◌, ◌≢◌, ◌<◌, ◌≤◌, ◌*◌, ◌%◌, ◌⊎◌, ℕ, List, [], Option, Some, None, IsSome, IsSomeAnd, Result, Ok, Err, take, get_or, length, refl, ap, sym, subst, ◌∙◌, arith, inl, inr}
use Rattle.std.specs.FinMap as map
use Rattle.std.specs.Result.{IsErrAnd}
use Rattle.std.proofs.lemmas.Bool.{cases_lt}
use Rattle.std.proofs.lemmas.List.{get_or-take, length-take-le}
use Rattle.rig_disk.specs.Faults.{Rose}
use Rattle.ec_model.specs.Codes.{CodeRows, HasPosition}
use Rattle.stripe_map.specs.Assembling.{IsMade}
use Rattle.stripe_map.specs.Chunks.{chunk_of_position}
use Rattle.stripe_map.specs.Decoding.{HasLength}
use Rattle.ec_files.specs.Accesses.{Told, HasFile}
use Rattle.ec_files.specs.Chunks.{AreBelow, DecideTheData, IsReadPlan, AreReadable, HaveLength, IsReadable, IsDecoded, chunk_name, NeedsEach}
use Rattle.ec_files.specs.Decoding.{IsAmong, HaveChunks, AreFetched, Fetches, StopsReading, AreWhole, IsFileOfChunks, GivesFile}
use Rattle.ec_files.specs.Files.{FileMap, KeepsOthers, max_file}
use Rattle.ec_files.specs.Joining.{WritesMadeOrStops}
use Rattle.ec_files.specs.Outcomes.{DecodeEnds, DecodeUnread, DecodeUnwritten}
use Rattle.ec_files.specs.Runs.{CanDecode, Decodes, DecodeAnswers, DecodesFiles, WhereTold}
use Rattle.ec_files.specs.Stops.{status_of, line_of, status_after, line_after}
use Rattle.ec_files.specs.Texts.{failed_line, not_decided_line, missing_line, too_long_line, lengths_line}
use Rattle.ec_files.specs.Jobs.{Job}
use Rattle.ec_files.specs.declared.stop.Stop.{Stop}
use Rattle.ec_files.specs.declared.stop.Stop.TheVariants.{Usage, Profile, Missing, Failed, NotDecided, Lengths, TooLong, NoMemory}
use Rattle.ec_files.proofs.EncodeLemmas.{same_some}
use Rattle.ec_files.proofs.FetchLemmas.{readable}

pub decode_out : (code : CodeRows) (job : Job) (before : Option FileMap) (was : ℕ) → DecodeEnds code job 13 [] before before was was
decode_out code job before was = inr (inr ((refl, refl), refl, refl))

pub decode_outside : (code : CodeRows) (job : Job) (before : Option FileMap) (was : ℕ) (stop : Stop)
    → (stop ≡ NoMemory) ⊎ ((stop ≡ Usage) × (AreBelow code.n job.wanted → ⊥))
    → DecodeEnds code job (status_of stop) (line_of stop) before before was was
decode_outside code job before was stop (inl e) = subst (λ (s : Stop). DecodeEnds code job (status_of s) (line_of s) before before was was) (sym e) (decode_out code job before was)
decode_outside code job before was stop (inr (e, never)) =
    subst (λ (s : Stop). DecodeEnds code job (status_of s) (line_of s) before before was was) (sym e)
    (inl (
      record {
        outside = λ _. (refl, refl, refl);
        only_outside = λ _. never;
        not_decided = λ below. absurd (never below);
        only_not_decided = λ six. absurd (omega arith);
        answers = λ below. absurd (never below);
        files = λ below. absurd (never below);
      },
      refl,
    ))

pub decode_undecided : (code : CodeRows) (job : Job) (before : Option FileMap) (was : ℕ) → AreBelow code.n job.wanted → (DecideTheData code job.wanted → ⊥)
    → DecodeEnds code job 6 not_decided_line before before was was
decode_undecided code job before was below never = inl (
  record {
    outside = λ out. absurd (out below);
    only_outside = λ two. absurd (omega arith);
    not_decided = λ _ _. (refl, refl, refl);
    only_not_decided = λ _. never;
    answers = λ _ decide. absurd (never decide);
    files = λ _ decide. absurd (never decide);
  },
  refl,
)

-- decoding that came to its files
by_files : (code : CodeRows) (job : Job) (before now : Option FileMap) (status : ℕ) (line : List ℕ) → AreBelow code.n job.wanted → DecideTheData code job.wanted
    → (status ≡ 2 → ⊥) → (status ≡ 6 → ⊥) → DecodeAnswers job status line → WhereTold before (DecodesFiles code job status line now)
    → Decodes code job before status line now
by_files code job before now status line below decide not_2 not_6 answers files = record {
  outside = λ out. absurd (out below);
  only_outside = λ two. absurd (not_2 two);
  not_decided = λ _ never. absurd (never decide);
  only_not_decided = λ six. absurd (not_6 six);
  answers = λ _ _. answers;
  files = λ _ _. files;
}

no_bytes : (o : Option (List ℕ)) (bytes : List ℕ) → o ≡ Some bytes → o ≡ None → ⊥
no_bytes o bytes some none = cc

too_long_file : (o : Option (List ℕ)) (bytes : List ℕ) → IsSomeAnd o (λ b. max_file < length b) → o ≡ Some bytes → max_file < length bytes
too_long_file o bytes long e = subst (λ (x : Option (List ℕ)). IsSomeAnd x (λ b. max_file < length b)) e long

readable_at : (files : FileMap) (name : List ℕ) (wanted : List ℕ) (i j : ℕ) → i < j → j < length wanted → AreReadable files name (take j wanted)
    → IsReadable files (chunk_name name (get_or wanted i 0))
readable_at files name wanted i j lt inside readable =
    subst (λ (p : ℕ). IsReadable files (chunk_name name p)) (get_or-take j wanted i 0 lt) (readable i (omega (arith, length-take-le j wanted (omega arith))))

-- the first file that can't be read is one
first_unread : (files : FileMap) (name : List ℕ) (wanted : List ℕ) (i j : ℕ) → i < length wanted → j < length wanted
    → AreReadable files name (take i wanted) → AreReadable files name (take j wanted)
    → (IsReadable files (chunk_name name (get_or wanted i 0)) → ⊥) → (IsReadable files (chunk_name name (get_or wanted j 0)) → ⊥) → i ≡ j
first_unread files name wanted i j li lj before_i before_j not_i not_j = elim (cases_lt i j) [
  | inl lt ↦ absurd (not_i (readable_at files name wanted i j lt lj before_j))
  | inr ge ↦ elim (cases_lt j i) [
    | inl lt ↦ absurd (not_j (readable_at files name wanted j i lt li before_i))
    | inr also ↦ omega arith
  ]
]

missing_files : (code : CodeRows) (job : Job) (files : FileMap) (i : ℕ) (shown : List ℕ) → i < length job.wanted
    → shown ≡ chunk_name job.name (get_or job.wanted i 0) → AreReadable files job.name (take i job.wanted)
    → map.get files (chunk_name job.name (get_or job.wanted i 0)) ≡ None
    → DecodesFiles code job 4 (missing_line shown) (Some files) files
missing_files code job files i shown lt named before none = record {
  missing = λ j lj rj other. (
    refl,
    ap missing_line (named ∙ ap (λ k. chunk_name job.name (get_or job.wanted k 0))
        (first_unread files job.name job.wanted i j lt lj before rj not_here (λ r. no_bytes _ r.0 r.1 other))),
    refl,
  );
  too_long_chunks = λ j bytes lj rj some long.
      let same = first_unread files job.name job.wanted i j lt lj before rj not_here (λ r. omega (arith, long, r.2, ap length (same_some bytes r.0 (sym some ∙ r.1)))) in
      absurd (no_bytes _ bytes some (ap (λ k. map.get files (chunk_name job.name (get_or job.wanted k 0))) (sym same) ∙ none));
  lengths = λ all _. absurd (not_here (all i lt));
  too_long = λ long all _ _ _. absurd (not_here (all i lt));
  done = λ long all _ _ _. absurd (not_here (all i lt));
} where
  not_here : IsReadable files (chunk_name job.name (get_or job.wanted i 0)) → ⊥
  not_here r = no_bytes _ r.0 r.1 none

long_files : (code : CodeRows) (job : Job) (files : FileMap) (i : ℕ) (shown : List ℕ) → i < length job.wanted
    → shown ≡ chunk_name job.name (get_or job.wanted i 0) → AreReadable files job.name (take i job.wanted)
    → IsSomeAnd (map.get files (chunk_name job.name (get_or job.wanted i 0))) (λ bytes. max_file < length bytes)
    → DecodesFiles code job 8 (too_long_line shown) (Some files) files
long_files code job files i shown lt named before long = record {
  missing = λ j lj rj none.
      let same = first_unread files job.name job.wanted i j lt lj before rj not_here (λ r. no_bytes _ r.0 r.1 none) in
      absurd (not_missing (ap (λ k. map.get files (chunk_name job.name (get_or job.wanted k 0))) same ∙ none));
  too_long_chunks = λ j bytes lj rj some much.
      let same = first_unread files job.name job.wanted i j lt lj before rj not_here (λ r. omega (arith, much, r.2, ap length (same_some bytes r.0 (sym some ∙ r.1)))) in
      (refl, ap too_long_line (named ∙ ap (λ k. chunk_name job.name (get_or job.wanted k 0)) same), refl);
  lengths = λ all _. absurd (not_here (all i lt));
  too_long = λ much all _ _ _. absurd (not_here (all i lt));
  done = λ much all _ _ _. absurd (not_here (all i lt));
} where
  not_here : IsReadable files (chunk_name job.name (get_or job.wanted i 0)) → ⊥
  not_here r = let much = too_long_file _ r.0 long r.1 in omega (arith, much, r.2)

  not_missing : map.get files (chunk_name job.name (get_or job.wanted i 0)) ≡ None → ⊥
  not_missing none = subst (λ (x : Option (List ℕ)). IsSomeAnd x (λ b. max_file < length b)) none long

missing_chunks : (job : Job) (shown : List ℕ) (i : ℕ) → i < length job.wanted → shown ≡ chunk_name job.name (get_or job.wanted i 0)
    → DecodeAnswers job 4 (missing_line shown)
missing_chunks job shown i lt named = inr (inl (shown, (i, (lt, named)), (refl, refl)))

long_chunks : (job : Job) (shown : List ℕ) (i : ℕ) → i < length job.wanted → shown ≡ chunk_name job.name (get_or job.wanted i 0)
    → DecodeAnswers job 8 (too_long_line shown)
long_chunks job shown i lt named = inr (inr (inr (shown, inr (i, (lt, named)), (refl, refl))))

pub decode_unread : (code : CodeRows) (job : Job) (before : Option FileMap) (was is : ℕ) (stop : Stop) → AreBelow code.n job.wanted → DecideTheData code job.wanted
    → StopsReading before job.name job.wanted stop → (status_of stop ≡ 5 → Rose was is) → (status_of stop ≢ 5 → is ≡ was)
    → DecodeEnds code job (status_of stop) (line_of stop) before before was is
decode_unread code job None was is (Missing shown) below decide (i, lt, at) failed quiet =
    inl (by_files code job None None 4 _ below decide (λ e. omega arith) (λ e. omega arith) (missing_chunks job _ i lt at) tt, quiet (λ e. omega arith))
decode_unread code job None was is (TooLong shown) below decide (i, lt, at) failed quiet =
    inl (by_files code job None None 8 _ below decide (λ e. omega arith) (λ e. omega arith) (long_chunks job _ i lt at) tt, quiet (λ e. omega arith))
decode_unread code job None was is (Failed shown) below decide (i, lt, at) failed quiet =
    inr (inl (below, decide, inl (i, lt, (refl, ap failed_line at, failed refl), tt, refl)))
decode_unread code job None was is NoMemory below decide stops failed quiet = inr (inr ((refl, refl), quiet (λ e. omega arith), refl))
decode_unread code job None was is Usage below decide (i, lt, at) failed quiet = absurd at
decode_unread code job None was is (Profile f) below decide (i, lt, at) failed quiet = absurd at
decode_unread code job None was is NotDecided below decide (i, lt, at) failed quiet = absurd at
decode_unread code job None was is Lengths below decide (i, lt, at) failed quiet = absurd at
decode_unread code job (Some files) was is (Missing shown) below decide (i, lt, at) failed quiet =
    inl (by_files code job (Some files) (Some files) 4 _ below decide (λ e. omega arith) (λ e. omega arith) (missing_chunks job _ i lt at.0) (missing_files code job files i _ lt at.0 at.1 at.2), quiet (λ e. omega arith))
decode_unread code job (Some files) was is (TooLong shown) below decide (i, lt, at) failed quiet =
    inl (by_files code job (Some files) (Some files) 8 _ below decide (λ e. omega arith) (λ e. omega arith) (long_chunks job _ i lt at.0) (long_files code job files i _ lt at.0 at.1 at.2), quiet (λ e. omega arith))
decode_unread code job (Some files) was is (Failed shown) below decide (i, lt, at) failed quiet =
    inr (inl (below, decide, inl (i, lt, (refl, ap failed_line at.0, failed refl), at.1, refl)))
decode_unread code job (Some files) was is NoMemory below decide stops failed quiet = inr (inr ((refl, refl), quiet (λ e. omega arith), refl))
decode_unread code job (Some files) was is Usage below decide (i, lt, at) failed quiet = absurd at
decode_unread code job (Some files) was is (Profile f) below decide (i, lt, at) failed quiet = absurd at
decode_unread code job (Some files) was is NotDecided below decide (i, lt, at) failed quiet = absurd at
decode_unread code job (Some files) was is Lengths below decide (i, lt, at) failed quiet = absurd at

length_in : (o : Option (List ℕ)) (bytes : List ℕ) (long : ℕ) → o ≡ Some bytes → HasLength o long → length bytes ≡ long
length_in o bytes long e has = subst (λ (x : Option (List ℕ)). HasLength x long) e has

length_out : (o : Option (List ℕ)) (bytes : List ℕ) (long : ℕ) → o ≡ Some bytes → length bytes ≡ long → HasLength o long
length_out o bytes long e is = subst (λ (x : Option (List ℕ)). HasLength x long) (sym e) is

-- the chunks that were fetched have the lengths of their files
have_length : (files : FileMap) (name : List ℕ) (wanted : List ℕ) (unit long : ℕ) (chunks : List (Option (List ℕ))) → AreFetched files name wanted chunks
    → AreWhole unit long chunks → HaveLength files name wanted long
have_length files name wanted unit long chunks fetched whole i lt =
    let one = fetched i lt in
    (one.0, one.1, length_in _ one.0 long one.3 (whole.1 (get_or wanted i 0)))

whole_if : (files : FileMap) (name : List ℕ) (wanted : List ℕ) (unit long : ℕ) (chunks : List (Option (List ℕ))) → AreFetched files name wanted chunks → HaveChunks wanted chunks
    → long % unit ≡ 0 → HaveLength files name wanted long → AreWhole unit long chunks
whole_if files name wanted unit long chunks fetched there units have = (units, each) where
  at : (p : ℕ) (o : Option (List ℕ)) → chunk_of_position chunks p ≡ o → HasLength o long
  at p None e = tt
  at p (Some bytes) e =
      let found = (there p).0 (subst (λ (o : Option (List ℕ)). IsSome o) (sym e) refl) in
      let one = fetched found.0 found.1.0 in
      let file = have found.0 found.1.0 in
      let same = same_some bytes one.0 (sym e ∙ ap (chunk_of_position chunks) (sym found.1.1) ∙ one.3) in
      ap length same ∙ ap length (same_some one.0 file.0 (sym one.1 ∙ file.1)) ∙ file.2

  each : (p : ℕ) → HasLength (chunk_of_position chunks p) long
  each p = at p (chunk_of_position chunks p) refl

-- what was fetched, and the length of its first file
pub record HasFetched (files : FileMap) (job : Job) (chunks : List (Option (List ℕ))) (long : ℕ) : Type 0 where
  pub fetched : AreFetched files job.name job.wanted chunks
  pub there : HaveChunks job.wanted chunks
  pub some : 1 ≤ length job.wanted
  pub first : (bytes : List ℕ) → chunk_of_position chunks (get_or job.wanted 0 0) ≡ Some bytes → long ≡ length bytes

one_length : (files : FileMap) (job : Job) (chunks : List (Option (List ℕ))) (long other : ℕ) → HasFetched files job chunks long → HaveLength files job.name job.wanted other
    → long ≡ other
one_length files job chunks long other has have =
    let one = has.fetched 0 has.some in
    let file = have 0 has.some in
    has.first one.0 one.3 ∙ ap length (same_some one.0 file.0 (sym one.1 ∙ file.1)) ∙ file.2

all_read : (code : CodeRows) (job : Job) (files : FileMap) (chunks : List (Option (List ℕ))) (long status : ℕ) (line : List ℕ) (now : Option FileMap)
    → HasFetched files job chunks long
    → ((AreWhole job.unit long chunks → ⊥) → (status ≡ 7) × (line ≡ lengths_line) × (now ≡ Some files))
    → (AreWhole job.unit long chunks → max_file < code.k * long → (status ≡ 8) × (line ≡ too_long_line job.name) × (now ≡ Some files))
    → (AreWhole job.unit long chunks → code.k * long ≤ max_file → (status ≡ 0) × (line ≡ []) × ((plan : ℕ) × (found : List ℕ) × IsReadPlan code job.wanted plan
    × IsDecoded code job.unit files job.name plan long found × (now ≡ Some (map.insert files job.name found))))
    → DecodesFiles code job status line now files
all_read code job files chunks long status line now has other much fits = record {
  missing = λ i lt _ none. let one = has.fetched i lt in absurd (no_bytes _ one.0 one.1 none);
  too_long_chunks = λ i bytes lt _ some longer. let one = has.fetched i lt in absurd (omega (arith, longer, one.2, ap length (same_some bytes one.0 (sym some ∙ one.1))));
  lengths = λ _ never. other (λ whole. never long whole.0 (have_length files job.name job.wanted job.unit long chunks has.fetched whole));
  too_long = λ l _ units have longer.
      let same = one_length files job chunks long l has have in
      much (subst (λ (n : ℕ). AreWhole job.unit n chunks) (sym same) (whole_if files job.name job.wanted job.unit l chunks has.fetched has.there units have))
      (subst (λ (n : ℕ). max_file < code.k * n) (sym same) longer);
  done = λ l _ units have few.
      let same = one_length files job chunks long l has have in
      let so = fits (subst (λ (n : ℕ). AreWhole job.unit n chunks) (sym same) (whole_if files job.name job.wanted job.unit l chunks has.fetched has.there units have))
      (subst (λ (n : ℕ). code.k * n ≤ max_file) (sym same) few) in
      (so.0, so.1, (so.2.0, so.2.1, so.2.2, subst (λ (n : ℕ). IsDecoded code job.unit files job.name so.2.0 n so.2.1) same so.2.3, so.2.4));
}

-- the first length of what was fetched, if files are told
pub first_of : Option FileMap → Job → List (Option (List ℕ)) → ℕ → Type 0
first_of before job chunks long = WhereTold before (λ files. HasFetched files job chunks long)

pub has_first : (before : Option FileMap) (job : Job) (chunks : List (Option (List ℕ))) (long : ℕ) → Fetches before job.name job.wanted chunks → HaveChunks job.wanted chunks
    → 1 ≤ length job.wanted → ((bytes : List ℕ) → chunk_of_position chunks (get_or job.wanted 0 0) ≡ Some bytes → long ≡ length bytes)
    → WhereTold before (λ files. HasFetched files job chunks long)
has_first None job chunks long fetched there some first = tt
has_first (Some files) job chunks long fetched there some first = record { fetched = fetched; there = there; some = some; first = first }

pub decode_unjoined : (code : CodeRows) (job : Job) (before : Option FileMap) (was is : ℕ) (chunks : List (Option (List ℕ))) (long set : ℕ) (stop : Stop) (result : Result (List ℕ) Stop)
    → AreBelow code.n job.wanted → DecideTheData code job.wanted → WhereTold before (λ files. HasFetched files job chunks long) → result ≡ Err stop
    → GivesFile code job.unit job.name long set chunks result → is ≡ was
    → DecodeEnds code job (status_of stop) (line_of stop) before before was is
decode_unjoined code job before was is chunks long set stop result below decide has err gives quiet =
    by_stop stop (subst (λ (r : Result (List ℕ) Stop). GivesFile code job.unit job.name long set chunks r) err gives)
  where
    lengths_told : (b : Option FileMap) → WhereTold b (λ files. HasFetched files job chunks long) → (AreWhole job.unit long chunks → ⊥)
        → WhereTold b (DecodesFiles code job 7 lengths_line b)
    lengths_told None told never = tt
    lengths_told (Some files) told never =
        all_read code job files chunks long 7 lengths_line (Some files) told (λ _. (refl, refl, refl)) (λ whole _. absurd (never whole)) (λ whole _. absurd (never whole))

    long_told : (b : Option FileMap) (shown : List ℕ) → WhereTold b (λ files. HasFetched files job chunks long) → AreWhole job.unit long chunks → max_file < code.k * long
        → shown ≡ job.name → WhereTold b (DecodesFiles code job 8 (too_long_line shown) b)
    long_told None shown told whole much named = tt
    long_told (Some files) shown told whole much named =
        all_read code job files chunks long 8 (too_long_line shown) (Some files) told (λ never. absurd (never whole)) (λ _ _. (refl, ap too_long_line named, refl))
        (λ _ few. absurd (omega (arith, few, much)))

    by_stop : (s : Stop) → GivesFile code job.unit job.name long set chunks (Err s) → DecodeEnds code job (status_of s) (line_of s) before before was is
    by_stop Lengths never = inl (by_files code job before before 7 _ below decide (λ e. omega arith) (λ e. omega arith) (inr (inr (inl (refl, refl)))) (lengths_told before has never), quiet)
    by_stop (TooLong shown) so =
        inl (by_files code job before before 8 _ below decide (λ e. omega arith) (λ e. omega arith) (inr (inr (inr (_, inl so.2, (refl, refl))))) (long_told before _ has so.0 so.1 so.2), quiet)
    by_stop NoMemory so = inr (inr ((refl, refl), quiet, refl))
    by_stop Usage so = absurd so
    by_stop (Profile f) so = absurd so
    by_stop (Missing f) so = absurd so
    by_stop (Failed f) so = absurd so
    by_stop NotDecided so = absurd so

is_decoded : (code : CodeRows) (job : Job) (files : FileMap) (chunks : List (Option (List ℕ))) (long set : ℕ) (found : List ℕ) → HasFetched files job chunks long
    → ((p : ℕ) → HasPosition set p → IsAmong job.wanted p) → NeedsEach code set → IsFileOfChunks code job.unit long set chunks found
    → IsDecoded code job.unit files job.name set long found
is_decoded code job files chunks long set found has listed needs is = record {
  whole = is.whole;
  is = λ bytes lb of. is.is bytes lb of.all_bytes (λ p chunk at e.
      let place = listed p at in
      let one = has.fetched place.0 place.1.0 in
      let same = same_some one.0 chunk (sym one.3 ∙ ap (chunk_of_position chunks) place.1.1 ∙ e) in
      of.each p chunk at (ap (λ q. map.get files (chunk_name job.name q)) (sym place.1.1) ∙ one.1 ∙ ap (λ b. Some b) same));
  all_bytes = is.all_bytes;
  own = λ p chunk at e bytes.
      let place = listed p at in
      let one = has.fetched place.0 place.1.0 in
      let same = same_some one.0 chunk (sym one.1 ∙ ap (λ q. map.get files (chunk_name job.name q)) place.1.1 ∙ e) in
      is.own needs p chunk at (ap (chunk_of_position chunks) (sym place.1.1) ∙ one.3 ∙ ap (λ b. Some b) same) bytes;
}

pub decode_done : (code : CodeRows) (job : Job) (before now : Option FileMap) (was is : ℕ) (chunks : List (Option (List ℕ))) (long set : ℕ) (found : List ℕ)
    → AreBelow code.n job.wanted → DecideTheData code job.wanted → WhereTold before (λ files. HasFetched files job chunks long) → IsReadPlan code job.wanted set
    → NeedsEach code set → ((p : ℕ) → HasPosition set p → IsAmong job.wanted p) → GivesFile code job.unit job.name long set chunks (Ok found)
    → Told before now (HasFile job.name found) → is ≡ was → DecodeEnds code job 0 [] before now was is
decode_done code job before now was is chunks long set found below decide has plan needs listed gives writes quiet =
    inl (by_files code job before now 0 [] below decide (λ e. omega arith) (λ e. omega arith) (inl (refl, refl)) (told_files before now has writes), quiet)
  where
    told_files : (b n : Option FileMap) → WhereTold b (λ files. HasFetched files job chunks long) → Told b n (HasFile job.name found)
        → WhereTold b (DecodesFiles code job 0 [] n)
    told_files None n told w = tt
    told_files (Some old) None told w = absurd w
    told_files (Some old) (Some new) told w =
        all_read code job old chunks long 0 [] (Some new) told (λ never. absurd (never gives.0)) (λ _ much. absurd (omega (arith, much, gives.1)))
        (λ _ _. (refl, refl, (set, found, plan, is_decoded code job old chunks long set found told listed needs gives.2, ap (λ files. Some files) w)))

-- the file could not be written
told_unwritten : (code : CodeRows) (job : Job) (before now : Option FileMap) (chunks : List (Option (List ℕ))) (long : ℕ) → WhereTold before (λ files. HasFetched files job chunks long)
    → AreWhole job.unit long chunks → code.k * long ≤ max_file → Told before now (λ old new. KeepsOthers old new job.name)
    → Told before now (λ old new. CanDecode code job old × KeepsOthers old new job.name)
told_unwritten code job None None chunks long has whole few told = tt
told_unwritten code job None (Some new) chunks long has whole few told = absurd told
told_unwritten code job (Some old) None chunks long has whole few told = absurd told
told_unwritten code job (Some old) (Some new) chunks long has whole few told = (
  record {
    long = long;
    readable = readable old job.name job.wanted chunks has.fetched;
    whole = whole.0;
    lengths = have_length old job.name job.wanted job.unit long chunks has.fetched whole;
    short = few;
  },
  told,
)

-- what is written if the chunks make a file, or how far that came
pub decode_written : {T : Type 0} → (code : CodeRows) (job : Job) (before now : Option FileMap) (was is : ℕ) (rows : List (List ℕ)) (chunks : List (Option (List ℕ))) (long set n count : ℕ)
    (result : Result T Stop)
    → AreBelow code.n job.wanted → DecideTheData code job.wanted → WhereTold before (λ files. HasFetched files job chunks long) → IsReadPlan code job.wanted set
    → NeedsEach code set → ((p : ℕ) → HasPosition set p → IsAmong job.wanted p)
    → AreWhole job.unit long chunks → code.k * long ≤ max_file
    → ((found : List ℕ) → IsMade code.k job.unit n rows chunks count found → IsFileOfChunks code job.unit long set chunks found)
    → WritesMadeOrStops code.k job.unit n rows chunks count before now job.name result
    → (status_after result ≡ 5 → Rose was is) → (status_after result ≢ 5 → is ≡ was)
    → DecodeEnds code job (status_after result) (line_after result) before now was is
decode_written {T} code job before now was is rows chunks long set n count (Ok done) below decide has plan needs listed whole few gives w failed quiet =
    decode_done code job before now was is chunks long set w.0 below decide has plan needs listed (whole, few, gives w.0 w.1) w.2 (quiet (λ e. omega arith))
decode_written {T} code job before now was is rows chunks long set n count (Err (Failed shown)) below decide has plan needs listed whole few gives w failed quiet =
    inr (inl (below, decide, inr ((refl, ap failed_line w.0, failed refl), told_unwritten code job before now chunks long has whole few w.1)))
decode_written {T} code job before now was is rows chunks long set n count (Err NoMemory) below decide has plan needs listed whole few gives w failed quiet =
    inr (inr ((refl, refl), quiet (λ e. omega arith), w))
decode_written {T} code job before now was is rows chunks long set n count (Err Usage) below decide has plan needs listed whole few gives w failed quiet = absurd w
decode_written {T} code job before now was is rows chunks long set n count (Err (Profile x)) below decide has plan needs listed whole few gives w failed quiet = absurd w
decode_written {T} code job before now was is rows chunks long set n count (Err (Missing x)) below decide has plan needs listed whole few gives w failed quiet = absurd w
decode_written {T} code job before now was is rows chunks long set n count (Err NotDecided) below decide has plan needs listed whole few gives w failed quiet = absurd w
decode_written {T} code job before now was is rows chunks long set n count (Err Lengths) below decide has plan needs listed whole few gives w failed quiet = absurd w
decode_written {T} code job before now was is rows chunks long set n count (Err (TooLong x)) below decide has plan needs listed whole few gives w failed quiet = absurd w

-- what is answered with a reason to stop comes to it
pub by_reason : {T : Type 0} → (code : CodeRows) (job : Job) (before now : Option FileMap) (was is : ℕ) (result : Result T Stop) (stop : Stop)
    → IsErrAnd result (λ s. s ≡ stop) → DecodeEnds code job (status_of stop) (line_of stop) before now was is
    → DecodeEnds code job (status_after result) (line_after result) before now was is
by_reason {T} code job before now was is (Ok done) stop e ends = absurd e
by_reason {T} code job before now was is (Err s) stop e ends = subst (λ (x : Stop). DecodeEnds code job (status_of x) (line_of x) before now was is) (sym e) ends

-- a failed call has the status 5
pub decode_fails_5 : (code : CodeRows) (job : Job) (status : ℕ) (line : List ℕ) (before now : Option FileMap) (was is : ℕ)
    → DecodeUnread job status line before now was is ⊎ DecodeUnwritten code job status line before now was is → status ≡ 5
decode_fails_5 code job status line before now was is (inl (i, lt, fails, told, kept)) = fails.0
decode_fails_5 code job status line before now was is (inr (fails, told)) = fails.0
